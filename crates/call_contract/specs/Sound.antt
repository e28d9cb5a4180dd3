-- What holds of the table between the steps of a call, and the room that it gives.
use Rattle.std.specs.Prelude.{◌≡◌, ℕ, ◌+◌, ◌≤◌, ◌<◌, length, Some}
use Rattle.std.proofs.Common.{sym, subst, arith}
use Rattle.rules.specs.Base.{Bytes, All}
use Rattle.rules.specs.Std.{Ascending}
use Rattle.rules.specs.Data.{Leg, Held, Table, Call, Why}
use Rattle.rules.specs.Legs.{on_link}
use Rattle.rules.specs.Gates.{earlier_memory}
use Rattle.rules.specs.Settle.{leg_at, held_at, ends, removed, stamp, close_legs}
use Rattle.rules.specs.Record.{Timed}
use Rattle.rules.specs.Bounds.{Word, Widths, Bounds}
use Rattle.rules.proofs.Good.{Good}
use Rattle.rules.proofs.Calls.{fine_ends, fine_removed, fine_close_legs, good_stamp}
use Rattle.rules.proofs.Order.{length_less, ordered_stamp}
use Rattle.rules.proofs.Widths.{widths_ends, widths_removed, widths_stamp, widths_close_legs}
use Rattle.rules.proofs.Room.{room_held, room_leg, stays_stamp, limits_stays}
use Rattle.rules.proofs.Bounds.{Shaped, shaped, good}
use Rattle.lib_laws.specs.Place.{none_of}
use Rattle.gates_types.specs.View.{Within}
use Rattle.gates.specs.Order.{Room, fits_within}
use Rattle.table_layout.specs.View.{view_table, FitTable, Told}

pub record Sound (x : Table) : Type 0 where
  pub good : Good x
  pub shaped : Shaped x
  pub widths : Widths x

-- a table in memory that a step may be given
pub record Ready (t : Bytes) : Type 0 where
  pub fit : FitTable t
  pub sound : Sound (view_table t)

pub sound_bounds : (x : Table) → Bounds x → Sound x
sound_bounds x b = record { good = good x b; shaped = record { ordered = b.ordered; limits = b.limits }; widths = b.widths }

pub ready_told : {t : Bytes} {x : Table} → Told t x → Sound x → Ready t
ready_told a s = record { fit = a.fit; sound = subst Sound (sym a.shows) s }

-- ---- what the steps keep

abbrev clock : ℕ → Timed
clock now = record { now = now; call = Call.Poll }

module _ (x : Table) (s : Sound x) where
  -- a leg ends
  pub sound_ends : (g : Leg) → leg_at g.link x ≡ Some g → Sound (ends g x).table
  sound_ends g e = record { good = (fine_ends g x e s.good).good; shaped = (shaped (clock 0)).leg_ends x g e s.good s.shaped; widths = widths_ends x s.widths g }

  -- a holder goes
  pub sound_removed : (now : ℕ) (p : Bytes) (why : Why) (h : Held) → Word now → held_at p x ≡ Some h → Sound (removed now p why h x).table
  sound_removed now p why h w e = record {
    good = (fine_removed now p why h x e s.good).good;
    shaped = (shaped (clock now)).holder_goes x p why h e s.good s.shaped;
    widths = widths_removed x s.widths now p why h w e;
  }

  -- a heard holder is to be passed over
  pub sound_stamp : (now : ℕ) (p : Bytes) (h : Held) → Word now → held_at p x ≡ Some h → Sound (stamp now h x)
  sound_stamp now p h w e =
      let o = ordered_stamp x s.shaped.ordered now h in
      record {
        good = good_stamp now h x s.good;
        shaped = record { ordered = o; limits = limits_stays x s.shaped.limits (stamp now h x) o (stays_stamp x s.good now p h e) };
        widths = widths_stamp x s.widths now p h w e;
      }

  -- all legs end
  pub sound_legs : Sound (close_legs x).table
  sound_legs = record { good = (fine_close_legs x s.good).good; shaped = (shaped (clock 0)).legs_end x s.good s.shaped; widths = widths_close_legs x s.widths }

-- ---- room

module _ {x : Table} (s : Sound x) where
  -- as many links as legs and held peers together, 32 at most
  pub owners : length x.links ≡ length x.legs + length x.held
  owners = s.shaped.limits.owners

  pub links_most : length x.links ≤ 32
  links_most = s.shaped.limits.links

  pub gates_ordered : Ascending earlier_memory x.gates
  gates_ordered = s.shaped.ordered.gates

  pub gates_within : All (Within x.params) x.gates
  gates_within = fits_within x.params x.gates s.widths.gates

  -- the memory of a peer that is held, or that a leg names
  pub held_memory : (p : Bytes) (h : Held) → held_at p x ≡ Some h → Room p x.gates (length x.gates)
  held_memory p h e = record { room = λ z. room_held x p s.good s.shaped.ordered s.shaped.limits h e (none_of _ x.gates z) }

  pub leg_memory : (p : Bytes) (n : ℕ) (g : Leg) → leg_at n x ≡ Some g → g.peer ≡ Some p → Room p x.gates (length x.gates)
  leg_memory p n g e f = record { room = λ z. room_leg x p s.good s.shaped.ordered s.shaped.limits n g e f (none_of _ x.gates z) }

  -- a leg leaves room for a holder, and a holder for a leg
  pub held_room : (n : ℕ) (g : Leg) → leg_at n x ≡ Some g → length x.held < 32
  held_room n g e = omega (arith, owners, links_most, length_less (on_link n) x.legs g e)

  pub legs_room : length x.links < 32 → length x.legs < 32
  legs_room h = omega (arith, owners)
