-- How many answers may wait: as many as new was told, since no call changes the settings. More than there can be links are never reached.
use mathlib.Core.Path.{◌≡◌, refl, ap, ◌∙◌}
use mathlib.Core.Bool.{false}
use mathlib.Core.List.{List}
use Prim.Native.Nat.{ℕ, ◌<◌}
use native.Mathlib.Omega.{arith}
use borrow.Author.Tests.{lt-leb}
use lib.Dec.{leb}
use Rattle.rules.specs.Base.{Bytes, All}
use Rattle.rules.specs.Time.{Params}
use Rattle.rules.specs.Data.{Table, Step}
use Rattle.rules.specs.Legs.{answers, answering}
use Rattle.rules.specs.Settle.{held_at, full, dial, ends, removed, answer, stamp, promote, dialed, moveto, restarted, heard, close_legs}
use Rattle.rules.specs.Record.{Timed}
use Rattle.rules.specs.Entry.{Made, new}
use Rattle.rules.specs.Claim.{Fed, play}
use Rattle.rules.specs.Bounds.{IsByte, Limits}
use Rattle.rules.proofs.Lists.{option_by}
use Rattle.rules.proofs.Order.{length_keep}
use Rattle.rules.proofs.Demand.{good_made}
use Rattle.rules.proofs.Walk.{Closed, walks}
use Rattle.rules.proofs.Bounds.{bounds}

-- of a table that was made with the settings c
pub record Pending (c : Params) (t : Table) : Type 0 where
  pub settings : t.params ≡ c
  -- Full holds exactly while as many answers wait as may
  pub full_at : full t ≡ leb c.pending (answering t.legs)
  -- and never, where more may wait than there can be links
  pub never : 32 < c.pending → full t ≡ false

-- ---- proved

module _ (c : Params) where
  abbrev Keeps : Table → Type 0
  Keeps t = t.params ≡ c

  -- no call changes the settings
  kept : (x : Timed) → Closed Keeps x
  unfolding dial ends removed answer stamp promote dialed moveto restarted heard close_legs
  kept x = record {
    dials = λ t p to m l q n r k y. y;
    answers = λ t z b w n r k y. y;
    stamps = λ t z h b w k y. y;
    displaced = λ t z s h b w n k y ku yu. yu;
    resends = λ t n k y. y;
    sents = λ t n k y. y;
    unsents = λ t n k y. y;
    promotes = λ t p a g r e z v w u k y. y;
    completes = λ t p g epoch from d w k y. y;
    replaces = λ t p g h epoch from d w k y e ku yu. yu;
    moves = λ t p g h epoch from d w k y. y;
    restarts = λ t p epoch q k y. option_by (λ (s : Step). Keeps s.table) (held_at p t) (λ e. y) (λ h e. y);
    hears = λ t p from q k y. option_by (λ (s : Step). Keeps s.table) (held_at p t) (λ e. y) (λ h e. y);
    paths = λ t n p v q e k y. y;
    releases = λ t n p f q k y. y;
    leg_ends = λ t g e k y. y;
    holder_goes = λ t p why h e k y. y;
    legs_end = λ t k y. y;
  }

  -- an answer is a leg, and a leg has a link
  pending_of : (t : Table) → Limits t → Keeps t → Pending c t
  unfolding full answering
  pending_of t l e =
      let n : ℕ = answering t.legs in
      let f : full t ≡ leb c.pending n = ap (λ (d : Params). leb d.pending n) e in
      record { settings = e; full_at = f; never = λ h. f ∙ lt-leb c.pending n (omega (arith, l.links, l.owners, length_keep answers t.legs)) }

-- so after every list from an accepted record of new
pub pending : (r : Bytes) (t : Table) → All IsByte r → new r ≡ Made t → (s : List Fed) → All (λ x. All IsByte x.bytes) s → Pending t.params (play s t).table
pending r t h e s k = pending_of t.params _ (bounds r t h e s k).limits (walks (Keeps t.params) (λ u x w. kept t.params x) s t (good_made r t e) refl)
