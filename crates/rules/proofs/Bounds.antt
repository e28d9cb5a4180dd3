-- What holds of every table that new or a call left: owners, order, limits and widths.
use Rattle.std.specs.Prelude.{Some}
use mathlib.Core.Path.{◌≡◌, refl}
use mathlib.Core.Bool.{Bool, true, false}
use mathlib.Core.List.{List, [], ◌∷◌}
use Prim.Native.Nat.{ℕ, ◌≤◌, ◌<◌}
use native.Mathlib.Omega.{arith}
use lib.Dec.{eqb}
use Rattle.rules.specs.Base.{Bytes, alter, tally, one, All}
use Rattle.rules.specs.Time.{Params}
use Rattle.rules.specs.Data.{Pair, LinkRec, Leg, Table, Hello, Why, Transition, Promote, Replace}
use Rattle.rules.specs.Links.{opened, numbered}
use Rattle.rules.specs.Legs.{on_link, dial_leg, answer_leg, resent, mark_sent, mark_unsent}
use Rattle.rules.specs.Settle.{dial, answer, dialed, distinct, places, leg_at, named, with_legs, ◌▸◌}
use Rattle.rules.specs.Record.{Timed}
use Rattle.rules.specs.Entry.{Made, new_table, new, call}
use Rattle.rules.specs.Claim.{Fed, play}
use Rattle.rules.specs.Bounds.{IsByte, Word, Exactly, ParamsFit, Widths, Ordered, Limits, Bounds}
use Rattle.rules.proofs.Lists.{eqb_sound}
use Rattle.rules.proofs.Good.{Good}
use Rattle.rules.proofs.Calls.{fair_call}
use Rattle.rules.proofs.Demand.{made, good_made}
use Rattle.rules.proofs.Walk.{Room, Closed, walk}
use Rattle.rules.proofs.Holders.{holders_new, holders_call}
use Rattle.rules.proofs.CallFits.{begun_fits, params_fit}
use Rattle.rules.proofs.Order.{find_none, ordered_joined, ordered_ends, ordered_removed, removed_gone, ordered_stamp, ordered_path, ordered_release, ordered_legs, ordered_restarted, ordered_heard, ordered_promote, ordered_dialed, ordered_moveto, ordered_close_legs}
use Rattle.rules.proofs.Size.{makes_call}
use Rattle.rules.proofs.Room.{Stays, stays_ends, stays_removed, stays_stamp, stays_promote, stays_dialed, stays_moveto, stays_legs, stays_restarted, stays_heard, stays_path, stays_release, stays_close_legs, stays_displaced, limits_stays, limits_joined}

-- ---- one call: order and limits, whatever its values

pub record Shaped (t : Table) : Type 0 where
  pub ordered : Ordered t
  pub limits : Limits t

-- a change that needs no more room
stays : {t u : Table} → Shaped t → Stays t u → Ordered u → Shaped u
stays {t} {u} y s o = record { ordered = o; limits = limits_stays t y.limits u o s }

module _ (x : Timed) where
  shaped_dial : (t : Table) (p : Bytes) (to : Pair) (m : Bytes) (l : ℕ) → Room p t → Good t → Shaped t → Shaped (dial x.now p to m l t).table
  unfolding dial dial_leg opened
  shaped_dial t p to m l r k y = let o = ordered_joined t y.ordered _ _ refl refl k in record { ordered = o; limits = limits_joined t y.limits _ _ p o refl r.0 r.1 }

  ordered_answer : (t : Table) (z : Hello) (b : Bool) → Good t → Ordered t → Ordered (answer x.now z b t).table
  unfolding answer answer_leg opened
  ordered_answer t z b k o = ordered_joined t o _ _ refl refl k

  shaped_answer : (t : Table) (z : Hello) → Room z.peer t → Good t → Shaped t → Shaped (answer x.now z false t).table
  unfolding answer answer_leg
  shaped_answer t z r k y = let o = ordered_answer t z false k y.ordered in record { ordered = o; limits = limits_joined t y.limits _ _ z.peer o refl r.0 r.1 }

  shaped_dialed : (t : Table) (p : Bytes) (g : Leg) (epoch : ℕ) (from : Pair) (how : Transition) → leg_at g.link t ≡ Some g → g.peer ≡ Some p
      → All (λ j. named p j ≡ false) t.held → Good t → Shaped t
      → Shaped (dialed x.now p g epoch from how t).table
  shaped_dialed t p g epoch from how e v n k y = stays y (stays_dialed t k x.now p g epoch from how e v) (ordered_dialed t y.ordered x.now p g epoch from how n)

  shaped_legs : (t : Table) (n : ℕ) (h : Leg → Leg) → ((g : Leg) → (h g).link ≡ g.link) → ((g : Leg) → (h g).peer ≡ g.peer) → Good t → Shaped t
      → Shaped (with_legs (alter (on_link n) h t.legs) t)
  shaped_legs t n h a b k y = stays y (stays_legs t k (on_link n) h b) (ordered_legs t y.ordered (on_link n) h a)

  pub shaped : Closed Shaped x
  unfolding resent
  shaped = record {
    dials = λ t p to m l q n r k y. shaped_dial t p to m l r k y;
    answers = λ t z b w n r k y. shaped_answer t z r k y;
    stamps = λ t z h b w k y. stays y (stays_stamp t k x.now z.peer h w) (ordered_stamp t y.ordered x.now h);
    displaced = λ t z s h b w n k y ku yu. stays y (stays_displaced t k x.now s z h w) (ordered_answer _ z true ku yu.ordered);
    resends = λ t n k y. shaped_legs t n (resent t.params x.now) (λ g. refl) (λ g. refl) k y;
    sents = λ t n k y. shaped_legs t n mark_sent (λ g. refl) (λ g. refl) k y;
    unsents = λ t n k y. shaped_legs t n mark_unsent (λ g. refl) (λ g. refl) k y;
    promotes = λ t p a g r e z v w u k y. stays y (stays_promote t k x.now p a g r e v) (ordered_promote t y.ordered x.now p a g r (find_none (named p) t.held w));
    completes = λ t p g epoch from c w k y. shaped_dialed t p g epoch from Promote c.leg c.peer (find_none (named p) t.held w) k y;
    replaces = λ t p g h epoch from c w k y e ku yu. shaped_dialed _ p g epoch from Replace e c.peer (removed_gone t y.ordered x.now p Why.OwnRestart h) ku yu;
    moves = λ t p g h epoch from c w k y. stays y (stays_moveto t k p g h from c.leg w) (ordered_moveto t y.ordered p g h from);
    restarts = λ t p epoch q k y. stays y (stays_restarted t k p epoch) (ordered_restarted t y.ordered p epoch);
    hears = λ t p from q k y. stays y (stays_heard t k x.now p from) (ordered_heard t y.ordered x.now p from);
    paths = λ t n p v q e k y. stays y (stays_path t k n p v) (ordered_path t y.ordered n p v);
    releases = λ t n p kept q k y. stays y (stays_release t k n p) (ordered_release t y.ordered n p);
    leg_ends = λ t g e k y. stays y (stays_ends t k g e) (ordered_ends t y.ordered g);
    holder_goes = λ t p why h e k y. stays y (stays_removed t k x.now p why h e) (ordered_removed t y.ordered x.now p why h);
    legs_end = λ t k y. stays y (stays_close_legs t k) (ordered_close_legs t y.ordered);
  }

-- ---- every table

-- numbers from next on are unused
unused : (n : ℕ) (s : List LinkRec) → All (λ r. r.no < n) s → (m : ℕ) → n ≤ m → tally (λ r. one (numbered m r)) s ≡ 0
unused n [] h m l = refl
unused n (r ∷ s) h m l = omega (arith, unused n s h.1 m l, other (eqb m r.no) refl)
  where
    other : (b : Bool) → eqb m r.no ≡ b → one b ≡ 0
    other true e = absurd (omega (arith, h.0, eqb_sound m r.no e))
    other false e = refl

pub good : (t : Table) → Bounds t → Good t
good t b = record { owned = b.owned; below = unused t.next t.links b.ordered.below }

-- and within its widths
pub record Measured (t : Table) : Type 0 where
  pub shaped : Shaped t
  pub widths : Widths t

measured_new : (me : Bytes) (first : ℕ) (c : Params) → Exactly 16 me → Word first → ParamsFit c → Measured (new_table me first c)
unfolding new_table places distinct
measured_new me first c m w p = record {
  shaped = record {
    ordered = record { links = tt; legs = tt; held = tt; gates = tt; below = tt };
    limits = record { links = omega arith; owners = refl; places = omega arith; gates = omega arith };
  };
  widths = record { me = m; params = p; next = w; links = tt; legs = tt; held = tt; gates = tt };
}

pub bounds_new : (r : Bytes) (t : Table) → All IsByte r → new r ≡ Made t → Bounds t
bounds_new r t h e =
    let y : Measured t = made Measured r t e (λ b z q. let w = begun_fits r b h z in measured_new b.me b.first b.params w.me w.first (params_fit b.params w.params q)) in
    record { owned = (good_made r t e).owned; holders = holders_new r t e; ordered = y.shaped.ordered; limits = y.shaped.limits; widths = y.widths }

pub bounds_call : (s : Bytes) (buffer : ℕ) (t : Table) → All IsByte s → Bounds t → Bounds (call s buffer t).step.table
bounds_call s buffer t h b =
    let k : Good t = good t b in
    let y = walk Shaped (λ u x e. shaped x) s buffer t k (record { ordered = b.ordered; limits = b.limits }) in
    record {
      owned = (fair_call (record { bytes = s; buffer = buffer }) t k).good.owned;
      holders = holders_call s buffer t k b.holders;
      ordered = y.ordered;
      limits = y.limits;
      widths = (makes_call s buffer t h b.widths b.limits).widths;
    }

bounds_play : (s : List Fed) (t : Table) → All (λ x. All IsByte x.bytes) s → Bounds t → Bounds (play s t).table
unfolding play ◌▸◌
bounds_play [] t h b = b
bounds_play (x ∷ s) t h b = bounds_play s _ h.1 (bounds_call x.bytes x.buffer t h.0 b)

pub bounds : (r : Bytes) (t : Table) → All IsByte r → new r ≡ Made t → (s : List Fed) → All (λ x. All IsByte x.bytes) s → Bounds (play s t).table
bounds r t h e s k = bounds_play s t k (bounds_new r t h e)
