-- Of the links at an address that yield a stored msg2 the newest, that of the highest number, answers (document 02, paper 5); which answers that changes, beside those of the oldest as it was.
use Rattle.std.specs.Prelude.{if◌then◌else◌, None, Option, Some}
use mathlib.Core.Path.{◌≡◌, refl, sym, ap, ◌∙◌}
use mathlib.Core.Bool.{Bool, true, false, not}
use mathlib.Core.List.{List, [], ◌∷◌}
use Prim.Native.Nat.{ℕ, ◌<◌}
use native.Mathlib.Omega.{arith}
use borrow.Author.Tests.{ltb-true, ltb-false}
use lib.Dec.{eqb, ltb}
use Rattle.rules.specs.Base.{option, or_else, Bytes, find, All}
use Rattle.rules.specs.Std.{Ascending}
use Rattle.rules.specs.Data.{Pair, LinkRec, Leg, Held, Table, Hello, Source, Full, Rekey, Free, Reject, Output, Step, Result}
use Rattle.rules.specs.Links.{numbered, indexed}
use Rattle.rules.specs.Legs.{on_link, stored_msg2}
use Rattle.rules.specs.Settle.{writes, ok, held_at, Stored, stored_on, stored_in, stored, full, arrived, admit, attributed, msg1}
use Rattle.rules.specs.Entry.{Made, new}
use Rattle.rules.specs.Claim.{Fed, play}
use Rattle.rules.specs.Bounds.{IsByte, earlier_link, Ordered}
use Rattle.rules.proofs.Lists.{if_by, option_by, all_map, find_test, eqb_sound, eqb_same}
use Rattle.rules.proofs.Order.{all_find}
use Rattle.rules.proofs.Fields.{not_some}
use Rattle.rules.proofs.Bounds.{bounds}

-- ---- which link answers

-- o is what the link that it names yields, one of these
pub record Yields (p : Pair) (b : Bytes) (gs : List Leg) (s : List LinkRec) (o : Stored) : Type 0 where
  pub link : LinkRec
  pub live : find (numbered o.link) s ≡ Some link
  pub yields : stored_on p b gs link ≡ Some o

-- what is stored is what a link yields, and no link of a higher number yields any; or none yields any
pub data Newest (p : Pair) (b : Bytes) (gs : List Leg) (s : List LinkRec) : Option Stored → Type 0 where
  Nothing : All (λ r. stored_on p b gs r ≡ None) s → Newest p b gs s None
  Link : (o : Stored) → Yields p b gs s o → All (λ r. o.link < r.no → stored_on p b gs r ≡ None) s → Newest p b gs s (Some o)

-- ---- as it was: the oldest

unfoldable pub stored_then : Pair → Bytes → List Leg → List LinkRec → Option Stored
stored_then p b gs [] = None
stored_then p b gs (r ∷ s) = or_else (stored_on p b gs r) (stored_then p b gs s)

-- the answers with what is stored
abbrev pub arrived_stored : Table → Stored → Step
arrived_stored t o = writes (Output.Answer o.link true o.msg2 ∷ []) t

abbrev pub msg1_stored : Hello → Table → Stored → Result
msg1_stored x t o = ok (writes (Output.Answer o.link true o.msg2 ∷ Free x.lease ∷ []) t)

unfoldable pub arrived_then : Pair → Bytes → Table → Step
arrived_then p b t = option (stored_then p b t.legs t.links) (writes (if full t then Reject None Full ∷ [] else []) t) (arrived_stored t)

unfoldable pub msg1_then : ℕ → Hello → Bool → Table → Result
msg1_then now x reachable t =
    option (stored_then x.from x.bytes t.legs t.links)
    (option (held_at x.peer t) (admit now Source.NotHeld x t) λ h.
    if not (eqb h.epoch x.epoch) then admit now Source.Restart x t
    else ok (writes (Rekey x.peer (attributed h x.from t) reachable ∷ Free x.lease ∷ []) t))
    (msg1_stored x t)

-- ---- beside it

-- the answer then and the answer now, each as the call says it: the same, or the one with what an older link yields and the other with what a newer does
pub data Beside (p : Pair) (b : Bytes) (t : Table) {A : Type 0} (say : Stored → A) : A → A → Type 0 where
  Same : (a : A) → Beside p b t say a a
  Newer : (o n : Stored) → Yields p b t.legs t.links o → Yields p b t.legs t.links n → o.link < n.link → Beside p b t say (say o) (say n)

-- of arrived and msg1, the calls that ask for what is stored: the table and all else are the same
pub record NewestLink (t : Table) : Type 0 where
  pub stored_newest : (p : Pair) (b : Bytes) → Newest p b t.legs t.links (stored p b t)
  pub of_arrived : (p : Pair) (b : Bytes) → Beside p b t (arrived_stored t) (arrived_then p b t) (arrived p b t)
  pub of_msg1 : (now : ℕ) (x : Hello) (f : Bool) → Beside x.from x.bytes t (msg1_stored x t) (msg1_then now x f t) (msg1 now x f t)

-- ---- proved

module _ (p : Pair) (b : Bytes) (gs : List Leg) where
  -- what a link yields bears its number
  yields_own : (r : LinkRec) (o : Stored) → stored_on p b gs r ≡ Some o → o.link ≡ r.no
  unfolding stored_on
  yields_own r o = if_by P (indexed p r)
      (λ i. option_by P (find (on_link r.no) gs) (λ z e. not_some e) (λ g z. option_by P (stored_msg2 b g) (λ y e. not_some e) (λ m y e. cc)))
      (λ i e. not_some e)
    where
      P : Option Stored → Type 0
      P q = q ≡ Some o → o.link ≡ r.no

  own_number : {s : List LinkRec} {o : Stored} (y : Yields p b gs s o) → o.link ≡ y.link.no
  own_number {s} {o} y = eqb_sound o.link y.link.no (find_test (numbered o.link) s y.link y.live)

  module _ (r : LinkRec) (s : List LinkRec) where
    yields_here : {o : Stored} → stored_on p b gs r ≡ Some o → Yields p b gs (r ∷ s) o
    yields_here {o} e = record { link = r; live = rw (yields_own r o e, eqb_same r.no); yields = e }

    module _ (k : All (λ q. earlier_link r q ≡ true) s) {o : Stored} (y : Yields p b gs s o) where
      later : r.no < o.link
      later = omega (arith, own_number y, ltb-true r.no y.link.no (all_find (λ q. earlier_link r q ≡ true) (numbered o.link) s y.link y.live k))

      yields_later : Yields p b gs (r ∷ s) o
      yields_later = record { link = y.link; live = go (eqb o.link r.no) refl; yields = y.yields }
        where
          go : (c : Bool) → eqb o.link r.no ≡ c → (if c then Some r else find (numbered o.link) s) ≡ Some y.link
          go true e = absurd (omega (arith, later, eqb_sound o.link r.no e))
          go false e = y.live

  newest_in : (s : List LinkRec) → Ascending earlier_link s → Newest p b gs s (stored_in p b gs s)
  unfolding stored_in
  newest_in [] k = Nothing tt
  newest_in (r ∷ s) k = go (stored_in p b gs s) (newest_in s k.1) (stored_on p b gs r) refl
    where
      go : (q : Option Stored) → Newest p b gs s q → (w : Option Stored) → stored_on p b gs r ≡ w → Newest p b gs (r ∷ s) (or_else q w)
      go _ (Nothing a) None e = Nothing (e, a)
      go _ (Nothing a) (Some o) e = Link o (yields_here r s e)
          ((λ h. absurd (omega (arith, yields_own r o e))), all_map (λ q. stored_on p b gs q ≡ None) (λ q. o.link < q.no → stored_on p b gs q ≡ None) (λ q z h. z) s a)
      go _ (Link o y a) w e = Link o (yields_later r s k.0 y) ((λ h. absurd (omega (arith, later r s k.0 y))), a)

  module _ {s : List LinkRec} where
    -- one that yields is not among those that yield none
    silent : {C : Type 0} {q : Stored} → Yields p b gs s q → All (λ r. stored_on p b gs r ≡ None) s → C
    silent {q = q} y a = not_some (sym (all_find (λ r. stored_on p b gs r ≡ None) (numbered q.link) s y.link y.live a) ∙ y.yields)

    above : {C : Type 0} {n : ℕ} {q : Stored} → Yields p b gs s q → All (λ r. n < r.no → stored_on p b gs r ≡ None) s → n < q.link → C
    above {n = n} {q} y a h =
        let l : n < y.link.no = omega (arith, own_number y) in
        not_some (sym (all_find (λ r. n < r.no → stored_on p b gs r ≡ None) (numbered q.link) s y.link y.live a l) ∙ y.yields)

    -- nothing else is the newest
    pub sole : {o q : Option Stored} → Newest p b gs s o → Newest p b gs s q → o ≡ q
    sole (Nothing a) (Nothing c) = refl
    sole (Nothing a) (Link q y c) = silent y a
    sole (Link o x a) (Nothing c) = silent x c
    sole (Link o x a) (Link q y c) = go (ltb o.link q.link) refl (ltb q.link o.link) refl
      where
        go : (u : Bool) → ltb o.link q.link ≡ u → (v : Bool) → ltb q.link o.link ≡ v → Some o ≡ Some q
        go true e v f = above y a (ltb-true _ _ e)
        go false e true f = above x c (ltb-true _ _ f)
        go false e false f =
            let n : o.link ≡ q.link = omega (arith, ltb-false o.link q.link e, ltb-false q.link o.link f) in
            let l : Some x.link ≡ Some y.link = sym x.live ∙ ap (λ (k : ℕ). find (numbered k) s) n ∙ y.live in
            sym x.yields ∙ ap (λ (r : Option LinkRec). option r None (stored_on p b gs)) l ∙ y.yields

  -- what was found and what is
  data Both (s : List LinkRec) : Option Stored → Option Stored → Type 0 where
    Neither : Both s None None
    One : (o : Stored) → Yields p b gs s o → Both s (Some o) (Some o)
    Two : (o n : Stored) → Yields p b gs s o → Yields p b gs s n → o.link < n.link → Both s (Some o) (Some n)

  both_in : (s : List LinkRec) → Ascending earlier_link s → Both s (stored_then p b gs s) (stored_in p b gs s)
  unfolding stored_in stored_then
  both_in [] k = Neither
  both_in (r ∷ s) k = go (stored_then p b gs s) (stored_in p b gs s) (both_in s k.1) (stored_on p b gs r) refl
    where
      on : {o : Stored} → Yields p b gs s o → Yields p b gs (r ∷ s) o
      on y = yields_later r s k.0 y

      after : {w o : Stored} → stored_on p b gs r ≡ Some w → Yields p b gs s o → w.link < o.link
      after {w} e y = omega (arith, yields_own r w e, later r s k.0 y)

      go : (q n : Option Stored) → Both s q n → (w : Option Stored) → stored_on p b gs r ≡ w → Both (r ∷ s) (or_else w q) (or_else n w)
      go _ _ Neither None e = Neither
      go _ _ Neither (Some w) e = One w (yields_here r s e)
      go _ _ (One o y) None e = One o (on y)
      go _ _ (One o y) (Some w) e = Two w o (yields_here r s e) (on y) (after e y)
      go _ _ (Two o n x y h) None e = Two o n (on x) (on y) h
      go _ _ (Two o n x y h) (Some w) e = Two w n (yields_here r s e) (on y) (after e y)

module _ (t : Table) (k : Ordered t) where
  beside : (p : Pair) (b : Bytes) {A : Type 0} (x : A) (say : Stored → A)
      → Beside p b t say (option (stored_then p b t.legs t.links) x say) (option (stored p b t) x say)
  unfolding stored
  beside p b {A} x say = go (stored_then p b t.legs t.links) (stored_in p b t.legs t.links) (both_in p b t.legs t.links k.links)
    where
      go : (q n : Option Stored) → Both p b t.legs t.links q n → Beside p b t say (option q x say) (option n x say)
      go _ _ Neither = Same x
      go _ _ (One o y) = Same (say o)
      go _ _ (Two o n y z h) = Newer o n y z h

  arrived_of : (p : Pair) (b : Bytes) → Beside p b t (arrived_stored t) (arrived_then p b t) (arrived p b t)
  unfolding arrived arrived_then
  arrived_of p b = beside p b _ (arrived_stored t)

  msg1_of : (now : ℕ) (x : Hello) (f : Bool) → Beside x.from x.bytes t (msg1_stored x t) (msg1_then now x f t) (msg1 now x f t)
  unfolding msg1 msg1_then
  msg1_of now x f = beside x.from x.bytes _ (msg1_stored x t)

  stored_of : (p : Pair) (b : Bytes) → Newest p b t.legs t.links (stored p b t)
  unfolding stored
  stored_of p b = newest_in p b t.legs t.links k.links

pub newest_of : (t : Table) → Ordered t → NewestLink t
newest_of t k = record { stored_newest = stored_of t k; of_arrived = arrived_of t k; of_msg1 = msg1_of t k }

-- so after every list from an accepted record of new
pub newest_link : (r : Bytes) (t : Table) → All IsByte r → new r ≡ Made t → (s : List Fed) → All (λ x. All IsByte x.bytes) s → NewestLink (play s t).table
newest_link r t h e s k = newest_of _ (bounds r t h e s k).ordered
