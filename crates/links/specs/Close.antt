-- The list of the connections to close: the addresses of a record once each, and those that no link uses.
use Rattle.std.specs.Prelude.{◌≡◌, Bool, ◌||◌, ℕ, suc, ◌+◌, ◌≤◌, ◌<◌, length, get_or, if◌then◌else◌, None, Some}
use Rattle.std.proofs.Math.Path.{refl, sym, ap}
use Rattle.std.proofs.Common.{◌∙◌, add-one, arith, lit≤, drop-cons, length-append, drop_of_length-le}
use Rattle.std.proofs.Math.Bool.{true, false, not}
use mathlib.Core.List.{List, [], ◌∷◌, ◌++◌, map, append_assoc, append-nil}
use Rattle.std.proofs.Math.ListN.{drop}
use Rattle.rules.specs.Base.{any, keep}
use Rattle.rules.specs.Data.{Pair, same_pair, PathRec, LinkRec}
use Rattle.rules.specs.Links.{numbered, in_use, once, addresses, retiring, released, releasing}
use Rattle.lib_laws.specs.Shift.{erase}
use Rattle.lib_laws.specs.Scan.{scan}
use Rattle.lib_laws.specs.Place.{find_at, find_nowhere, any_at, any_nowhere, without_at}
use Rattle.node_addr.specs.View.{view_pair}
use Rattle.links_entry.specs.View.{no_link, view_path, view_link}
use Rattle.links_entry.specs.declared.record.Path as path
use Rattle.links_entry.specs.declared.record.LinkRec as linkrec

-- ---- once each: membership is all that matters of those seen
module _ (a b : List Pair) (e : (q : Pair) → any (same_pair q) a ≡ any (same_pair q) b) where
  seen_more : (p q : Pair) → any (same_pair q) (p ∷ a) ≡ any (same_pair q) (p ∷ b)
  seen_more p q = rw (e q)

once_seen : (s a b : List Pair) → ((q : Pair) → any (same_pair q) a ≡ any (same_pair q) b) → once a s ≡ once b s
unfolding once
once_seen [] a b e = refl
once_seen (p ∷ s) a b e = rw (e p, once_seen s a b e, once_seen s (p ∷ a) (p ∷ b) (seen_more a b e p))

any_last : (t : Pair → Bool) (s : List Pair) (p : Pair) → any t (s ++ (p ∷ [])) ≡ any t (p ∷ s)
any_last t [] p = refl
any_last t (q ∷ s) p = rw (any_last t s p) (swap (t q) (t p) (any t s))
  where
    swap : (x y z : Bool) → (x || (y || z)) ≡ (y || (x || z))
    swap true true z = refl
    swap true false z = refl
    swap false y z = refl

-- the loop that lists the addresses xs, once each: it stands at j, and T is what it is to list
pub record Listing (T xs : List Pair) (j : ℕ) (out : List Pair) : Type 0 where
  pub within : j ≤ length xs
  pub few : length out ≤ j + 1
  pub left : out ++ once out (drop j xs) ≡ T

module _ {T xs : List Pair} {j : ℕ} {out : List Pair} (a : Listing T xs j out) where
  pub listing_turn : (d : Pair) {p : Pair} {new : List Pair} → j < length xs → p ≡ get_or xs j d → new ≡ (if any (same_pair p) out then out else (out ++ (p ∷ []))) → Listing T xs (j + 1) new
  unfolding once
  listing_turn d {p} {new} h q e = record {
    within = omega arith;
    few = rw e (count (any (same_pair p) out));
    left = rw (e, add-one) (go (any (same_pair p) out) refl) ∙ (rw (drop-cons xs j d h, ← q) at a.left);
  }
    where
      count : (b : Bool) → length (if b then out else (out ++ (p ∷ []))) ≤ j + 1 + 1
      count true = omega (arith, a.few)
      count false = rw length-append (omega (arith, a.few))

      go : (b : Bool) → any (same_pair p) out ≡ b
          → (if b then out else (out ++ (p ∷ []))) ++ once (if b then out else (out ++ (p ∷ []))) (drop (suc j) xs) ≡ out ++ once out (p ∷ drop (suc j) xs)
      go true q = rw q
      go false q =
          rw q
          (append_assoc out (p ∷ []) (once (out ++ (p ∷ [])) (drop (suc j) xs))
          ∙ ap (λ (r : List Pair). out ++ (p ∷ r)) (once_seen (drop (suc j) xs) (out ++ (p ∷ [])) (p ∷ out) (λ q. any_last (same_pair q) out p)))

  pub listing_end : length xs ≤ j → out ≡ T
  unfolding once
  listing_end p = sym (sym a.left ∙ rw (drop_of_length-le xs {i = j} p, append-nil))

-- it stands at the paths of a link, whose setup is listed
pub listing_from : (r : LinkRec) {out : List Pair} → out ≡ r.setup ∷ [] → Listing (addresses r) (map (λ (w : PathRec). w.pair) r.paths) 0 out
unfolding once addresses
listing_from r e = record { within = omega arith; few = rw e (lit≤ tt); left = rw e }

-- and at those of a record by value
pub map_pairs : (ps : List path.Path) → map (λ (w : PathRec). w.pair) (map view_path ps) ≡ map (λ (w : path.Path). view_pair w.pair) ps
map_pairs [] = refl
map_pairs (w ∷ ps) = ap (λ (s : List Pair). view_pair w.pair ∷ s) (map_pairs ps)

pub listing_start : (r : linkrec.LinkRec) {out : List Pair} → out ≡ view_pair r.setup ∷ [] → Listing (addresses (view_link r)) (map (λ (w : path.Path). view_pair w.pair) r.paths.items) 0 out
listing_start r e = rw map_pairs at (listing_from (view_link r) e)

-- ---- what a retired link, and a released path, leave to close
module _ (n : ℕ) (xs : List LinkRec) where
  pub retiring_is : {i : ℕ} {ys : List LinkRec} {us zs : List Pair} → scan (numbered n) 0 xs ≡ Some i → ys ≡ erase i xs → us ≡ addresses (get_or xs i no_link)
      → zs ≡ keep (λ p. not (in_use p ys)) us → zs ≡ retiring n xs
  unfolding retiring
  retiring_is {i} {ys} {us} e q r z =
      z ∙ sym (rw (find_at (numbered n) xs i e no_link, without_at (numbered n) xs i e, ← q, ← r))

  pub retiring_none : scan (numbered n) 0 xs ≡ None → [] ≡ retiring n xs
  unfolding retiring
  retiring_none e = sym (rw (find_nowhere (numbered n) xs e))

module _ (n : ℕ) (p : Pair) (xs : List LinkRec) where
  pub releasing_none : (k : Bool) → scan (numbered n) 0 xs ≡ None → [] ≡ releasing n p k xs
  unfolding releasing
  releasing_none k e = sym (rw (any_nowhere (numbered n) xs e))

  pub releasing_kept : {k : Bool} → k ≡ true → (if not k then (p ∷ []) else []) ≡ releasing n p k xs
  unfolding releasing
  releasing_kept {k} e = rw e (sym (go (not (any (numbered n) xs))))
    where
      go : (b : Bool) → (if b || true || in_use p (released n p xs) then [] else p ∷ []) ≡ []
      go true = refl
      go false = refl

  pub releasing_is : {i : ℕ} {k u : Bool} {ys : List LinkRec} → scan (numbered n) 0 xs ≡ Some i → k ≡ false → ys ≡ released n p xs → u ≡ in_use p ys
      → (if not u then (p ∷ []) else []) ≡ releasing n p k xs
  unfolding releasing
  releasing_is {i} {k} {u} e q r z = sym (rw (any_at (numbered n) xs i e, q, ← r, ← z) (go u))
    where
      go : (b : Bool) → (if b then [] else p ∷ []) ≡ (if not b then (p ∷ []) else [])
      go true = refl
      go false = refl
