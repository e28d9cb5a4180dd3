-- What is left of the elements as they move among the places: at the removal of one, and at a turn that brings one to the front.
use Rattle.std.proofs.Common.{◌≡◌, Bool, true, ℕ, suc, ◌+◌, ◌-◌, ◌≤◌, ◌<◌, List, [], ◌∷◌, ◌++◌, length, take, drop, get_or, set, ap, sym, ◌∙◌, arith, take-take, length-append, length-drop, length-take-le, drop-set-lt}
use Rattle.std.specs.List.{copy_within, items_where_true, remove}
use Rattle.std.proofs.lemmas.List.{drop-take, take_more_set}
use Rattle.std.proofs.lemmas.List.Edits.{take-paste}
use Rattle.std.proofs.Retain.{RetainInvariant, picked_push_true, retain_drops, retain_unvisited}

module _ {T : Type 0} where
  -- of the first n places: those from i + 1 on are copied to i
  pub take-closed : (xs : List T) (n i : ℕ) → i < length (take n xs) → n ≤ length xs → take (n - 1) (copy_within xs (i + 1) n i) ≡ remove (take n xs) i
  take-closed xs n i h f =
      let e = length-take-le n xs f in
      let r : ℕ = n - (i + 1) in
      let l = length-drop (i + 1) xs in
      let m : n - 1 ≡ i + r = omega arith in
      let w : suc i + r ≡ n = omega arith in
      let s : suc i ≡ i + 1 = omega arith in
      rw m (take-paste xs i (drop (i + 1) xs) r (omega arith) (omega arith))
      ∙ ap (λ us. us ++ take r (drop (i + 1) xs)) (sym (take-take i n xs (omega arith)))
      ∙ ap (λ vs. take i (take n xs) ++ vs) (ap (λ j. take r (drop j xs)) (sym s) ∙ sym (drop-take (suc i) r xs) ∙ ap (λ j. drop (suc i) (take j xs)) w)

  -- the element at i stays: it is written behind the k that stay of those before it
  pub kept_more : (bs : List Bool) (xs ys : List T) (k i : ℕ) (x : T) → k ≤ i → i < length ys → length ys ≡ length xs → x ≡ get_or ys i x
      → RetainInvariant bs xs ys k i → RetainInvariant (bs ++ true ∷ []) xs (set ys k x) (k + 1) (i + 1)
  kept_more bs xs ys k i x h f e r a =
      let s = a.0 in (
        length-append bs (true ∷ []) ∙ ap (λ j. j + 1) s,
        (
          take_more_set ys k x (omega arith)
              ∙ ap (λ us. us ++ x ∷ []) a.1.0
              ∙ ap (λ y. items_where_true bs xs ++ y ∷ []) (r ∙ retain_unvisited bs xs ys k i x a)
              ∙ sym (picked_push_true bs xs x (omega arith)),
          drop-set-lt (i + 1) ys k x (omega arith) ∙ (retain_drops bs xs ys k i a).1.1,
        ),
      )
