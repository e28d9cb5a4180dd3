-- Whether some element of a list passes a test, and those that pass, by loops over the places of a map.
use Rattle.std.specs.Prelude.{◌≡◌, refl, Bool, true, false, not, ◌&&◌, ◌||◌, List, [], ◌∷◌, ◌++◌, map, ℕ, suc, ◌+◌, ◌-◌, ◌≤◌, ◌<◌}
use Rattle.std.proofs.Common.{sym, ◌∙◌, append_assoc, append-nil, add-one, arith, rules, drop-cons, take-suc, take_all, drop_of_length-le, length-append}
use Rattle.std.proofs.Math.Seq.{take_at, drop_at, length-take-le}
use Rattle.std.proofs.Math.ListN.{length, take, drop, get_or}
use Rattle.std.proofs.lemmas.List.{length-map, map-append}
use Rattle.rules.specs.Base.{any, keep}
use Rattle.lib_laws.specs.Shift.{Kept, erase, length_erase}
use Rattle.lib_laws.specs.Scan.{shows_cons, length_shows}

-- the loop stands at i: the answer o is the answer of what is left
pub record Asking {A B : Type 0} (o : Bool) (t : B → Bool) (f : A → B) (n : ℕ) (ps : List A) (i : ℕ) : Type 0 where
  pub within : i ≤ n
  pub room : n ≤ length ps
  pub left : o ≡ any t (drop i (map f (take n ps)))

pub ask_start : {A B : Type 0} {P : A → Type 0} {b : A} {cap n : ℕ} {ps : List A} (t : B → Bool) (f : A → B) → Kept P b cap n ps → Asking (any t (map f (take n ps))) t f n ps 0
ask_start t f k = record { within = omega arith; room = omega arith; left = refl }

module _ {A B : Type 0} {o : Bool} {t : B → Bool} {f : A → B} {n : ℕ} {ps : List A} {i : ℕ} (a : Asking o t f n ps i) where
  pub ask_hit : (d : A) → i < n → t (f (get_or ps i d)) ≡ true → true ≡ o
  ask_hit d p q = sym (a.left ∙ rw (shows_cons f n ps i d a.room p, q))

  pub ask_skip : (d : A) → i < n → t (f (get_or ps i d)) ≡ false → Asking o t f n ps (i + 1)
  ask_skip d p q = record { within = omega arith; room = a.room; left = a.left ∙ rw (shows_cons f n ps i d a.room p, q, add-one) }

  pub ask_end : n ≤ i → false ≡ o
  ask_end p = sym (a.left ∙ rw (drop_of_length-le (map f (take n ps)) {i = i} (rw (length_shows f n ps a.room) p)))

-- ---- tests joined
pub or_true : (b : Bool) → (b || true) ≡ true
or_true true = refl
or_true false = refl

pub or_false : (b : Bool) → (b || false) ≡ b
or_false true = refl
or_false false = refl

pub and_true : (b : Bool) → (b && true) ≡ b
and_true true = refl
and_true false = refl

pub and_false : (b : Bool) → (b && false) ≡ false
and_false true = refl
and_false false = refl

pub and_then : {a b x y : Bool} → a ≡ x → a ≡ true → b ≡ y → b ≡ (x && y)
and_then e t q = q ∙ sym (rw (← e, t))

pub and_else : {a x : Bool} (y : Bool) → a ≡ x → a ≡ false → a ≡ (x && y)
and_else y e t = t ∙ sym (rw (← e, t))

pub or_then : {a x : Bool} (y : Bool) → a ≡ x → a ≡ true → a ≡ (x || y)
or_then y e t = t ∙ sym (rw (← e, t))

pub or_else : {a b x y : Bool} → a ≡ x → a ≡ false → b ≡ y → b ≡ (x || y)
or_else e t q = q ∙ sym (rw (← e, t))

pub or_last : {a y : Bool} (x : Bool) → a ≡ y → a ≡ true → a ≡ (x || y)
or_last x e t = t ∙ sym (rw (← e, t) (or_true x))

pub or_first : {a b x y : Bool} → a ≡ y → a ≡ false → b ≡ x → b ≡ (x || y)
or_first {x = x} e t q = q ∙ sym (rw (← e, t) (or_false x))

pub not_true : (b : Bool) → not b ≡ true → b ≡ false
not_true true e = cc
not_true false e = refl

pub not_false : (b : Bool) → not b ≡ false → b ≡ true
not_false true e = refl
not_false false e = cc

-- ---- a loop that drops, in place, what does not pass: it stands at j of the list u, which was xs
pub record Sifting {B : Type 0} (t : B → Bool) (xs u : List B) (j : ℕ) : Type 0 where
  pub within : j ≤ length u
  pub left : take j u ++ keep t (drop j u) ≡ keep t xs

pub sifting_start : {B : Type 0} (t : B → Bool) (xs : List B) → Sifting t xs xs 0
sifting_start t xs = record { within = omega arith; left = refl }

module _ {B : Type 0} {t : B → Bool} {xs u : List B} {j : ℕ} (a : Sifting t xs u j) where
  pub sifting_pass : (d : B) → j < length u → t (get_or u j d) ≡ true → Sifting t xs u (j + 1)
  sifting_pass d p q = record {
    within = omega arith;
    left = rw (add-one, take-suc u j d p) (append_assoc (take j u) (get_or u j d ∷ []) (keep t (drop (suc j) u)) ∙ sym (step (drop-cons u j d p)) ∙ a.left);
  }
    where
      step : drop j u ≡ get_or u j d ∷ drop (suc j) u → take j u ++ keep t (drop j u) ≡ take j u ++ (get_or u j d ∷ keep t (drop (suc j) u))
      step e = rw (e, q)

  pub sifting_drop : (d : B) {v : List B} → j < length u → t (get_or u j d) ≡ false → v ≡ erase j u → Sifting t xs v j
  unfolding erase
  sifting_drop d p q e =
      let l : length (take j u) ≡ j = length-take-le j u (omega arith) in
      record {
        within = rw (e, length-append) (omega arith);
        left = rw (e, take_at (take j u) (drop (j + 1) u) j l, drop_at (take j u) (drop (j + 1) u) j l, add-one) (sym (step (drop-cons u j d p)) ∙ a.left);
      }
    where
      step : drop j u ≡ get_or u j d ∷ drop (suc j) u → take j u ++ keep t (drop j u) ≡ take j u ++ keep t (drop (suc j) u)
      step e = rw (e, q)

  pub sifting_end : length u ≤ j → u ≡ keep t xs
  sifting_end p = sym (sym a.left ∙ rw (take_all j u p, drop_of_length-le u {i = j} p, append-nil))

-- what one turn of that loop did
pub record Sifted {B : Type 0} (t : B → Bool) (xs : List B) (j : ℕ) (u : List B) (r : ℕ) : Type 0 where
  pub keeps : {ys : List B} → Sifting t ys xs j → Sifting t ys u r
  pub less : length u - r < length xs - j

pub sifted_pass : {B : Type 0} {t : B → Bool} {xs : List B} {j : ℕ} (d : B) → j < length xs → t (get_or xs j d) ≡ true → Sifted t xs j xs (j + 1)
sifted_pass d p q = record { keeps = λ a. sifting_pass a d p q; less = omega arith }

pub sifted_drop : {B : Type 0} {t : B → Bool} {xs u : List B} {j : ℕ} (d : B) → j < length xs → t (get_or xs j d) ≡ false → u ≡ erase j xs → Sifted t xs j u j
sifted_drop {xs = xs} {j = j} d p q e =
    let l : length (erase j xs) ≡ length xs - 1 = length_erase j xs p in
    record { keeps = λ a. sifting_drop a d p q e; less = rw (e, l) (omega arith) }

pub ruleset asking = (rules, ask_start, ask_hit, ask_skip, ask_end)

-- ---- a loop that loads the values of which the list xs is shown
pub record Loading {A B : Type 0} (f : A → B) (xs : List B) (j : ℕ) (l : List A) : Type 0 where
  pub within : j ≤ length xs
  pub shows : map f l ≡ take j xs

pub loading_start : {A B : Type 0} (f : A → B) (xs : List B) → Loading f xs 0 []
loading_start f xs = record { within = omega arith; shows = refl }

module _ {A B : Type 0} {f : A → B} {xs : List B} {j : ℕ} {l : List A} (a : Loading f xs j l) where
  pub loading_count : length l ≡ j
  loading_count = sym (length-map l f) ∙ rw a.shows (length-take-le j xs a.within)

  pub loading_turn : (d : B) {v : A} {m : List A} → j < length xs → f v ≡ get_or xs j d → m ≡ l ++ (v ∷ []) → Loading f xs (j + 1) m
  loading_turn d {v} p e q = record {
    within = omega arith;
    shows = rw (q, map-append f l (v ∷ []), a.shows, e, add-one) (sym (take-suc xs j d p));
  }

  pub loading_end : length xs ≤ j → map f l ≡ xs
  loading_end p = a.shows ∙ take_all j xs p
