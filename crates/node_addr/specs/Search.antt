-- A search over the addresses at the front of n entries of w bytes in a row, the place of a new one, and what both say of a map of such entries (lib_laws, specs/Store).
use Rattle.std.specs.Prelude.{◌≡◌, refl, Bool, List, [], ◌∷◌, ℕ, suc, ◌*◌, ◌≤◌, ◌<◌, length, map, take, drop, get_or, None, Option, Some}
use Rattle.std.proofs.Common.{sym, ap, ◌∙◌, arith, mul-le-mul_right}
use Rattle.rules.specs.Base.{option, Bytes}
use Rattle.rules.specs.Std as std
use Rattle.lib_laws.specs.Shift.{insert}
use Rattle.lib_laws.specs.Scan.{scan, Ahead, scan_start}
use Rattle.lib_laws.specs.Place.{insert_at, insert_last, insert_end}
use Rattle.lib_laws.specs.Chunk.{chunks, length_chunks, chunks_first}
use Rattle.lib_laws.specs.Fields.{front_at}
use Rattle.lib_laws.specs.Store.{Store, entries}

abbrev pub address : Bytes → Bytes
address c = take 16 c

abbrev pub addresses : ℕ → ℕ → Bytes → List Bytes
addresses w n s = map address (chunks w n s)

-- ---- the place r of a new entry: where the search o ended, else behind all n
pub record Takes (r : ℕ) (o : Option ℕ) (n : ℕ) : Type 0 where
  pub within : r ≤ n
  pub is : r ≡ option o n (λ i. i)

pub takes_here : {o : Option ℕ} {n i : ℕ} → o ≡ Some i → i < n → Takes i o n
takes_here e h = record { within = omega arith; is = rw e }

pub takes_end : {o : Option ℕ} {n : ℕ} → o ≡ None → Takes n o n
takes_end e = record { within = omega arith; is = rw e }

-- an insertion in the order of keys is one at that place
pub takes_insert : {B : Type 0} (less : B → B → Bool) (a : B) (g : List B) {r n : ℕ} → Takes r (scan (less a) 0 g) n → n ≡ length g → insert r a g ≡ std.insert less a g
takes_insert {B} less a g {r} {n} k e = go (scan (less a) 0 g) refl k.is
  where
    go : (o : Option ℕ) → scan (less a) 0 g ≡ o → r ≡ option o n (λ i. i) → insert r a g ≡ std.insert less a g
    go None q z = insert_end r a g (z ∙ e) ∙ sym (insert_last less a g q)
    go (Some i) q z = rw z (sym (insert_at less a g i q))

-- ---- the loop: where it starts, and that what a test says of the bytes at an entry's place it says of the entry's address
pub ahead_start : (t : Bytes → Bool) (w n : ℕ) (s : Bytes) → Ahead (scan t 0 (addresses w n s)) t address n (chunks w n s) 0
ahead_start t w n s =
    let l : length (chunks w n s) ≡ n = length_chunks w n s in
    rw (chunks_first w n s n (omega arith)) at (scan_start t address n (chunks w n s) (omega arith))

pub address_told : (t : Bytes → Bool) (s : Bytes) {w n i : ℕ} {k v : Bool} → 16 ≤ w → n * w ≤ length s → i < n → k ≡ t (take 16 (drop (i * w) s)) → k ≡ v → t (address (get_or (chunks w n s) i [])) ≡ v
address_told t s {w} {n} {i} b r h q z = ap t (front_at w n s i [] 16 h b r) ∙ sym q ∙ z

-- ---- a map: a test t of what an entry shows that is a test u of its address
scan_shown : {A B C : Type 0} (f : A → B) (g : A → C) (t : B → Bool) (u : C → Bool) → ((a : A) → t (f a) ≡ u (g a)) → (k : ℕ) (xs : List A) → scan t k (map f xs) ≡ scan u k (map g xs)
unfolding scan
scan_shown f g t u e k [] = refl
scan_shown f g t u e k (x ∷ xs) = rw (e x, scan_shown f g t u e (suc k) xs)

module _ {P : Bytes → Type 0} {w cap n : ℕ} {s : Bytes} (r : Store P w cap s) (e : n ≡ get_or s (cap * w) 0) where
  pub entries_room : n * w ≤ length s
  entries_room = let m : n * w ≤ cap * w = mul-le-mul_right w (omega arith) in omega arith

  pub entries_scan : {B : Type 0} (f : Bytes → B) (t : B → Bool) (u : Bytes → Bool) → ((c : Bytes) → t (f c) ≡ u (address c)) → scan u 0 (addresses w n s) ≡ scan t 0 (entries f w cap s)
  entries_scan f t u q = sym (rw (← e, chunks_first w cap s n (omega arith)) (scan_shown f address t u q 0 (chunks w n s)))

  pub entries_takes : {B : Type 0} (f : Bytes → B) (t : B → Bool) (u : Bytes → Bool) → ((c : Bytes) → t (f c) ≡ u (address c)) → {k : ℕ} → Takes k (scan u 0 (addresses w n s)) n → Takes k (scan t 0 (entries f w cap s)) (get_or s (cap * w) 0)
  entries_takes f t u q a = rw (← entries_scan f t u q, ← e) a
