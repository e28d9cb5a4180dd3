-- Parts of parts, runs in two parts, and what a comparison of whole buffers says of what is in use.
use Rattle.std.specs.Prelude.{◌≡◌, refl, Bool, true, false, ◌&&◌, ℕ, ◌+◌, ◌≤◌, length, take, drop}
use Rattle.std.proofs.Common.{sym, ap, ◌∙◌, arith, eq-eqb, ne_eqb, take_all, take-append-drop}
use Rattle.rules.specs.Base.{Bytes, same}
use Rattle.rules.specs.Std.{before}
use Rattle.rules.specs.Data.{Pair, same_pair}
use Rattle.lib_laws.specs.Shift.{Kept}
pub use Rattle.lib_laws.specs.Part.{part_of}
pub use Rattle.lib_laws.specs.Cell.{byte_here}
use Rattle.lib_laws.specs.Buffer.{Any, kept_length}
use Rattle.lib_laws.specs.Words.{same_runs}
use Rattle.lib_laws.specs.Beside.{same_yes, same_no, same_true, same_apart}

-- a run in two parts
module _ (k m : ℕ) (s : Bytes) (at : ℕ) (t : Bytes) (from : ℕ) (h : at + k ≤ length s) (g : from + k ≤ length t) where
  two_runs : same (take (k + m) (drop at s)) (take (k + m) (drop from t)) ≡ (same (take k (drop at s)) (take k (drop from t)) && same (take m (drop (at + k) s)) (take m (drop (from + k) t)))
  two_runs = same_runs k m s at t from h g

  pub first_differs : same (take k (drop at s)) (take k (drop from t)) ≡ false → false ≡ same (take (k + m) (drop at s)) (take (k + m) (drop from t))
  first_differs e = sym (two_runs ∙ rw e)

  pub second_decides : {r : Bool} → same (take k (drop at s)) (take k (drop from t)) ≡ true → r ≡ same (take m (drop (at + k) s)) (take m (drop (from + k) t))
      → r ≡ same (take (k + m) (drop at s)) (take (k + m) (drop from t))
  second_decides e f = f ∙ sym (two_runs ∙ rw e)

same_differ : (x y : Bytes) → same x y ≡ false → x ≡ y → ⊥
same_differ x y e q = let z : ◌≡◌ {A = Bool} true false = sym (same_yes x y q) ∙ e in let u : ◌≡◌ {A = ℕ} 0 1 = cc in omega arith

-- arrays taken whole
pub same_whole : {r : Bool} (n : ℕ) (x y : Bytes) → length x ≡ n → length y ≡ n → r ≡ same (take n x) (take n y) → r ≡ same x y
same_whole n x y h k e = e ∙ rw (take_all n x (omega arith), take_all n y (omega arith))

pub same_front : {r : Bool} (n : ℕ) (x y : Bytes) → length x ≡ n → r ≡ same (take n x) y → r ≡ same x y
same_front n x y h e = e ∙ rw (take_all n x (omega arith))

pub before_front : {r : Bool} (n : ℕ) (x y : Bytes) → length x ≡ n → r ≡ before (take n x) y → r ≡ before x y
before_front n x y h e = e ∙ rw (take_all n x (omega arith))

pub before_whole : {r : Bool} (n : ℕ) (x y : Bytes) → length x ≡ n → length y ≡ n → r ≡ before (take n x) (take n y) → r ≡ before x y
before_whole n x y h k e = e ∙ rw (take_all n x (omega arith), take_all n y (omega arith))

-- buffers with as much in use, zeros behind; and with more or less
pub same_kept : {r : Bool} {cap n m : ℕ} {x y : Bytes} → Kept Any 0 cap n x → Kept Any 0 cap m y → n ≡ m → r ≡ same (take cap x) (take cap y) → r ≡ same (take n x) (take m y)
same_kept {cap = cap} {n} {m} {x} {y} a b h e = same_whole cap x y a.size b.size e ∙ rw h (go (same x y) refl)
  where
    go : (k : Bool) → same x y ≡ k → k ≡ same (take m x) (take m y)
    go true q = sym (same_yes (take m x) (take m y) (ap (λ (u : Bytes). take m u) (same_true x y q)))
    go false q = sym (same_no (take m x) (take m y) (λ f. same_differ x y q (
        sym (take-append-drop m x) ∙ rw (f, rw h at a.rest, ← b.rest) (take-append-drop m y))))

pub same_unlike : {cap n m : ℕ} {x y : Bytes} → Kept Any 0 cap n x → Kept Any 0 cap m y → (n ≡ m → ⊥) → false ≡ same (take n x) (take m y)
same_unlike {cap} {n} {m} {x} {y} a b h = sym (same_apart (take n x) (take m y) (λ e. h (sym (kept_length a) ∙ e ∙ kept_length b)))

-- pairs: the transports, and then the addresses
pub pair_unlike : (p q : Pair) → (p.transport ≡ q.transport → ⊥) → false ≡ same_pair p q
pair_unlike p q d = rw (ne_eqb p.transport q.transport d)

pub pair_like : {r : Bool} (p q : Pair) → p.transport ≡ q.transport → r ≡ same p.addr q.addr → r ≡ same_pair p q
pair_like p q e h = h ∙ sym (rw (eq-eqb p.transport q.transport e))

-- buffers with as much in use compared whole
pub same_arrays : {cap n m : ℕ} {x y : Bytes} → Kept Any 0 cap n x → Kept Any 0 cap m y → n ≡ m → same x y ≡ same (take n x) (take m y)
same_arrays {cap} {n} {m} {x} {y} a b h = same_kept a b h (same_whole' cap x y a.size b.size)
  where
    same_whole' : (n : ℕ) (x y : Bytes) → length x ≡ n → length y ≡ n → same x y ≡ same (take n x) (take n y)
    same_whole' n x y h k = rw (take_all n x (omega arith), take_all n y (omega arith))
