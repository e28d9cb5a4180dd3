-- A cell is a field's bytes within an entry. What cells show, when they are canonical, and that canonical cells which show the same are the same.
use Rattle.std.specs.Prelude.{◌≡◌, refl, Bool, true, false, [], ◌∷◌, ◌++◌, ℕ, zero, suc, ◌+◌, ◌*◌, ◌^◌, ◌≤◌, ◌<◌, eqb, length, take, drop, get_or, replicate, if◌then◌else◌, None, Option, Some, is_some, unwrap_or, option_map}
use Rattle.std.proofs.Common.{sym, ap, ◌∙◌, add-zero, arith, lit<, get_or-take, get_or-drop, length-take, take-append-drop}
use Rattle.std.proofs.lemmas.List.{length-replicate}
use Rattle.rules.specs.Base.{option, is, one, Bytes, All}
use Rattle.rules.specs.Bounds.{IsByte}
use Rattle.rules.specs.Field.{more, digits}
use Rattle.lib_laws.specs.Splice.{length_digits}
use Rattle.lib_laws.specs.Round.{more_digits}
use Rattle.lib_laws.specs.Shift.{Kept}
use Rattle.lib_laws.specs.Buffer.{Any}

-- ---- what cells show

-- a number, big-endian
abbrev pub num : Bytes → ℕ
num s = more 0 s

abbrev pub byte_of : Bytes → ℕ
byte_of s = get_or s 0 0

abbrev pub flag_of : Bytes → Bool
flag_of s = eqb (byte_of s) 1

-- a length cell and a cell of bytes, zeros behind
abbrev pub text_of : Bytes → Bytes → Bytes
text_of n s = take (byte_of n) s

-- a flag cell and the value's cell, zeros where there is none
abbrev pub option_num : Bytes → Bytes → Option ℕ
option_num f s = if flag_of f then Some (num s) else None

abbrev pub option_bytes : Bytes → Bytes → Option Bytes
option_bytes f s = if flag_of f then Some s else None

-- an option's value, or the blank one
abbrev pub or_blank : {A : Type 0} → A → Option A → A
or_blank z o = option o z λ a. a

-- a byte where it stands, and a flag
pub byte_here : (s : Bytes) (at : ℕ) → get_or s at 0 ≡ byte_of (take 1 (drop at s))
byte_here s at = sym (get_or-take 1 (drop at s) 0 0 (lit< tt) ∙ get_or-drop at s 0 0 ∙ ap (λ (i : ℕ). get_or s i 0) (add-zero at))

pub flag_here : (s : Bytes) (at : ℕ) → eqb (get_or s at 0) 1 ≡ flag_of (take 1 (drop at s))
flag_here s at = ap (λ (x : ℕ). eqb x 1) (byte_here s at)

-- ---- canonical cells

-- one byte below k: a flag is below 2, an enum's case below the number of cases
pub record Code (k : ℕ) (s : Bytes) : Type 0 where
  pub size : length s ≡ 1
  pub low : byte_of s < k

pub record Text (cap : ℕ) (n s : Bytes) : Type 0 where
  pub size : length n ≡ 1
  pub kept : Kept Any 0 cap (byte_of n) s

-- zeros where the flag says none
pub record Optional (w : ℕ) (f s : Bytes) : Type 0 where
  pub flag : Code 2 f
  pub size : length s ≡ w
  pub blank : flag_of f ≡ false → s ≡ replicate w 0

-- ---- canonical cells that show the same are the same

single : (s : Bytes) → length s ≡ 1 → s ≡ byte_of s ∷ []
single [] e = absurd (omega arith)
single (a ∷ []) e = refl
single (a ∷ b ∷ s) e = absurd (omega arith)

pub byte_same : {k : ℕ} {s u : Bytes} → Code k s → Code k u → byte_of s ≡ byte_of u → s ≡ u
byte_same {s = s} {u} a b e = single s a.size ∙ ap (λ (x : ℕ). x ∷ []) e ∙ sym (single u b.size)

pub flag_same : {s u : Bytes} → Code 2 s → Code 2 u → flag_of s ≡ flag_of u → s ≡ u
flag_same {s} {u} a b e = byte_same a b (go (byte_of s) (byte_of u) a.low b.low e)
  where
    go : (x y : ℕ) → x < 2 → y < 2 → eqb x 1 ≡ eqb y 1 → x ≡ y
    go zero zero p q f = refl
    go zero (suc zero) p q f = cc
    go zero (suc (suc y)) p q f = absurd (omega arith)
    go (suc zero) zero p q f = cc
    go (suc zero) (suc zero) p q f = refl
    go (suc zero) (suc (suc y)) p q f = absurd (omega arith)
    go (suc (suc x)) y p q f = absurd (omega arith)

-- numbers of as many bytes
more_same : (a b : ℕ) (s u : Bytes) → All IsByte s → All IsByte u → length s ≡ length u → more a s ≡ more b u → (a ≡ b) × (s ≡ u)
unfolding more
more_same a b [] [] p q e f = (f, refl)
more_same a b [] (y ∷ u) p q e f = absurd (omega arith)
more_same a b (x ∷ s) [] p q e f = absurd (omega arith)
more_same a b (x ∷ s) (y ∷ u) p q e f =
    let r : (a * 256 + x ≡ b * 256 + y) × (s ≡ u) = more_same (a * 256 + x) (b * 256 + y) s u p.1 q.1 (omega arith) f in
    let x-small : x < 256 = p.0 in
    let y-small : y < 256 = q.0 in
    let sums : a * 256 + x ≡ b * 256 + y = r.0 in
    let heads : x ≡ y = omega arith in
    let tails : s ≡ u = r.1 in
    (omega arith, cc)

pub num_same : (s u : Bytes) → All IsByte s → All IsByte u → length s ≡ length u → num s ≡ num u → s ≡ u
num_same s u p q e f = (more_same 0 0 s u p q e f).1

pub text_same : {cap : ℕ} {n m s u : Bytes} → Text cap n s → Text cap m u → text_of n s ≡ text_of m u → (n ≡ m) × (s ≡ u)
text_same {cap} {n} {m} {s} {u} a b e =
    let ns : byte_of n ≤ length s = omega arith in
    let mu : byte_of m ≤ length u = omega arith in
    let lens : byte_of n ≡ byte_of m = omega (arith, simp length-take at (ap length e)) in
    let rests : drop (byte_of n) s ≡ drop (byte_of m) u = a.kept.rest ∙ rw lens (sym b.kept.rest) in (
      single n a.size ∙ ap (λ (x : ℕ). x ∷ []) lens ∙ sym (single m b.size),
      sym (take-append-drop (byte_of n) s) ∙ rw (e, rests) (take-append-drop (byte_of m) u),
    )

pub option_num_same : {w : ℕ} {f g s u : Bytes} → Optional w f s → Optional w g u → All IsByte s → All IsByte u → option_num f s ≡ option_num g u → (f ≡ g) × (s ≡ u)
option_num_same {w} {f} {g} {s} {u} a b p q e = go (flag_of f) (flag_of g) refl refl e
  where
    go : (x y : Bool) → flag_of f ≡ x → flag_of g ≡ y → (if x then Some (num s) else None) ≡ (if y then Some (num u) else None) → (f ≡ g) × (s ≡ u)
    go true true h k z = (flag_same a.flag b.flag (h ∙ sym k), num_same s u p q (a.size ∙ sym b.size) (cc))
    go true false h k z = let c : ◌≡◌ {A = ℕ} 0 1 = cc in absurd (omega arith)
    go false true h k z = let c : ◌≡◌ {A = ℕ} 0 1 = cc in absurd (omega arith)
    go false false h k z = (flag_same a.flag b.flag (h ∙ sym k), a.blank h ∙ sym (b.blank k))

pub option_bytes_same : {w : ℕ} {f g s u : Bytes} → Optional w f s → Optional w g u → option_bytes f s ≡ option_bytes g u → (f ≡ g) × (s ≡ u)
option_bytes_same {w} {f} {g} {s} {u} a b e = go (flag_of f) (flag_of g) refl refl e
  where
    go : (x y : Bool) → flag_of f ≡ x → flag_of g ≡ y → (if x then Some s else None) ≡ (if y then Some u else None) → (f ≡ g) × (s ≡ u)
    go true true h k z = (flag_same a.flag b.flag (h ∙ sym k), cc)
    go true false h k z = let c : ◌≡◌ {A = ℕ} 0 1 = cc in absurd (omega arith)
    go false true h k z = let c : ◌≡◌ {A = ℕ} 0 1 = cc in absurd (omega arith)
    go false false h k z = (flag_same a.flag b.flag (h ∙ sym k), a.blank h ∙ sym (b.blank k))

-- ---- what is written shows as it was

pub flag_shows : (b : Bool) → eqb (one b) 1 ≡ b
flag_shows true = refl
flag_shows false = refl

pub flag_code : (b : Bool) → Code 2 (one b ∷ [])
flag_code true = record { size = refl; low = lit< tt }
flag_code false = record { size = refl; low = lit< tt }

-- ---- optional cells as they are written: the flag, then the value, zeros where there is none
abbrev pub flag_cell : {A : Type 0} → Option A → Bytes
flag_cell o = one (is o) ∷ []

abbrev pub number_cells : Option ℕ → Bytes
number_cells o = flag_cell o ++ digits 8 (or_blank 0 o)

abbrev pub bytes_cells : ℕ → Option Bytes → Bytes
bytes_cells n o = flag_cell o ++ or_blank (replicate n 0) o

pub optional_number : (o : Option ℕ) → Optional 8 (flag_cell o) (digits 8 (or_blank 0 o))
unfolding digits
optional_number None = record { flag = flag_code false; size = refl; blank = λ e. refl }
optional_number (Some v) = record { flag = flag_code true; size = length_digits 8 v; blank = λ e. cc }

pub optional_bytes : (n : ℕ) (o : Option Bytes) → option o (Unit {0}) (λ s. length s ≡ n) → Optional n (flag_cell o) (or_blank (replicate n 0) o)
optional_bytes n None h = record { flag = flag_code false; size = length-replicate n 0; blank = λ e. refl }
optional_bytes n (Some s) h = record { flag = flag_code true; size = h; blank = λ e. cc }

pub number_shows : (o : Option ℕ) → or_blank 0 o < 256 ^ 8 → option_num (flag_cell o) (digits 8 (or_blank 0 o)) ≡ o
number_shows None h = refl
number_shows (Some v) h = rw (more_digits 8 v h)

pub bytes_show : (n : ℕ) (o : Option Bytes) → option_bytes (flag_cell o) (or_blank (replicate n 0) o) ≡ o
bytes_show n None = refl
bytes_show n (Some s) = refl

-- the library's words for these
pub is_some_is : {A : Type 0} (o : Option A) → is_some o ≡ is o
is_some_is None = refl
is_some_is (Some a) = refl

pub unwrap_or_is : {A : Type 0} (z : A) (o : Option A) → unwrap_or o z ≡ or_blank z o
unwrap_or_is z None = refl
unwrap_or_is z (Some a) = refl

pub mapped_some : {A B : Type 0} (f : A → B) {o : Option A} {p : Option B} {a : A} → option_map f o ≡ p → o ≡ Some a → p ≡ Some (f a)
mapped_some f e q = sym e ∙ ap (option_map f) q

pub mapped_none : {A B : Type 0} (f : A → B) {o : Option A} {p : Option B} → option_map f o ≡ p → o ≡ None → p ≡ None
mapped_none f e q = sym e ∙ ap (option_map f) q
