-- Branches, options and lists, as the definitions use them.
use Rattle.std.specs.Prelude.{Bool, true, false, ◌&&◌, ◌||◌, List, [], ◌∷◌, ℕ, ◌+◌, eqb, if◌then◌else◌, None, Option, Some}

-- `let Some(a) = o else { x }`, then f a
abbrev pub option {κ} : {A : Type 0} {B : Type κ} → Option A → B → (A → B) → B
option None x f = x
option (Some a) x f = f a

-- whether there is one
abbrev pub is : {A : Type 0} → Option A → Bool
is None = false
is (Some a) = true

-- the first, or else the second
abbrev pub or_else : {A : Type 0} → Option A → Option A → Option A
or_else None b = b
or_else (Some a) b = Some a

-- bytes, each below 256; a peer has 16, a digest 32
abbrev pub Bytes : Type 0
Bytes = List ℕ

-- equal, byte for byte
abbrev pub same : Bytes → Bytes → Bool
same [] [] = true
same [] (b ∷ t) = false
same (a ∷ s) [] = false
same (a ∷ s) (b ∷ t) = eqb a b && same s t

abbrev pub empty : {A : Type 0} → List A → Bool
empty [] = true
empty (a ∷ s) = false

module _ {A : Type 0} (test : A → Bool) where
  -- the first that passes
  abbrev pub find : List A → Option A
  find [] = None
  find (a ∷ s) = if test a then Some a else find s

  -- the list without the first that passes
  abbrev pub without : List A → List A
  without [] = []
  without (a ∷ s) = if test a then s else a ∷ without s

  -- the list with the first that passes changed
  abbrev pub alter : (A → A) → List A → List A
  alter f [] = []
  alter f (a ∷ s) = if test a then f a ∷ s else a ∷ alter f s

  abbrev pub any : List A → Bool
  any [] = false
  any (a ∷ s) = test a || any s

  -- all that pass
  abbrev pub keep : List A → List A
  keep [] = []
  keep (a ∷ s) = if test a then a ∷ keep s else keep s

-- the sum over a list
abbrev pub tally : {A : Type 0} → (A → ℕ) → List A → ℕ
tally f [] = 0
tally f (a ∷ s) = f a + tally f s

abbrev pub one : Bool → ℕ
one true = 1
one false = 0

-- what holds of each
abbrev pub All : {A : Type 0} → (A → Type 0) → List A → Type 0
All P [] = Unit {0}
All P (a ∷ s) = P a × All P s
