-- What a cursor's reader answers.
use Rattle.std.specs.Prelude.{◌≡◌, ℕ, ◌+◌, ◌-◌, ◌<◌, ltb, if◌then◌else◌, length, drop, None, Option, Some, option_map, MatchOption}
use Rattle.rules.specs.Base.{Bytes}
use Rattle.rules.specs.Field.{Reader, bind, number}
use Rattle.input_cursor.specs.declared.Cursor.{Cursor}

-- c stands at a place of s.
pub record Stands (s : Bytes) (at : ℕ) (c : Cursor) : Type 0 where
  pub rec : c.rec.now ≡ s
  pub place : c.at ≡ at

-- where nothing was read a cursor stands at 0
abbrev pub left_at : {A : Type 0} → Option A → ℕ → Type 0
left_at None at = at ≡ 0
left_at (Some v) at = Unit {0}

-- From c on the rules' p reads what o says, and c' stands after it.
pub record Took {A : Type 0} (p : Reader A) (c : Cursor) (o : Option A) (c' : Cursor) : Type 0 where
  pub rec : c'.rec.now ≡ c.rec.now
  pub is : p (drop c.at c.rec.now) ≡ option_map (λ v. (v, drop c'.at c.rec.now)) o
  pub lost : left_at o c'.at

-- From c on there are n bytes, where o says, and c' stands after them; or fewer, o is none, and c' stands at 0.
pub record Skipped (n : ℕ) (c : Cursor) (o : Option ℕ) (c' : Cursor) : Type 0 where
  pub rec : c'.rec.now ≡ c.rec.now
  pub place : MatchOption o ((length c.rec.now - c.at < n) × (c'.at ≡ 0)) (λ i. (i ≡ c.at) × (c'.at ≡ i + n))

-- a byte below k
unfoldable pub below : ℕ → Reader ℕ
below k = bind (number 1) λ v s. if ltb v k then Some (v, s) else None
