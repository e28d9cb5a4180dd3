-- What a reader of a call's fields answers, from a place of the record up to its end.
use Rattle.std.specs.Prelude.{◌≡◌, ℕ, drop, Option, slice_get}
use Rattle.rules.specs.Base.{option, Bytes}
use Rattle.rules.specs.Data.{Call}
use Rattle.rules.specs.Field.{Reader, fail}
use Rattle.rules.specs.Record.{kinds, finished}

-- The fields from `at` on, and nothing more, say o.
pub record Reads (fields : Reader Call) (at : ℕ) (s : Bytes) (o : Option Call) : Type 0 where
  pub is : finished (fields (drop at s)) ≡ o

-- the fields of a kind
abbrev pub kind_fields : ℕ → Reader Call
kind_fields k = option (slice_get kinds k) fail (λ f. f)
