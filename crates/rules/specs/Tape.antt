-- The program settle-tape: records in, outputs and Done out.
use Rattle.std.specs.Prelude.{List, [], ◌∷◌, ◌++◌, ℕ, zero, suc, ◌+◌, leb, length, take, drop, if◌then◌else◌}
use Rattle.rules.specs.Base.{option, Bytes}
use Rattle.rules.specs.Data.{Table}
use Rattle.rules.specs.Field.{number}
use Rattle.rules.specs.Output.{outputs, done_record}
use Rattle.rules.specs.Entry.{Made, Refused, new, call}

-- The bytes of the first record with its length, and of a cut one as many as there are (its length is then wrong: 3).
unfoldable pub extent : Bytes → ℕ
extent s = option (number 2 s) (length s) λ r. if leb (r.0 + 2) (length s) then r.0 + 2 else length s

-- the records of a tape, of at most so many bytes
unfoldable pub records : ℕ → Bytes → List Bytes
records zero s = []
records (suc k) [] = []
records (suc k) (b ∷ s) =
    let n : ℕ = extent (b ∷ s) in
    let rest : List Bytes = records k (drop n (b ∷ s)) in
    take n (b ∷ s) ∷ rest

-- After each call's outputs it writes Done.
unfoldable pub calls : List Bytes → Table → Bytes
calls [] t = []
calls (r ∷ s) t =
    let d = call r 10_240 t in
    outputs d.step.outs ++ done_record d.number ++ calls s d.step.table

-- The first record is a new; if it is refused, its Done ends the program. Empty input writes nothing.
unfoldable pub session : List Bytes → Bytes
session [] = []
session (r ∷ s) = elim (new r) [ Made t ↦ done_record 0 ++ calls s t | Refused n ↦ done_record n ]

unfoldable pub run : Bytes → Bytes
run tape = session (records (length tape) tape)
