-- A session as a state that steps, record by record. From Before it is the rules' session (proofs/After).
use Rattle.std.specs.Prelude.{List, [], ◌∷◌, ◌++◌}
use Rattle.rules.specs.Base.{Bytes}
use Rattle.rules.specs.Data.{Table}
use Rattle.rules.specs.Output.{outputs, done_record}
use Rattle.rules.specs.Entry.{Start, Made, Refused, new, call}

pub data State : Type 0 where
  -- no record yet
  Before : State
  -- new made a table
  Running : Table → State
  -- the first record was refused: its Done ended the session
  Over : State

-- what new's answer writes, and where the session stands then
abbrev pub opened : Start → Bytes × State
opened (Made t) = (done_record 0, Running t)
opened (Refused n) = (done_record n, Over)

-- what is written for a record, and where the session stands then
unfoldable pub next : Bytes → State → Bytes × State
next r Before = opened (new r)
next r (Running t) = let d = call r 10_240 t in (outputs d.step.outs ++ done_record d.number, Running d.step.table)
next r Over = ([], Over)

-- the same for records in a row: all that is written, and where the session stands after them
unfoldable pub after : List Bytes → State → Bytes × State
after [] x = ([], x)
after (r ∷ s) x = let a = next r x in let b = after s a.1 in (a.0 ++ b.0, b.1)
