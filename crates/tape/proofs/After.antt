-- From Before a session is the rules' session (rules Tape).
use Rattle.std.specs.Prelude.{◌≡◌, refl, List, [], ◌∷◌, ◌++◌, length}
use Rattle.std.proofs.Common.{ap, ◌∙◌, append-nil}
use Rattle.rules.specs.Base.{Bytes}
use Rattle.rules.specs.Data.{Table}
use Rattle.rules.specs.Output.{outputs, done_record}
use Rattle.rules.specs.Entry.{Start, Made, Refused, new, call}
use Rattle.rules.specs.Tape.{records, calls, session, run}
use Rattle.tape.specs.Session.{State, Before, Running, Over, opened, next, after}

after_over : (s : List Bytes) → after s Over ≡ ([], Over)
unfolding next after
after_over [] = refl
after_over (r ∷ s) = after_over s

after_calls : (s : List Bytes) (t : Table) → (after s (Running t)).0 ≡ calls s t
unfolding next after calls
after_calls [] t = refl
after_calls (r ∷ s) t =
    let d = call r 10_240 t in
    ap (λ (w : Bytes). outputs d.step.outs ++ done_record d.number ++ w) (after_calls s d.step.table)

pub session_after : (s : List Bytes) → (after s Before).0 ≡ session s
unfolding next after session
session_after [] = refl
session_after (r ∷ s) = go (new r)
  where
    go : (x : Start) → (opened x).0 ++ (after s (opened x).1).0 ≡ elim x [ Made t ↦ done_record 0 ++ calls s t | Refused n ↦ done_record n ]
    go (Made t) = ap (λ (w : Bytes). done_record 0 ++ w) (after_calls s t)
    go (Refused n) = ap (λ (a : Bytes × State). done_record n ++ a.0) (after_over s) ∙ append-nil (done_record n)

pub run_after : (tape : Bytes) → (after (records (length tape) tape) Before).0 ≡ run tape
unfolding run
run_after tape = session_after (records (length tape) tape)
