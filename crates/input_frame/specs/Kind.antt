-- The bytes of the kinds of records.
use Rattle.std.specs.Prelude.{◌≡◌, ℕ, ◌<◌, ◌⊎◌, Result, MatchResult}
use Rattle.input_frame.specs.declared.kind.Kind.{Kind}
use Rattle.input_frame.specs.declared.kind.Kind.TheVariants as kind
use Rattle.input_frame.specs.declared.kind.UnknownKind.{UnknownKind}

abbrev pub code_of : Kind → ℕ
code_of kind.Dial = 1
code_of kind.Abandon = 2
code_of kind.Arrived = 3
code_of kind.Msg1 = 4
code_of kind.Replacement = 5
code_of kind.Sent = 6
code_of kind.Unsent = 7
code_of kind.Msg2 = 8
code_of kind.Restarted = 9
code_of kind.Heard = 10
code_of kind.Remove = 11
code_of kind.Poll = 12
code_of kind.Close = 13
code_of kind.Path = 14
code_of kind.Release = 15
code_of kind.Wake = 16
code_of kind.New = 17

-- the kind whose byte it is, or an error with a byte that is no kind's
abbrev pub Decodes : ℕ → Result Kind UnknownKind → Type 0
Decodes code r = MatchResult r (λ k. code_of k ≡ code) (λ e. (e.0 ≡ code) × ((code ≡ 0) ⊎ (17 < code)))
