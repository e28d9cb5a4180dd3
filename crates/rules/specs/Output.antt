-- The bytes of the outputs 1 to 14, and of Done.
use Rattle.std.specs.Prelude.{List, [], ◌∷◌, ◌++◌, ℕ, length, None, Option, Some}
use Rattle.rules.specs.Base.{Bytes}
use Rattle.rules.specs.Data.{Pair, Source, Refusal, Denial, Full, Gate, Build, Fresh, FromCarry, Transition, Promote, Replace, Move, Keep, Roam, Installed, Output, Opened, Resend, Rekey, Install, Reset, Retire, Free, Retry, Reject, NotHeld, OwnMsg2, RekeyMsg2, Unheard, Dampened, Replayed, ReplayFull, Silent}
use Rattle.rules.specs.Field.{digits, flag_bytes, pair_bytes, message_bytes, why_code, frame}

-- ---- codes

abbrev pub build_code : Build → ℕ
build_code Fresh = 0
build_code FromCarry = 1

abbrev pub transition_code : Transition → ℕ
transition_code Promote = 0
transition_code Replace = 1
transition_code Move = 2
transition_code Keep = 3
transition_code Transition.Restarted = 4
transition_code Roam = 5

abbrev pub source_code : Source → ℕ
source_code NotHeld = 0
source_code Source.Restart = 1
source_code Source.Replacement = 2
source_code OwnMsg2 = 3
source_code RekeyMsg2 = 4

abbrev pub refusal_code : Refusal → ℕ
refusal_code Unheard = 1
refusal_code Refusal.Heard = 2
refusal_code Dampened = 3
refusal_code Replayed = 4
refusal_code ReplayFull = 5
refusal_code Silent = 6

-- `Denial::Gate` carries a `Refusal`
abbrev pub denial_code : Denial → ℕ
denial_code Full = 0
denial_code (Gate r) = refusal_code r

-- ---- parts

abbrev pub pairs_bytes : List Pair → Bytes
pairs_bytes [] = []
pairs_bytes (p ∷ s) = pair_bytes p ++ pairs_bytes s

-- a count byte and pairs
unfoldable pub list_bytes : List Pair → Bytes
list_bytes s = digits 1 (length s) ++ pairs_bytes s

-- a flag, then with 1 peer and source
abbrev pub asker_bytes : Option (Bytes × Source) → Bytes
asker_bytes None = 0 ∷ []
asker_bytes (Some (p, s)) = 1 ∷ (p ++ (source_code s ∷ []))

-- a flag, with 1 a time of 8
abbrev pub time_bytes : Option ℕ → Bytes
time_bytes None = 0 ∷ []
time_bytes (Some at) = 1 ∷ digits 8 at

unfoldable pub install_bytes : Installed → Bytes
install_bytes i =
    i.peer ++ digits 8 i.link ++ pair_bytes i.pair ++ (build_code i.build ∷ []) ++ flag_bytes i.initiator ++ digits 4 i.lease

-- ---- outputs

abbrev pub output_kind : Output → ℕ
output_kind (Opened n) = 1
output_kind (Output.Answer n s m) = 2
output_kind (Resend n m) = 3
output_kind (Rekey p o r) = 4
output_kind (Install i) = 5
output_kind (Reset p k) = 6
output_kind (Output.Remove p w) = 7
output_kind (Retire n s) = 8
output_kind (Output.Release n s) = 9
output_kind (Output.Close s) = 10
output_kind (Free l) = 11
output_kind (Retry p) = 12
output_kind (Reject a w) = 13
output_kind (Output.Wake w) = 14

unfoldable pub output_bytes : Output → Bytes
output_bytes (Opened n) = digits 8 n
output_bytes (Output.Answer n s m) = digits 8 n ++ flag_bytes s ++ message_bytes m
output_bytes (Resend n m) = digits 8 n ++ message_bytes m
output_bytes (Rekey p o r) = p ++ flag_bytes o ++ flag_bytes r
output_bytes (Install i) = install_bytes i
output_bytes (Reset p k) = p ++ (transition_code k ∷ [])
output_bytes (Output.Remove p w) = p ++ (why_code w ∷ [])
output_bytes (Retire n s) = digits 8 n ++ list_bytes s
output_bytes (Output.Release n s) = digits 8 n ++ list_bytes s
output_bytes (Output.Close s) = list_bytes s
output_bytes (Free l) = digits 4 l
output_bytes (Retry p) = p
output_bytes (Reject a w) = asker_bytes a ++ (denial_code w ∷ [])
output_bytes (Output.Wake w) = time_bytes w

unfoldable pub output_record : Output → Bytes
output_record o = frame (output_kind o) (output_bytes o)

-- what a call writes: its outputs one after another
unfoldable pub outputs : List Output → Bytes
outputs [] = []
outputs (o ∷ s) = output_record o ++ outputs s

-- Done: kind 0, number (0 for none)
unfoldable pub done_record : ℕ → Bytes
done_record number = frame 0 (number ∷ [])
