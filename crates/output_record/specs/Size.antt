-- How many bytes each output takes.
use Rattle.std.specs.Prelude.{◌≡◌, refl, List, [], ◌∷◌, ℕ, ◌+◌, length, None, Some}
use Rattle.std.proofs.Common.{◌∙◌, arith, length-append}
use Rattle.rules.specs.Base.{Bytes, tally}
use Rattle.rules.specs.Data.{Output, Opened, Resend, Rekey, Install, Reset, Retire, Free, Retry, Reject}
use Rattle.rules.specs.Field.{message_bytes, frame}
use Rattle.rules.specs.Output.{pairs_bytes, list_bytes, install_bytes, output_bytes, output_record, outputs, done_record}
use Rattle.lib_laws.specs.Splice.{length_digits}
use Rattle.output_field.specs.Part.{length_pair}

abbrev pub size_of : Output → ℕ
size_of (Opened n) = 12
size_of (Output.Answer n s m) = 15 + length m
size_of (Resend n m) = 14 + length m
size_of (Rekey p o r) = 6 + length p
size_of (Install i) = 23 + length i.peer + length i.pair.addr
size_of (Reset p k) = 5 + length p
size_of (Output.Remove p w) = 5 + length p
size_of (Retire n s) = 13 + length (pairs_bytes s)
size_of (Output.Release n s) = 13 + length (pairs_bytes s)
size_of (Output.Close s) = 5 + length (pairs_bytes s)
size_of (Free l) = 8
size_of (Retry p) = 4 + length p
size_of (Reject None w) = 6
size_of (Reject (Some (p, s)) w) = 7 + length p
size_of (Output.Wake None) = 5
size_of (Output.Wake (Some t)) = 13

length_frame : (kind : ℕ) (fields : Bytes) → length (frame kind fields) ≡ 4 + length fields
unfolding frame
length_frame kind fields = simp (length-append, length_digits) (omega arith)

length_fields : (o : Output) → 4 + length (output_bytes o) ≡ size_of o
unfolding output_bytes install_bytes message_bytes list_bytes
length_fields (Opened n) = simp length_digits (omega arith)
length_fields (Output.Answer n s m) = simp (length-append, length_digits) (omega arith)
length_fields (Resend n m) = simp (length-append, length_digits) (omega arith)
length_fields (Rekey p o r) = simp length-append (omega arith)
length_fields (Install i) = simp (length-append, length_digits, length_pair) (omega arith)
length_fields (Reset p k) = simp length-append (omega arith)
length_fields (Output.Remove p w) = simp length-append (omega arith)
length_fields (Retire n s) = simp (length-append, length_digits) (omega arith)
length_fields (Output.Release n s) = simp (length-append, length_digits) (omega arith)
length_fields (Output.Close s) = simp (length-append, length_digits) (omega arith)
length_fields (Free l) = simp length_digits (omega arith)
length_fields (Retry p) = refl
length_fields (Reject None w) = refl
length_fields (Reject (Some (p, s)) w) = simp length-append (omega arith)
length_fields (Output.Wake None) = refl
length_fields (Output.Wake (Some t)) = simp length_digits (omega arith)

pub length_output : (o : Output) → length (output_record o) ≡ size_of o
unfolding output_record
length_output o = length_frame _ _ ∙ length_fields o

pub length_outputs : (s : List Output) → length (outputs s) ≡ tally size_of s
unfolding outputs
length_outputs [] = refl
length_outputs (o ∷ s) = simp (length-append, length_output, length_outputs s)

pub length_done : (number : ℕ) → length (done_record number) ≡ 5
unfolding done_record
length_done number = length_frame 0 (number ∷ [])
