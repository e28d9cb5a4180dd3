-- Writers of outputs: records in a row make the outputs of a call.
use Rattle.std.specs.Prelude.{◌≡◌, refl, List, [], ◌∷◌, ◌++◌, ℕ, ◌+◌, ◌≤◌, length}
use Rattle.std.proofs.Common.{sym, append_assoc, append-nil, add-zero}
use Rattle.rules.specs.Base.{Bytes}
use Rattle.rules.specs.Data.{Output}
use Rattle.rules.specs.Output.{output_record, outputs, done_record}
use Rattle.lib_laws.specs.Splice.{splice_none, Wrote, wrote_then}
use Rattle.output_field.specs.Part.{header, framed}

pub done_written : {xs : Bytes} {at : ℕ} {ys : Bytes} {r : ℕ} {zs : Bytes} {q : ℕ} (number : ℕ)
    → Wrote xs at 4 (header 0 1) ys r → Wrote ys r 1 (number ∷ []) zs q → Wrote xs at 5 (done_record number) zs q
unfolding done_record
done_written number a b = framed 0 1 (number ∷ []) 5 a b refl refl

-- ---- records in a row

pub outputs_one : (o : Output) → outputs (o ∷ []) ≡ output_record o
unfolding outputs
outputs_one o = append-nil (output_record o)

pub outputs_append : (s t : List Output) → outputs (s ++ t) ≡ outputs s ++ outputs t
unfolding outputs
outputs_append [] t = refl
outputs_append (o ∷ s) t = rw (outputs_append s t, append_assoc (output_record o) (outputs s) (outputs t))

-- nothing yet
pub wrote_none : (xs : Bytes) (at : ℕ) → at ≤ length xs → Wrote xs at 0 (outputs []) xs at
unfolding outputs
wrote_none xs at h = record { end = sym (add-zero at); size = refl; room = rw add-zero h; is = sym (splice_none xs at) }

-- one
pub wrote_one : {xs : Bytes} {at n : ℕ} {ys : Bytes} {r : ℕ} (o : Output) → Wrote xs at n (output_record o) ys r → Wrote xs at n (outputs (o ∷ [])) ys r
wrote_one o a = rw (outputs_one o) a

-- one more
pub wrote_outputs : {xs : Bytes} {at n : ℕ} {ys : Bytes} {r m : ℕ} {zs : Bytes} {q : ℕ} (s : List Output) (o : Output)
    → Wrote xs at n (outputs s) ys r → Wrote ys r m (output_record o) zs q → Wrote xs at (n + m) (outputs (s ++ (o ∷ []))) zs q
wrote_outputs s o a b = rw (outputs_append s (o ∷ []), outputs_one o) (wrote_then a b)

-- more
pub wrote_more : {xs : Bytes} {at n : ℕ} {ys : Bytes} {r m : ℕ} {zs : Bytes} {q : ℕ} (s t : List Output)
    → Wrote xs at n (outputs s) ys r → Wrote ys r m (outputs t) zs q → Wrote xs at (n + m) (outputs (s ++ t)) zs q
wrote_more s t a b = rw (outputs_append s t) (wrote_then a b)

-- ---- the outputs s put at a place of xs, as many bytes as they take: what holds of a function that writes outputs, and of a loop
pub record Puts (xs : Bytes) (at : ℕ) (s : List Output) (ys : Bytes) (r : ℕ) : Type 0 where
  pub wrote : Wrote xs at (length (outputs s)) (outputs s) ys r

exactly : {xs : Bytes} {at n : ℕ} {bs ys : Bytes} {r : ℕ} → Wrote xs at n bs ys r → Wrote xs at (length bs) bs ys r
exactly a = rw a.size a

pub puts_none : (xs : Bytes) (at : ℕ) → at ≤ length xs → Puts xs at [] xs at
puts_none xs at h = record { wrote = exactly (wrote_none xs at h) }

pub puts_one : {xs : Bytes} {at n : ℕ} {ys : Bytes} {r : ℕ} (o : Output) → Wrote xs at n (output_record o) ys r → Puts xs at (o ∷ []) ys r
puts_one o a = record { wrote = exactly (wrote_one o a) }

pub puts_then : {xs : Bytes} {at : ℕ} {s : List Output} {ys : Bytes} {r m : ℕ} {zs : Bytes} {q : ℕ} (o : Output)
    → Puts xs at s ys r → Wrote ys r m (output_record o) zs q → Puts xs at (s ++ (o ∷ [])) zs q
puts_then {s = s} o a b = record { wrote = exactly (wrote_outputs s o a.wrote b) }

pub puts_more : {xs : Bytes} {at : ℕ} {s : List Output} {ys : Bytes} {r : ℕ} {t : List Output} {zs : Bytes} {q : ℕ}
    → Puts xs at s ys r → Puts ys r t zs q → Puts xs at (s ++ t) zs q
puts_more {s = s} {t = t} a b = record { wrote = exactly (wrote_more s t a.wrote b.wrote) }
