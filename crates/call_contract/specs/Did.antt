-- What a step did: the table shows what the rule gives, and the rule's outputs stand in the buffer.
use Rattle.std.specs.Prelude.{◌≡◌, refl, List, [], ◌∷◌, ◌++◌, ℕ, ◌+◌, ◌≤◌, length}
use Rattle.std.proofs.Common.{sym, ap, ◌∙◌, subst, arith, length-append}
use Rattle.rules.specs.Base.{Bytes}
use Rattle.rules.specs.Data.{Output, Table, Step, Result}
use Rattle.rules.specs.Output.{output_record, outputs}
use Rattle.rules.specs.Settle.{still, ok, refuse, ◌▸◌}
use Rattle.std.specs.Prelude as prelude
use Rattle.std.specs.Prelude.{Ok, Err}
use Rattle.refusal.specs.declared.Refusal.{Refusal}
use Rattle.lib_laws.specs.Splice.{Wrote, length_splice}
use Rattle.output_record.specs.Size.{size_of, length_output}
use Rattle.output_record.specs.Write.{Puts, puts_none, puts_one, puts_more, outputs_append}
use Rattle.table_layout.specs.View.{view_table, FitTable, Told}
use Rattle.table_layout.proofs.Told.{told_same}

-- where the outputs end of a step that began at a place: there, where it was refused
abbrev pub end_of : ℕ → prelude.Result ℕ Refusal → ℕ
end_of at (Ok r) = r
end_of at (Err e) = at

-- ---- room in the buffer o from a place on for the outputs s

pub record Space (o : Bytes) (at : ℕ) (s : List Output) : Type 0 where
  pub room : at + length (outputs s) ≤ length o

-- the table t after it, the buffer o' after it, and the next place r
pub record Did (o : Bytes) (at : ℕ) (t o' : Bytes) (r : ℕ) (s : Step) : Type 0 where
  pub table : Told t s.table
  pub puts : Puts o at s.outs o' r

-- a step that may be refused, on the table t: then not a byte has changed
pub record Ruled (t o : Bytes) (at : ℕ) (t' o' : Bytes) (n r : ℕ) (d : Result) : Type 0 where
  pub number : n ≡ d.number
  pub did : Did o at t' o' r d.step
  pub kept : (n ≡ 0 → ⊥) → (t' ≡ t) × (o' ≡ o)

-- ---- by another name

pub space_is : {o : Bytes} {at : ℕ} {s u : Step} → Space o at s.outs → s ≡ u → Space o at u.outs
space_is {o} {at} a e = subst (λ (x : Step). Space o at x.outs) e a

pub did_is : {o : Bytes} {at : ℕ} {t o' : Bytes} {r : ℕ} {s u : Step} → Did o at t o' r s → s ≡ u → Did o at t o' r u
did_is {o} {at} {t} {o'} {r} a e = subst (λ (x : Step). Did o at t o' r x) e a

pub space_result : {o : Bytes} {at : ℕ} {d e : Result} → Space o at d.step.outs → d ≡ e → Space o at e.step.outs
space_result {o} {at} a e = subst (λ (x : Result). Space o at x.step.outs) e a

pub ruled_is : {t o : Bytes} {at : ℕ} {t' o' : Bytes} {n r : ℕ} {d e : Result} → Ruled t o at t' o' n r d → d ≡ e → Ruled t o at t' o' n r e
ruled_is {t} {o} {at} {t'} {o'} {n} {r} a e = subst (λ (x : Result). Ruled t o at t' o' n r x) e a

-- ---- outputs one after another

pub space_place : {o : Bytes} {at : ℕ} {s : List Output} → Space o at s → at ≤ length o
space_place a = omega (arith, a.room)

-- room for the first, and for the rest once it is written
pub space_head : {o : Bytes} {at : ℕ} {s : List Output} (x : Output) → Space o at (x ∷ s) → at + size_of x ≤ length o
unfolding outputs
space_head {s = s} x a = omega (arith, a.room, length-append (output_record x) (outputs s), length_output x)

pub space_tail : {o : Bytes} {at : ℕ} {s : List Output} {n : ℕ} {o' : Bytes} {r : ℕ} (x : Output) → Space o at (x ∷ s) → Wrote o at n (output_record x) o' r → Space o' r s
unfolding outputs
space_tail {o} {at} {s} {o' = o'} x a w =
    let l : length o' ≡ length o = ap length w.is ∙ length_splice o at (output_record x) (rw w.size w.room) in
    record { room = omega (arith, a.room, l, length-append (output_record x) (outputs s), w.size, w.end) }

pub puts_cons : {o : Bytes} {at n : ℕ} {o₁ : Bytes} {k : ℕ} {s : List Output} {o₂ : Bytes} {r : ℕ} (x : Output) → Wrote o at n (output_record x) o₁ k → Puts o₁ k s o₂ r → Puts o at (x ∷ s) o₂ r
puts_cons x w p = puts_more (puts_one x w) p

pub puts_end : {o : Bytes} {at : ℕ} → Space o at [] → Puts o at [] o at
puts_end {o} {at} a = puts_none o at (space_place a)

-- writing keeps the buffer's length
pub puts_length : {o : Bytes} {at : ℕ} {s : List Output} {o' : Bytes} {r : ℕ} → Puts o at s o' r → length o' ≡ length o
puts_length {o} {at} {s} p = ap length p.wrote.is ∙ length_splice o at (outputs s) p.wrote.room

pub wrote_length : {o : Bytes} {at n : ℕ} {bs o' : Bytes} {r : ℕ} → Wrote o at n bs o' r → length o' ≡ length o
wrote_length {o} {at} {bs = bs} w = ap length w.is ∙ length_splice o at bs (rw w.size w.room)

-- ---- lists of outputs one after another

pub space_first : {o : Bytes} {at : ℕ} (s u : List Output) → Space o at (s ++ u) → Space o at s
space_first s u a = record { room = omega (arith, a.room, ap length (outputs_append s u), length-append (outputs s) (outputs u)) }

pub space_rest : {o : Bytes} {at : ℕ} {s : List Output} {o' : Bytes} {r : ℕ} (u : List Output) → Space o at (s ++ u) → Puts o at s o' r → Space o' r u
space_rest {s = s} u a p =
    record { room = omega (arith, a.room, puts_length p, ap length (outputs_append s u), length-append (outputs s) (outputs u), p.wrote.end) }

-- ---- steps

-- nothing changed, nothing written
pub did_still : {t o : Bytes} {at : ℕ} → FitTable t → Space o at [] → Did o at t o at (still (view_table t))
did_still f a = record { table = told_same f; puts = puts_end a }

-- the first of two steps, and room for the second
pub space_left : {o : Bytes} {at : ℕ} (s : Step) (f : Table → Step) → Space o at (s ▸ f).outs → Space o at s.outs
unfolding ◌▸◌
space_left s f a = space_first s.outs (f s.table).outs a

pub space_right : {o : Bytes} {at : ℕ} {t o' : Bytes} {r : ℕ} (s : Step) (f : Table → Step) → Space o at (s ▸ f).outs → Did o at t o' r s → Space o' r (f (view_table t)).outs
unfolding ◌▸◌
space_right {o' = o'} {r} s f a d = subst (λ (x : Table). Space o' r (f x).outs) (sym d.table.shows) (space_rest (f s.table).outs a d.puts)

-- the one, then the other on its table
pub did_then : {o : Bytes} {at : ℕ} {t₁ o₁ : Bytes} {k : ℕ} {t₂ o₂ : Bytes} {r : ℕ} (s : Step) (f : Table → Step)
    → Did o at t₁ o₁ k s → Did o₁ k t₂ o₂ r (f (view_table t₁)) → Did o at t₂ o₂ r (s ▸ f)
unfolding ◌▸◌
did_then {o₁ = o₁} {k} {t₂} {o₂} {r} s f a b =
    let c : Did o₁ k t₂ o₂ r (f s.table) = subst (λ (x : Table). Did o₁ k t₂ o₂ r (f x)) a.table.shows b in
    record { table = c.table; puts = puts_more a.puts c.puts }

-- ---- results

pub ruled_ok : {t o : Bytes} {at : ℕ} {t' o' : Bytes} {r : ℕ} {s : Step} → Did o at t' o' r s → Ruled t o at t' o' 0 r (ok s)
ruled_ok d = record { number = refl; did = d; kept = λ n. absurd (n refl) }

pub ruled_refused : {t o : Bytes} {at : ℕ} (n : ℕ) → FitTable t → at ≤ length o → Ruled t o at t o n at (refuse n (view_table t))
ruled_refused {t} {o} {at} n f h = record { number = refl; did = record { table = told_same f; puts = puts_none o at h }; kept = λ k. (refl, refl) }
