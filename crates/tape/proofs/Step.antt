-- How new and call make a step of a session.
use Rattle.std.specs.Prelude.{◌≡◌, ℕ, ◌+◌, ◌≤◌}
use Rattle.std.proofs.Math.Path.{refl, sym, ap, subst}
use Rattle.std.proofs.Common.{◌∙◌, zero-add, arith, ne_eqb, length-take-le, length-append, length-drop, take-append-drop}
use mathlib.Core.List.{[], ◌++◌, append_assoc}
use Rattle.std.proofs.lemmas.List.{drop-append-le}
use Rattle.std.proofs.Math.ListN.{length, take, drop}
use Rattle.rules.specs.Base.{Bytes, All}
use Rattle.rules.specs.Data.{Result}
use Rattle.rules.specs.Output.{outputs, done_record}
use Rattle.rules.specs.Entry.{Refused}
use Rattle.rules.specs.Entry as rule
use Rattle.rules.specs.Bounds.{IsByte}
use Rattle.table_layout.specs.View.{view_table}
use Rattle.lib_laws.specs.Splice.{splice, Wrote, wrote_then}
use Rattle.settle.specs.Layout.{buffer_len}
use Rattle.settle.specs.Contract.{Left, Begun, Called, ruled, ruled_bytes}
use Rattle.tape.specs.Layout.{done_len, out_len}
use Rattle.tape.specs.Session.{State, opened, next}
use Rattle.tape.specs.declared.session.Phase.{Phase}
use Rattle.tape.specs.declared.session.Phase.TheVariants as phase
use Rattle.tape.specs.Step.{state_of, By, Steps, over_not}

-- what a writer put at the front
record Front (o w o' : Bytes) (n : ℕ) : Type 0 where
  size : n ≡ length w
  bytes : o' ≡ w ++ drop n o

front : {o w o' : Bytes} {m n : ℕ} → Wrote o 0 m w o' n → Front o w o' n
unfolding splice
front {o} {w} {n = n} a =
    let e : 0 + length w ≡ n = omega (arith, a.size, a.end) in
    record { size = omega (arith, e); bytes = a.is ∙ ap (λ (i : ℕ). w ++ drop i o) e }

-- from what the session writes and where it stands then
makes : {p q : Phase} {t r o t' o' : Bytes} {n : ℕ} (w : Bytes) (x : State) → next r (state_of p t) ≡ (w, x) → state_of q t' ≡ x → Front o w o' n
    → (q ≡ phase.Running → Left t') → ((q ≡ phase.Running → ⊥) → t' ≡ t) → By p t r t' q → Steps p t r o t' o' q n
makes {o = o} {n = n} w x e s f l k b = record {
  state = s ∙ sym (ap (λ (a : Bytes × State). a.1) e);
  size = f.size ∙ sym (ap (λ (a : Bytes × State). length a.0) e);
  bytes = f.bytes ∙ sym (ap (λ (a : Bytes × State). a.0 ++ drop n o) e);
  left = l;
  kept = k;
  by = b;
}

module _ {t r t' o o' : Bytes} {n len : ℕ} (i : All IsByte r) (b : Begun t r t' n) (w : Wrote o 0 done_len (done_record n) o' len) where
  -- the first record made a table
  pub step_made : n ≡ 0 → Steps phase.Before t r o t' o' phase.Running len
  unfolding next
  step_made e =
      let b₀ : Begun t r t' 0 = subst (λ (k : ℕ). Begun t r t' k) e b in
      let f : Front o (done_record 0) o' len = subst (λ (k : ℕ). Front o (done_record k) o' len) e (front w) in
      makes (done_record 0) (State.Running (view_table t')) (ap opened b₀.is) refl f (λ z. b₀.left refl) (λ z. absurd (z refl))
      (record { number = 0; bytes = i; begun = b₀; accepted = λ z. refl })

  -- or was refused
  pub step_refused : (n ≡ 0 → ⊥) → Steps phase.Before t r o t' o' phase.Over len
  unfolding next
  step_refused h =
      let e : rule.new r ≡ Refused n = b.is ∙ rw (ne_eqb n 0 h) in
      makes (done_record n) State.Over (ap opened e) refl (front w) (λ z. absurd (over_not z)) (λ z. b.refused h)
      (record { number = n; bytes = i; begun = b; accepted = λ z. absurd (over_not z) })

-- ---- a call is lent the first bytes of the buffer

pub lent_size : (o : Bytes) → out_len ≤ length o → length (take buffer_len o) ≡ buffer_len
lent_size o h = length-take-le buffer_len o (omega arith)

module _ (o : Bytes) {t r t' l : Bytes} {n k : ℕ} (c : Called t r (take buffer_len o) t' l n k) (h : out_len ≤ length o) (g : length l ≡ length (take buffer_len o)) where
  call_size : k ≤ buffer_len
  call_size = omega (arith, g, lent_size o h, ap length c.bytes, length-append (ruled_bytes t r (take buffer_len o)) (drop k (take buffer_len o)), c.size)

  -- it writes at the front of the whole
  call_wrote : Wrote o 0 k (ruled_bytes t r (take buffer_len o)) (l ++ drop buffer_len o) k
  unfolding splice
  call_wrote =
      let w : Bytes = ruled_bytes t r (take buffer_len o) in
      let m : k ≤ length (take buffer_len o) = omega (arith, call_size, lent_size o h) in
      record {
        end = sym (zero-add k);
        size = sym c.size;
        room = omega (arith, call_size);
        is =
            ap (λ (x : Bytes). x ++ drop buffer_len o) c.bytes
            ∙ append_assoc w (drop k (take buffer_len o)) (drop buffer_len o)
            ∙ ap (λ (x : Bytes). w ++ x) (sym (drop-append-le k (take buffer_len o) (drop buffer_len o) m) ∙ ap (λ (x : Bytes). drop k x) (take-append-drop buffer_len o))
            ∙ ap (λ (i : ℕ). w ++ drop i o) (c.size ∙ sym (zero-add (length w)));
      }

  -- room for its Done
  pub call_room : k + done_len ≤ length (l ++ drop buffer_len o)
  call_room = omega (arith, call_size, g, lent_size o h, length-append l (drop buffer_len o), length-drop buffer_len o)

  pub call_length : {m : ℕ} → m ≡ length (l ++ drop buffer_len o) → m ≡ length o
  call_length e = omega (arith, e, g, lent_size o h, length-append l (drop buffer_len o), length-drop buffer_len o)

  pub step_called : {o' : Bytes} {len : ℕ} → All IsByte r → Wrote (l ++ drop buffer_len o) k done_len (done_record n) o' len → Steps phase.Running t r o t' o' phase.Running len
  unfolding next
  step_called {o'} {len} i d =
      let e : ruled t r (take buffer_len o) ≡ rule.call r buffer_len (view_table t) = ap (λ (m : ℕ). rule.call r m (view_table t)) (lent_size o h) in
      let a : Result = rule.call r buffer_len (view_table t) in
      let q : ruled_bytes t r (take buffer_len o) ++ done_record n ≡ outputs a.step.outs ++ done_record a.number =
      ap (λ (d : Result). outputs d.step.outs ++ done_record n) e ∙ ap (λ (m : ℕ). outputs a.step.outs ++ done_record m) (c.number ∙ ap (λ (d : Result). d.number) e) in
      makes (outputs a.step.outs ++ done_record a.number) (State.Running a.step.table) refl
      (ap State.Running (c.table ∙ ap (λ (d : Result). d.step.table) e))
      (subst (λ (w : Bytes). Front o w o' len) q (front (wrote_then call_wrote d)))
      (λ z. c.left)
      (λ z. absurd (z refl))
      (record { lent = take buffer_len o; last = l; number = n; written = k; bytes = i; size = lent_size o h; called = c })

-- a session that is over
pub step_over : (t r o : Bytes) → Steps phase.Over t r o t o phase.Over 0
unfolding next
step_over t r o = makes [] State.Over refl refl (record { size = refl; bytes = refl }) (λ z. absurd (over_not z)) (λ z. refl) tt

-- a session that runs goes on running
pub stays : {p q : Phase} {t r o t' o' : Bytes} {n : ℕ} → Steps p t r o t' o' q n → p ≡ phase.Running → q ≡ phase.Running
unfolding next
stays {p} {q} {t} {r} {o} {t'} {o'} {n} a e = go q (subst (λ (p : Phase). Steps p t r o t' o' q n) e a).state
  where
    go : (q : Phase) → state_of q t' ≡ (next r (state_of phase.Running t)).1 → q ≡ phase.Running
    go phase.Before f = cc
    go phase.Running f = refl
    go phase.Over f = cc

-- a step by the phase that was matched
pub steps_by : {p p₀ q : Phase} {t r o t' o' : Bytes} {n : ℕ} → p ≡ p₀ → Steps p₀ t r o t' o' q n → Steps p t r o t' o' q n
steps_by e a = rw e a
