-- Silent is looked at before Full (document 02, paper 8): which answers that changes, beside those of the order as it was.
use Rattle.std.specs.Prelude.{if◌then◌else◌, None, Option, Some}
use mathlib.Core.Path.{◌≡◌, refl, sym}
use mathlib.Core.Bool.{Bool, true, false, not, ◌&&◌}
use mathlib.Core.Logic.{◌⊎◌, inl, inr}
use mathlib.Core.List.{[], ◌∷◌}
use Prim.Native.Nat.{ℕ}
use lib.Dec.{eqb}
use Rattle.rules.specs.Base.{option}
use Rattle.rules.specs.Data.{Held, Memory, Table, Hello, Source, Refusal, Denial, Full, Gate, Silent, Reject, Free, Rekey, Output, Result}
use Rattle.rules.specs.Gates.{memory, silencing, asks_silence, silenced_for, judged}
use Rattle.rules.specs.Settle.{writes, ok, held_at, Stored, stored, full, denied, asked, admitted, admit, attributed, msg1}
use Rattle.rules.proofs.Order.{contra}

-- ---- as it was: Full, then Silent, then the other judgements

unfoldable pub denied_then : ℕ → Source → Hello → Table → Option Denial
denied_then now s x t =
    let m : Memory = memory x.peer t.gates in
    if full t then Some Full
    else (if silenced_for now s (Some x.epoch) m then Some (Gate Silent)
    else option (judged t.params now s (held_at x.peer t) x.ephemeral m) None λ r. Some (Gate r))

abbrev pub rejected : Source → Hello → Denial → Table → Result
rejected s x why t = ok (writes (Reject (Some (x.peer, s)) why ∷ Free x.lease ∷ []) t)

unfoldable pub admit_then : ℕ → Source → Hello → Table → Result
admit_then now s x t =
    let k : Source = asked s (held_at x.peer t) in
    option (denied_then now k x t) (admitted now k x t) λ why. rejected k x why t

unfoldable pub msg1_then : ℕ → Hello → Bool → Table → Result
msg1_then now x reachable t =
    option (stored x.from x.bytes t)
    (option (held_at x.peer t) (admit_then now Source.NotHeld x t) λ h.
    if not (eqb h.epoch x.epoch) then admit_then now Source.Restart x t
    else ok (writes (Rekey x.peer (attributed h x.from t) reachable ∷ Free x.lease ∷ []) t))
    λ o. ok (writes (Output.Answer o.link true o.msg2 ∷ Free x.lease ∷ []) t)

-- ---- beside it

-- silence and Full both hold for a hello that is judged as from s
pub record Both (now : ℕ) (s : Source) (x : Hello) (t : Table) : Type 0 where
  pub source : (s ≡ Source.NotHeld) ⊎ (s ≡ Source.Replacement)
  pub silent : silencing (Some x.epoch) now (memory x.peer t.gates) ≡ true
  pub filled : full t ≡ true

-- the answer then and the answer now: the same, or a Reject whose reason was Full and is Silent, with the same table and all else
pub data Beside (now : ℕ) (x : Hello) (t : Table) : Result → Result → Type 0 where
  Same : (r : Result) → Beside now x t r r
  Silenced : (s : Source) → Both now s x t → Beside now x t (rejected s x Full t) (rejected s x (Gate Silent) t)

-- of msg1 and replacement, the calls that ask to be admitted; a replacement for a peer not held is judged as NotHeld
pub record SilentFirst (now : ℕ) (x : Hello) (t : Table) : Type 0 where
  pub of_msg1 : (f : Bool) → Beside now x t (msg1_then now x f t) (msg1 now x f t)
  pub of_replacement : Beside now x t (admit_then now Source.Replacement x t) (admit now Source.Replacement x t)
  -- wherever both hold, Silent is the reason
  pub msg1_silent : (f : Bool) → stored x.from x.bytes t ≡ None → held_at x.peer t ≡ None → Both now Source.NotHeld x t
      → msg1 now x f t ≡ rejected Source.NotHeld x (Gate Silent) t
  pub replacement_silent : (s : Source) → asked Source.Replacement (held_at x.peer t) ≡ s → Both now s x t
      → admit now Source.Replacement x t ≡ rejected s x (Gate Silent) t

-- ---- proved

-- these two ask for silence, and no other
asking : (s : Source) → asks_silence s ≡ true → (s ≡ Source.NotHeld) ⊎ (s ≡ Source.Replacement)
asking Source.NotHeld e = inl refl
asking Source.Restart e = contra (sym e)
asking Source.Replacement e = inr refl
asking Source.OwnMsg2 e = contra (sym e)
asking Source.RekeyMsg2 e = contra (sym e)

asked_silence : (s : Source) → (s ≡ Source.NotHeld) ⊎ (s ≡ Source.Replacement) → asks_silence s ≡ true
asked_silence s (inl e) = rw e
asked_silence s (inr e) = rw e

module _ (now : ℕ) (x : Hello) (t : Table) where
  of_admit : (s : Source) → Beside now x t (admit_then now s x t) (admit now s x t)
  unfolding admit admit_then denied denied_then
  of_admit s = go (asked s (held_at x.peer t)) (full t) refl (asks_silence (asked s (held_at x.peer t))) (silencing (Some x.epoch) now (memory x.peer t.gates)) refl refl
      (judged t.params now (asked s (held_at x.peer t)) (held_at x.peer t) x.ephemeral (memory x.peer t.gates))
    where
      go : (k : Source) (f : Bool) → full t ≡ f → (a b : Bool) → asks_silence k ≡ a → silencing (Some x.epoch) now (memory x.peer t.gates) ≡ b → (o : Option Refusal)
          → Beside now x t
          (option (if f then Some Full else (if a && b then Some (Gate Silent) else option o None λ r. Some (Gate r))) (admitted now k x t) (λ why. rejected k x why t))
          (option (if a && b then Some (Gate Silent) else (if f then Some Full else option o None λ r. Some (Gate r))) (admitted now k x t) (λ why. rejected k x why t))
      go k true e true true p q o = Silenced k (record { source = asking k p; silent = q; filled = e })
      go k true e true false p q o = Same _
      go k true e false b p q o = Same _
      go k false e a b p q o = Same _

  msg1_of : (f : Bool) → Beside now x t (msg1_then now x f t) (msg1 now x f t)
  unfolding msg1 msg1_then
  msg1_of f = go (stored x.from x.bytes t) (held_at x.peer t)
    where
      held : (h : Held) (b : Bool)
          → Beside now x t (if b then admit_then now Source.Restart x t else ok (writes (Rekey x.peer (attributed h x.from t) f ∷ Free x.lease ∷ []) t))
          (if b then admit now Source.Restart x t else ok (writes (Rekey x.peer (attributed h x.from t) f ∷ Free x.lease ∷ []) t))
      held h true = of_admit Source.Restart
      held h false = Same _

      go : (o : Option Stored) (p : Option Held)
          → Beside now x t (option o (option p (admit_then now Source.NotHeld x t) λ h.
          if not (eqb h.epoch x.epoch) then admit_then now Source.Restart x t
          else ok (writes (Rekey x.peer (attributed h x.from t) f ∷ Free x.lease ∷ []) t)) (λ o. ok (writes (Output.Answer o.link true o.msg2 ∷ Free x.lease ∷ []) t)))
          (option o (option p (admit now Source.NotHeld x t) λ h.
          if not (eqb h.epoch x.epoch) then admit now Source.Restart x t
          else ok (writes (Rekey x.peer (attributed h x.from t) f ∷ Free x.lease ∷ []) t)) (λ o. ok (writes (Output.Answer o.link true o.msg2 ∷ Free x.lease ∷ []) t)))
      go (Some o) p = Same _
      go None None = of_admit Source.NotHeld
      go None (Some h) = held h (not (eqb h.epoch x.epoch))

  silent_of : (s k : Source) → asked s (held_at x.peer t) ≡ k → Both now k x t → admit now s x t ≡ rejected k x (Gate Silent) t
  unfolding admit denied
  silent_of s k e b = rw (e, asked_silence k b.source, b.silent)

  msg1_silent_of : (f : Bool) → stored x.from x.bytes t ≡ None → held_at x.peer t ≡ None → Both now Source.NotHeld x t → msg1 now x f t ≡ rejected Source.NotHeld x (Gate Silent) t
  unfolding msg1
  msg1_silent_of f p q b = rw (p, q) (silent_of Source.NotHeld Source.NotHeld (rw q) b)

pub silent_first : (now : ℕ) (x : Hello) (t : Table) → SilentFirst now x t
silent_first now x t = record {
  of_msg1 = msg1_of now x t;
  of_replacement = of_admit now x t Source.Replacement;
  msg1_silent = msg1_silent_of now x t;
  replacement_silent = silent_of now x t Source.Replacement;
}
