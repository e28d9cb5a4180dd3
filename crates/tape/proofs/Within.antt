-- A session in so much room: its next step, with no record left it is the whole session, and how much room is enough.
use Rattle.std.specs.Prelude.{◌≡◌, refl, Bool, true, false, List, [], ◌∷◌, ◌++◌, ℕ, ◌-◌, ◌*◌, ◌≤◌, ◌<◌, ltb, length, if◌then◌else◌}
use Rattle.std.proofs.Common.{ap, ◌∙◌, arith, lt-ltb, le-ltb, length-append}
use Rattle.rules.specs.Base.{Bytes, All}
use Rattle.rules.specs.Output.{outputs, done_record}
use Rattle.rules.specs.Entry.{Start, Made, Refused, new, call}
use Rattle.rules.specs.Tape.{run}
use Rattle.rules.specs.Bounds.{IsByte, Bounds}
use Rattle.rules.proofs.Bounds.{bounds_new, bounds_call}
use Rattle.rules.proofs.Size as size
use Rattle.output_record.specs.Size.{length_done}
use Rattle.tape.specs.Layout.{out_len}
use Rattle.tape.specs.Session.{State, Before, Running, Over, opened, next, after}
use Rattle.tape.proofs.After.{run_after}
use Rattle.tape.specs.Cut.{records_of, all_records}
use Rattle.tape.specs.Within.{behind, within}

module _ {room : ℕ} (r : Bytes) (s : List Bytes) (x : State) where
  pub within_full : room < out_len → within room (r ∷ s) x ≡ ([], r ∷ s, x)
  unfolding within
  within_full h = rw (lt-ltb room out_len h)

  pub within_next : out_len ≤ room → within room (r ∷ s) x ≡ behind (next r x).0 (within (room - length (next r x).0) s (next r x).1)
  unfolding within
  within_next h = rw (le-ltb room out_len h)

-- ---- with no record left it is the whole session

pub record Whole (a : Bytes × List Bytes × State) (b : Bytes × State) : Type 0 where
  pub written : a.0 ≡ b.0
  pub state : a.2 ≡ b.1

pub within_whole : (room : ℕ) (s : List Bytes) (x : State) → (within room s x).1 ≡ [] → Whole (within room s x) (after s x)
unfolding within after
within_whole room [] x e = record { written = refl; state = refl }
within_whole room (r ∷ s) x e = go (ltb room out_len) (λ f. within_whole (room - length (next r x).0) s (next r x).1 f) e
  where
    rest : Bytes × List Bytes × State
    rest = within (room - length (next r x).0) s (next r x).1

    go : (b : Bool) → (rest.1 ≡ [] → Whole rest (after s (next r x).1)) → (if b then ([], r ∷ s, x) else behind (next r x).0 rest).1 ≡ []
        → Whole (if b then ([], r ∷ s, x) else behind (next r x).0 rest) (after (r ∷ s) x)
    go true f e = absurd (let z : ◌≡◌ {A = ℕ} 0 1 = cc in omega arith)
    go false f e = let y = f e in record { written = ap (λ (w : Bytes). (next r x).0 ++ w) y.written; state = y.state }

-- so it writes what the rules' tape writes
pub run_whole : (room : ℕ) (tape : Bytes) → (within room (records_of tape) Before).1 ≡ [] → (within room (records_of tape) Before).0 ≡ run tape
run_whole room tape e = (within_whole room (records_of tape) Before e).written ∙ run_after tape

-- ---- enough room

abbrev Sound : State → Type 0
Sound Before = Unit {0}
Sound (Running t) = Bounds t
Sound Over = Unit {0}

record Small (a : Bytes × State) : Type 0 where
  size : length a.0 ≤ out_len
  sound : Sound a.1

next_small : (r : Bytes) (x : State) → All IsByte r → Sound x → Small (next r x)
unfolding next
next_small r Before h k = go (new r) refl
  where
    go : (y : Start) → new r ≡ y → Small (opened y)
    go (Made t) e = record { size = omega (arith, length_done 0); sound = bounds_new r t h e }
    go (Refused n) e = record { size = omega (arith, length_done n); sound = tt }
next_small r (Running t) h k =
    let d = call r 10_240 t in
    record {
      size = omega (arith, length-append (outputs d.step.outs) (done_record d.number), length_done d.number, size.written r 10_240 t h k);
      sound = bounds_call r 10_240 t h k;
    }
next_small r Over h k = record { size = omega arith; sound = tt }

within_enough : (room : ℕ) (s : List Bytes) (x : State) → All (All IsByte) s → Sound x → out_len * length s ≤ room → (within room s x).1 ≡ []
unfolding within
within_enough room [] x h k f = refl
within_enough room (r ∷ s) x h k f =
    let a = next_small r x h.0 k in
    let m : out_len ≤ room = omega arith in
    let l : out_len * length s ≤ room - length (next r x).0 = omega (arith, a.size) in
    rw (le-ltb room out_len m) (within_enough (room - length (next r x).0) s (next r x).1 h.1 a.sound l)

-- 10,245 bytes for each record are enough
pub run_enough : (room : ℕ) (tape : Bytes) → All IsByte tape → out_len * length (records_of tape) ≤ room → (within room (records_of tape) Before).1 ≡ []
run_enough room tape h f = within_enough room (records_of tape) Before (all_records (length tape) tape h) tt f
