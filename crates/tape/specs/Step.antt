-- What a step of a session does to table and buffer (Session). How new and call make one: proofs/Step.
use Rattle.std.specs.Prelude.{◌≡◌, ℕ, ◌+◌, ◌≤◌}
use Rattle.std.proofs.Math.Path.{ap}
use Rattle.std.proofs.Common.{arith, length-append}
use mathlib.Core.List.{◌++◌}
use Rattle.std.proofs.Math.ListN.{length, drop}
use Rattle.rules.specs.Base.{Bytes, All}
use Rattle.rules.specs.Bounds.{IsByte}
use Rattle.table_layout.specs.View.{view_table}
use Rattle.settle.specs.Layout.{buffer_len}
use Rattle.settle.specs.Contract.{Left, Begun, Called}
use Rattle.tape.specs.Session.{State, next}
use Rattle.tape.specs.declared.session.Phase.{Phase}
use Rattle.tape.specs.declared.session.Phase.TheVariants as phase

-- the state that a phase and the bytes of a table show
abbrev pub state_of : Phase → Bytes → State
state_of phase.Before t = State.Before
state_of phase.Running t = State.Running (view_table t)
state_of phase.Over t = State.Over

-- new's answer to the first record
pub record Opens (t r t' : Bytes) (q : Phase) : Type 0 where
  pub number : ℕ
  pub bytes : All IsByte r
  pub begun : Begun t r t' number
  pub accepted : q ≡ phase.Running → number ≡ 0

-- call, lent a buffer of any contents, took the table t to t'
pub record Calls (t r t' : Bytes) : Type 0 where
  pub lent : Bytes
  pub last : Bytes
  pub number : ℕ
  pub written : ℕ
  pub bytes : All IsByte r
  pub size : length lent ≡ buffer_len
  pub called : Called t r lent t' last number written

-- by which entry a step was made
abbrev pub By : Phase → Bytes → Bytes → Bytes → Phase → Type 0
By phase.Before t r t' q = Opens t r t' q
By phase.Running t r t' q = Calls t r t'
By phase.Over t r t' q = Unit {0}

-- A step, lent the table t, the record r and the buffer o in the phase p, left t' and o' and answered the phase q and the length n.
pub record Steps (p : Phase) (t r o t' o' : Bytes) (q : Phase) (n : ℕ) : Type 0 where
  -- the state is the session's next
  pub state : state_of q t' ≡ (next r (state_of p t)).1
  -- what is written stands at the front, and the bytes beyond are kept
  pub size : n ≡ length (next r (state_of p t)).0
  pub bytes : o' ≡ (next r (state_of p t)).0 ++ drop n o
  -- the table is one for the next call; where there is none, its bytes are as they were
  pub left : q ≡ phase.Running → Left t'
  pub kept : (q ≡ phase.Running → ⊥) → t' ≡ t
  pub by : By p t r t' q

-- what is written lies in the buffer
pub step_fits : {p q : Phase} {t r o t' o' : Bytes} {n : ℕ} → Steps p t r o t' o' q n → n ≤ length o'
step_fits {p} {t = t} {r} {o} {n = n} a = omega (arith, ap length a.bytes, length-append (next r (state_of p t)).0 (drop n o), a.size)

pub before_not : phase.Before ≡ phase.Running → ⊥
before_not e = let z : ◌≡◌ {A = ℕ} 0 1 = cc in omega arith

pub over_not : phase.Over ≡ phase.Running → ⊥
over_not e = let z : ◌≡◌ {A = ℕ} 0 1 = cc in omega arith
