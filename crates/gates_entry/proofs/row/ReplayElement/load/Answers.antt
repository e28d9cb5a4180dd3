use mathlib.Core.Path.{◌∙◌, ap₂}
use Prim.Native.Nat.{ℕ}
use mathlib.Core.List.{List}
use Rattle.gates_entry.specs.Entry.{replay_cut}
use Rattle.gates_entry.proofs.row.ReplayElement.load.Goals as goal

pub returns-clause-value : goal.returns-clause-value
returns-clause-value c = ap₂ (λ (x : List ℕ) (n : ℕ). record { digest = record { 0 = x }; seen = n }) c.load_fixed.ensures c.get_8.ensures.value ∙ replay_cut c.args.s.now c.args.at
