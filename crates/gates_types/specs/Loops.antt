-- Lists of at most eight: those of one that pass a test.
use Rattle.std.specs.Prelude.{◌≡◌, Bool, filter}
use Rattle.std.proofs.Common.{arith}
use Rattle.lib_laws.specs.Filter.{length_filter, all_filter}
use Rattle.lib_list.specs.ShortList.{ShortList}
use Rattle.gates_types.specs.View.{Few}

pub few_filter : {A : Type 0} {P : A → Type 0} {v w : ShortList A} → Few P v → (t : A → Bool) → w.items ≡ filter t v.items → Few P w
few_filter {P = P} {v} k t e = let l = length_filter t v.items in let s = k.small in record { small = rw e (omega arith); each = rw e (all_filter P t v.items k.each) }
