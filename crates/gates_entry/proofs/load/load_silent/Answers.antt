use Rattle.std.specs.Prelude.{Some}
use mathlib.Core.Path.{refl, ap}
use Rattle.rules.specs.Data.{Silence}
use Rattle.gates_entry.proofs.load.load_silent.Goals as goal

pub returns-then-get_flag : goal.returns-then-get_flag
returns-then-get_flag c = rw (← c.get_flag.ensures, c.if-get_flag.true) (record { fit_silence = c.load_silence.ensures.fit_silence; result_value = ap (λ (x : Silence). Some x) c.load_silence.ensures.result_value })

pub returns-else-get_flag : goal.returns-else-get_flag
returns-else-get_flag c = rw (← c.get_flag.ensures, c.if-get_flag.false) (record { fit_silence = tt; result_value = refl })
