-- `lib_bytes::compare::lt_bytes` meets its contract.
use native.Mathlib.Omega.{arith}
use mathlib.Core.Path.{sym, ◌∙◌}
use Rattle.lib_laws.specs.Words.{order_first, order_second}
use Rattle.lib_bytes.proofs.compare.lt_bytes.Goals as goal

pub returns-then-a-b : goal.returns-then-a-b
returns-then-a-b c =
    rw (c.get_8-a.ensures.value, c.get_8-b.ensures.value)
    (order_first 8 c.args.s.now c.args.at c.args.t.now c.args.from (omega arith) (omega arith) c.type_inv.s c.type_inv.t
    (λ e. c.if-a-b.true (c.get_8-a.ensures.value ∙ e ∙ sym c.get_8-b.ensures.value)))

pub returns : goal.returns
returns c =
    rw (c.get_8-c.ensures.value, c.get_8-d.ensures.value)
    (order_second 8 c.args.s.now c.args.at c.args.t.now c.args.from (omega arith) (omega arith) c.type_inv.s c.type_inv.t
    (sym c.get_8-a.ensures.value ∙ c.if-a-b.false ∙ c.get_8-b.ensures.value))
