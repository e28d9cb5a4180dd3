-- `params::head::load_params` meets its contract.
use mathlib.Core.Path.{sym, ◌∙◌}
use Rattle.node_addr.specs.Alike.{byte_here}
use Rattle.params.specs.Head.{settings_at}
use Rattle.params.proofs.head.load_params.Goals as goal

pub returns : goal.returns
returns c =
    let s = c.args.s.now in
    rw (
      c.get_be.ensures.value,
      c.get_be-2.ensures.value,
      c.get_byte.ensures ∙ byte_here s 80,
      c.get_be-3.ensures.value,
      c.get_be-4.ensures.value,
      c.get_be-5.ensures.value,
      c.get_be-6.ensures.value,
      c.get_byte-2.ensures ∙ byte_here s 81,
      c.get_be-7.ensures.value,
      c.get_be-8.ensures.value,
      c.get_be-9.ensures.value,
      c.get_be-10.ensures.value,
    )
    (sym (settings_at s))
