use Rattle.std.proofs.Common.{sym, ◌∙◌}
use Rattle.lib_laws.specs.Cell.{byte_here}
use Rattle.node_addr.specs.Alike.{same_unlike, same_front, same_arrays}
use Rattle.node_addr.proofs.Filled.{kept_padded}
use Rattle.node_addr.proofs.padded.Padded.is_cell.Goals as goal

pub returns-then-get_byte-self : goal.returns-then-get_byte-self
returns-then-get_byte-self g c =
    let v = c.args in
    same_unlike (kept_padded v.self.now) c.requires.is_text.kept (λ e. c.if-get_byte-self.true (c.get_byte.ensures ∙ byte_here v.s.now v.at ∙ sym e))

pub returns : goal.returns
returns g c =
    let v = c.args in
    same_front _ v.self.now.bytes _ v.self.now.size c.eq_bytes.ensures
    ∙ same_arrays (kept_padded v.self.now) c.requires.is_text.kept (sym c.if-get_byte-self.false ∙ c.get_byte.ensures ∙ byte_here v.s.now v.«at»)
