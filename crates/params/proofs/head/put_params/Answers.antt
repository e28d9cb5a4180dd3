-- `params::head::put_params` meets its contract.
use Rattle.lib_laws.specs.Splice.{wrote_then}
use Rattle.params.specs.Head.{settings_written, params_written, shows_fit}
use borrow.Author.Rules.{rules}
use Rattle.params.proofs.head.put_params.Goals as goal

pub returns : goal.returns
returns c =
    let w = params_written c.requires.s_len (settings_written c.args.p (wrote_then c.put_spans-a.ensures c.put_counts.ensures)) (search rules) in
    record { fit_head = shows_fit c.requires.p_value w; shows = w }
