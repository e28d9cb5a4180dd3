-- `links::close::release` meets its contract.
use Rattle.lib_laws.specs.Store.{entry_within}
use Rattle.links.specs.Change.{release_done, release_none}
use Rattle.links.specs.Close.{releasing_is, releasing_kept, releasing_none}
use Rattle.links_entry.specs.View.{link_of}
use Rattle.node_addr.specs.View.{view_pair}
use mathlib.Core.Path.{sym}
use Rattle.links.proofs.close.release.Goals as goal

pub returns-in_default : goal.returns-in_default
returns-in_default c =
    let o = sym c.in_default.ensures in
    record { fit_links_2 = c.requires.fit_links; s_after = release_none _ _ o _; else_value = releasing_none _ _ _ _ o }

pub release_at-requires : goal.release_at-requires
release_at-requires c = record { fit_links = c.requires.fit_links; i_bound = entry_within link_of c.requires.fit_links _ _ (sym c.in-Some.ensures) }

pub returns-else-not-keep : goal.returns-else-not-keep
returns-else-not-keep c = record { fit_links_2 = c.release_at.ensures.fit_links_2; s_after = release_done _ _ (sym c.in-Some.ensures) _ c.release_at.ensures.s_after; else_value = releasing_kept _ _ _ c.if-not-keep.false }

pub returns-then-not-keep : goal.returns-then-not-keep
returns-then-not-keep c =
    let o = sym c.in-Some.ensures in let d = release_done _ _ o (view_pair c.args.p) c.release_at.ensures.s_after in
    record { fit_links_2 = c.release_at.ensures.fit_links_2; s_after = d; else_value = releasing_is _ _ _ o c.if-not-keep.true d c.in_use.ensures }
