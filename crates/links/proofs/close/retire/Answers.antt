-- `links::close::retire` meets its contract.
use Rattle.lib_laws.specs.Store.{entry_within}
use Rattle.links.specs.Change.{drop_done, drop_none}
use Rattle.links.specs.Close.{retiring_is, retiring_none}
use Rattle.links_entry.specs.View.{link_of}
use mathlib.Core.Path.{◌∙◌, sym}
use Rattle.links.proofs.close.retire.Goals as goal

pub returns-in_default : goal.returns-in_default
returns-in_default c =
    let o = sym c.in_default.ensures in
    record { fit_links = c.requires; s_after = drop_none _ _ o; result_value = c.no_closes.ensures ∙ retiring_none _ _ o }

pub address_list-l-requires : goal.address_list-l-requires
address_list-l-requires c = record { fit_links = c.requires; i_bound = entry_within link_of c.requires _ _ (sym c.in-Some.ensures) }

pub remove_link-requires : goal.remove_link-requires
remove_link-requires c = record { fit_links = c.requires; i_bound = entry_within link_of c.requires _ _ (sym c.in-Some.ensures) }

pub returns : goal.returns
returns c =
    let o = sym c.in-Some.ensures in let l = c.address_list-l.ensures in
    record { fit_links = c.remove_link.ensures.fit_links_2; s_after = drop_done _ _ o c.remove_link.ensures.s_after; result_value = retiring_is _ _ o c.remove_link.ensures.s_after l c.unused.ensures }
