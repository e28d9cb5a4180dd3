-- `table_query::own` meets its contract.
use Rattle.std.proofs.Common.{sym, ◌∙◌}
use Rattle.lib_laws.specs.Place.{place_within}
use Rattle.table_query.specs.Ask.{own_at, own_none}
use Rattle.table_query.proofs.own.Goals as goal

pub held_link-n-requires : goal.held_link-n-requires
held_link-n-requires c = record { fit_table = c.requires.fit_table; i_in_bounds = c.requires.i_in_bounds }

pub find_link-requires : goal.find_link-requires
find_link-requires c = c.requires.fit_table

pub link_outbound-requires : goal.link_outbound-requires
link_outbound-requires c = record { fit_table = c.requires.fit_table; i_in_bounds = place_within _ _ _ (sym c.find_link.ensures ∙ c.in-Some.is) }

pub returns-in-Some : goal.returns-in-Some
returns-in-Some c = own_at _ _ c.held_link-n.ensures (sym c.find_link.ensures ∙ c.in-Some.is) c.link_outbound.ensures

pub returns-in-None : goal.returns-in-None
returns-in-None c = own_none _ _ c.held_link-n.ensures (sym c.find_link.ensures ∙ c.in-None.is)
