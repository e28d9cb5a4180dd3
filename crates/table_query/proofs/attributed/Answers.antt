-- `table_query::attributed` meets its contract.
use Rattle.std.proofs.Common.{sym, ◌∙◌}
use Rattle.lib_laws.specs.Place.{place_within}
use Rattle.table_query.specs.Ask.{not_attributed, by_setup, by_current, by_path}
use Rattle.table_query.proofs.attributed.Goals as goal

pub held_link-n-requires : goal.held_link-n-requires
held_link-n-requires c = record { fit_table = c.requires.fit_table; i_in_bounds = c.requires.i_in_bounds }

pub find_link-requires : goal.find_link-requires
find_link-requires c = c.requires.fit_table

pub returns-in_default : goal.returns-in_default
returns-in_default c = not_attributed _ _ c.held_link-n.ensures _ (sym c.find_link.ensures ∙ c.in_default.is)

pub setup_is-requires : goal.setup_is-requires
setup_is-requires c = record { fit_table = c.requires.fit_table; i_in_bounds = place_within _ _ _ (sym c.find_link.ensures ∙ c.in-Some.is) }

pub returns-then-setup_is : goal.returns-then-setup_is
returns-then-setup_is c = by_setup _ _ c.held_link-n.ensures _ (sym c.find_link.ensures ∙ c.in-Some.is) c.setup_is.ensures c.if-setup_is.true

pub current_is-requires : goal.current_is-requires
current_is-requires c = record { fit_table = c.requires.fit_table; i_in_bounds = c.requires.i_in_bounds }

pub returns-then-current_is : goal.returns-then-current_is
returns-then-current_is c = by_current _ _ c.held_link-n.ensures _ (sym c.find_link.ensures ∙ c.in-Some.is) c.current_is.ensures c.if-current_is.true

pub link_proven-requires : goal.link_proven-requires
link_proven-requires c = record { fit_table = c.requires.fit_table; i_in_bounds = place_within _ _ _ (sym c.find_link.ensures ∙ c.in-Some.is) }

pub returns : goal.returns
returns c =
    by_path _ _ c.held_link-n.ensures _ (sym c.find_link.ensures ∙ c.in-Some.is)
    c.setup_is.ensures c.if-setup_is.false c.current_is.ensures c.if-current_is.false c.link_proven.ensures
