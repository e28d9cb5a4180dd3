-- `call_msg2::keep` meets its contract.
use Rattle.call_msg2.specs.Msg2.{kept_ends, kept_resets, kept_did}
use borrow.Author.Rules.{rules}
use Rattle.call_msg2.proofs.keep.Goals as goal

pub end_leg-a-requires : goal.end_leg-a-requires
end_leg-a-requires c = record { fit_table = c.requires.fit_table; i_in_bounds = c.requires.i_in_bounds; space = kept_ends _ _ _ c.requires.space }

pub put_reset-requires : goal.put_reset-requires
put_reset-requires c = kept_resets _ _ _ c.end_leg-a.ensures c.requires.space (search rules)

pub returns : goal.returns
returns c = kept_did _ _ _ c.end_leg-a.ensures c.put_reset.ensures
