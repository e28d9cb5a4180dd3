use borrow.Author.Rules.{rules}
use Rattle.gates_entry.specs.Entry.{counted_cell, silence_loaded}
use Rattle.lib_laws.specs.Both.{both}
use Rattle.gates_entry.proofs.load.load_silence.Goals as goal

pub load_row-requires : goal.load_row-requires
load_row-requires c = (search rules, (search rules, (search rules, counted_cell c.args.s.now c.args.at c.requires.fit_silence_cell)))

pub returns : goal.returns
returns c =
    both (λ a b. record { fit_silence = a; result_value = b }) (silence_loaded c.args.s.now c.args.at (record {
      epoch = c.get_option.ensures;
      count = c.get_be.ensures.value;
      last = c.get_8.ensures.value;
      until = c.get_option-2.ensures;
      wide = record { epoch = search rules; count = search rules; last = search rules; until = search rules };
      fits = c.load_row.ensures.fit;
      counted = c.load_row.ensures.value;
    }))
