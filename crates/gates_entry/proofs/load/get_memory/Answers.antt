use borrow.Author.Rules.{rules}
use Rattle.gates_entry.specs.Entry.{memory_there, silence_cell_there, memory_loaded}
use Rattle.lib_laws.specs.Both.{both}
use Rattle.gates_entry.proofs.load.get_memory.Goals as goal

pub load_silent-requires : goal.load_silent-requires
load_silent-requires c = record { silence_len_in_bounds = search rules; fit_silence_cell = silence_cell_there c.args.s.now c.args.i c.requires.fit_gates c.requires.i_bound }

pub load_row-requires : goal.load_row-requires
load_row-requires c = (search rules, (search rules, (search rules, (memory_there c.args.s.now c.args.i c.requires.fit_gates c.requires.i_bound).replays)))

pub returns : goal.returns
returns c =
    both (λ a b. record { fit_memory = a; result_value = b }) (memory_loaded c.args.s.now c.args.i c.requires.fit_gates c.requires.i_bound (record {
      peer = c.load_fixed.ensures;
      stamp = c.get_option.ensures;
      fit = c.load_silent.ensures.fit_silence;
      silence = c.load_silent.ensures.result_value;
      fits = c.load_row.ensures.fit;
      replays = c.load_row.ensures.value;
    }))
