use mathlib.Core.Path.{refl}
use Rattle.lib_laws.specs.Splice.{wrote_then}
use mathlib.Core.List.{[]}
use Rattle.rules.specs.Data.{Output}
use Rattle.rules.specs.Output.{output_bytes}
use Rattle.output_field.specs.Part.{written}
use Rattle.output_closes.specs.Lists.{list_none}
use Rattle.output_closes.proofs.put_release_none.Goals as goal

pub returns : goal.returns
unfolding output_bytes
returns c = written (Output.Release _ []) _ _ c.put_kind-a.ensures (wrote_then c.put_be-b.ensures (list_none c.put_be.ensures)) refl refl
