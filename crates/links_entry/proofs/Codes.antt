-- The byte of a variant is its number.
use Rattle.std.specs.Prelude.{◌≡◌, refl}
use denote.Enum.Declared.{tag_of}
use Rattle.rules.specs.Field.{state_code}
use Rattle.links_entry.specs.View.{view_dir, dir_code, view_proven}
use Rattle.links_entry.specs.declared.record.Dir as dirs
use Rattle.links_entry.specs.declared.record.Dir.TheVariants as dirv
use Rattle.links_entry.specs.declared.record.Proven as provens
use Rattle.links_entry.specs.declared.record.Proven.TheVariants as provenv
use Rattle.links_entry.specs.contracts.record.Dir as dirc
use Rattle.links_entry.specs.contracts.record.Proven as provenc

pub dir_tag : (d : dirs.Dir) → tag_of dirc.the_type d ≡ dir_code (view_dir d)
dir_tag dirv.Inbound = refl
dir_tag dirv.Outbound = refl

pub state_tag : (v : provens.Proven) → tag_of provenc.the_type v ≡ state_code (view_proven v)
state_tag provenv.Live = refl
state_tag provenv.Acked = refl
state_tag provenv.Probing = refl
