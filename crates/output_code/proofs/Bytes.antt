-- The byte of a case, `case as u8`, is the code of what it means.
use Rattle.std.specs.Prelude.{◌≡◌}
use Rattle.std.proofs.Common.{rules}
use denote.Enum.Declared.{tag_of}
use Rattle.rules.specs.Field.{why_code}
use Rattle.rules.specs.Output.{build_code, transition_code, source_code}
use Rattle.gates_types.specs.View.{source_of}
use Rattle.gates_types.specs.declared.Source.{Source}
use Rattle.gates_types.specs.contracts.Source as source
use Rattle.output_code.specs.Codes.{kind_code, why_of, build_of, transition_of}
use Rattle.output_code.specs.declared.kind.Kind.{Kind}
use Rattle.output_code.specs.contracts.kind.Kind as kind
use Rattle.output_code.specs.declared.Why.{Why}
use Rattle.output_code.specs.contracts.Why as why
use Rattle.output_code.specs.declared.Build.{Build}
use Rattle.output_code.specs.contracts.Build as build
use Rattle.output_code.specs.declared.Transition.{Transition}
use Rattle.output_code.specs.contracts.Transition as transition

pub kind_byte : (k : Kind) → tag_of kind.the_type k ≡ kind_code k
kind_byte k = search rules

pub why_byte : (w : Why) → tag_of why.the_type w ≡ why_code (why_of w)
why_byte w = search rules

pub build_byte : (b : Build) → tag_of build.the_type b ≡ build_code (build_of b)
build_byte b = search rules

pub transition_byte : (t : Transition) → tag_of transition.the_type t ≡ transition_code (transition_of t)
transition_byte t = search rules

pub source_byte : (s : Source) → tag_of source.the_type s ≡ source_code (source_of s)
source_byte s = search rules
