-- A message where it stands in a record.
use Rattle.std.specs.Prelude.{◌+◌, ◌≤◌, length, take, drop}
use Rattle.rules.specs.Base.{Bytes}
use Rattle.input_cursor.specs.declared.Span as spans

abbrev pub span_of : Bytes → spans.Span → Bytes
span_of s m = take m.len (drop m.at s)

pub record FitSpan (s : Bytes) (m : spans.Span) : Type 0 where
  pub small : m.len ≤ 128
  pub room : m.at + m.len ≤ length s
