-- What a hello says, with the record that its pair and its messages stand in, and when it is well formed.
use Rattle.std.specs.Prelude.{drop}
use Rattle.rules.specs.Base.{Bytes}
use Rattle.rules.specs.Data.{Hello}
use Rattle.node_addr.specs.Place.{pair_here, PairIn}
use Rattle.input_cursor.specs.Span.{span_of, FitSpan}
use Rattle.input_call.specs.declared.hello.Hello as hello

abbrev pub hello_of : Bytes → hello.Hello → Hello
hello_of s h = record {
  peer = h.peer.0;
  from = pair_here (drop h.from s);
  bytes = span_of s h.message;
  ephemeral = h.digest.0;
  epoch = h.epoch;
  msg2 = span_of s h.msg2;
  lease = h.lease;
}

-- a clause, since it ties the places in a hello to the record that they lie in
pub record FitHello (s : Bytes) (h : hello.Hello) : Type 0 where
  pub pair : PairIn s h.from
  pub message : FitSpan s h.message
  pub msg2 : FitSpan s h.msg2
