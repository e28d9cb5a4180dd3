-- What the library's `==` says of addresses, messages and pairs: the rules' equality of what they show.
use Rattle.std.specs.Prelude.{◌≡◌, refl, ℕ, Bool, true, false, ◌&&◌, eqb}
use Rattle.std.specs.Cmp.Lexicographic.{pointwise}
use Rattle.std.proofs.Common.{ap, ◌∙◌, eqb-true}
use Rattle.std.proofs.lemmas.Bool.{eqb-false}
use Rattle.rules.specs.Base.{same}
use Rattle.rules.specs.Data.{same_pair}
use Rattle.lib_laws.specs.Numbers.{same_pointwise}
use Rattle.node_addr.specs.Alike.{same_arrays, same_unlike}
use Rattle.node_addr.proofs.Filled.{kept_padded}
use Rattle.node_addr.specs.Padded.{view}
use Rattle.node_addr.specs.View.{view_pair}
use Rattle.node_addr.specs.declared.padded.Padded.{Padded}
use Rattle.node_addr.specs.declared.Pair as pair

pub padded_alike : {n : ℕ} (p q : Padded n) → (eqb p.len q.len && pointwise eqb p.bytes q.bytes) ≡ same (view p) (view q)
padded_alike p q = go (eqb p.len q.len) refl
  where
    go : (b : Bool) → eqb p.len q.len ≡ b → (b && pointwise eqb p.bytes q.bytes) ≡ same (view p) (view q)
    go true e = same_pointwise p.bytes q.bytes ∙ same_arrays (kept_padded p) (kept_padded q) (eqb-true p.len q.len e)
    go false e = same_unlike (kept_padded p) (kept_padded q) (eqb-false p.len q.len e)

pub pair_alike : (p q : pair.Pair) → (eqb p.transport.0 q.transport.0 && (eqb p.addr.len q.addr.len && pointwise eqb p.addr.bytes q.addr.bytes)) ≡ same_pair (view_pair p) (view_pair q)
pair_alike p q = ap (λ (b : Bool). eqb p.transport.0 q.transport.0 && b) (padded_alike p.addr q.addr)
