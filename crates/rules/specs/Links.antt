-- Link records, what uses a connection, and what is closed (links.rs).
use Rattle.std.specs.Prelude.{Bool, true, false, not, ◌&&◌, ◌||◌, List, [], ◌∷◌, ◌++◌, map, ℕ, eqb, if◌then◌else◌}
use Rattle.rules.specs.Base.{option, empty, find, without, alter, any, keep}
use Rattle.rules.specs.Data.{Pair, same_pair, Dir, Holder, ALeg, APeer, Proven, Live, Acked, Probing, PathRec, LinkRec}

abbrev pub numbered : ℕ → LinkRec → Bool
numbered n r = eqb n r.no

-- a Live or an Acked path counts
abbrev pub counts : Proven → Bool
counts Live = true
counts Acked = true
counts Probing = false

abbrev pub is_leg : Holder → Bool
is_leg ALeg = true
is_leg (APeer p) = false

abbrev pub path_at : Pair → PathRec → Bool
path_at p w = same_pair p w.pair

-- a path at the pair that counts
abbrev pub proven_at : Pair → PathRec → Bool
proven_at p w = path_at p w && counts w.state

-- A record uses its setup if it has no paths or a leg holds it, and each Live or Acked path; `released` doesn't enter.
unfoldable pub uses : Pair → LinkRec → Bool
uses p r = (same_pair p r.setup && (empty r.paths || is_leg r.holder)) || any (proven_at p) r.paths

-- whether some record uses the pair
unfoldable pub in_use : Pair → List LinkRec → Bool
in_use p s = any (uses p) s

-- The index, `derived`: the setup unless released, and each Live or Acked path.
unfoldable pub indexed : Pair → LinkRec → Bool
indexed p r = (same_pair p r.setup && not r.released) || any (proven_at p) r.paths

-- `open`
unfoldable pub opened : ℕ → Pair → Dir → LinkRec
opened n p d = record { no = n; setup = p; dir = d; holder = ALeg; paths = []; released = false }

abbrev pub held_by : Holder → LinkRec → LinkRec
held_by h r = record { no = r.no; setup = r.setup; dir = r.dir; holder = h; paths = r.paths; released = r.released }

unfoldable pub hold : ℕ → Holder → List LinkRec → List LinkRec
hold n h s = alter (numbered n) (held_by h) s

-- a path, changed or new
unfoldable pub set_path : Pair → Proven → List PathRec → List PathRec
set_path p v s =
    let new : PathRec = record { pair = p; state = v } in
    if any (path_at p) s then alter (path_at p) (λ w. record { pair = w.pair; state = v }) s else s ++ (new ∷ [])

abbrev pub with_path : Pair → Proven → LinkRec → LinkRec
with_path p v r = record { no = r.no; setup = r.setup; dir = r.dir; holder = r.holder; paths = set_path p v r.paths; released = r.released }

unfoldable pub path : ℕ → Pair → Proven → List LinkRec → List LinkRec
path n p v s = alter (numbered n) (with_path p v) s

-- those not seen before, once each
unfoldable pub once : List Pair → List Pair → List Pair
once seen [] = []
once seen (p ∷ s) = if any (same_pair p) seen then once seen s else p ∷ once (p ∷ seen) s

-- setup, then paths
unfoldable pub addresses : LinkRec → List Pair
addresses r = once [] (r.setup ∷ map (λ w. w.pair) r.paths)

-- `retire`: the record goes
abbrev pub retired : ℕ → List LinkRec → List LinkRec
retired n s = without (numbered n) s

-- what it lists: its addresses that no other record uses
unfoldable pub retiring : ℕ → List LinkRec → List Pair
retiring n s = option (find (numbered n) s) [] λ r. keep (λ p. not (in_use p (retired n s))) (addresses r)

abbrev pub without_path : Pair → LinkRec → LinkRec
without_path p r = record {
  no = r.no;
  setup = r.setup;
  dir = r.dir;
  holder = r.holder;
  paths = keep (λ w. not (path_at p w)) r.paths;
  released = r.released || same_pair p r.setup;
}

-- `release`: the path goes; a setup that is released leaves the index
unfoldable pub released : ℕ → Pair → List LinkRec → List LinkRec
released n p s = alter (numbered n) (without_path p) s

-- what it lists: the pair, unless it is kept or a record uses it, the link's own among them
unfoldable pub releasing : ℕ → Pair → Bool → List LinkRec → List Pair
releasing n p kept s = if not (any (numbered n) s) || kept || in_use p (released n p s) then [] else p ∷ []
