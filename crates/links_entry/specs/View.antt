-- What link records in memory and by value show, and their canonical form.
use Rattle.std.specs.Prelude.{◌≡◌, Bool, true, false, not, ◌&&◌, ◌||◌, List, [], map, ℕ, eqb, leb, length, take, drop, get_or, replicate, if◌then◌else◌, ◌≤◌, Result, MatchResult}
use Rattle.rules.specs.Base.{option, find, any, keep, Bytes}
use Rattle.rules.specs.Data.{Pair, same_pair, Dir, Inbound, Outbound, Holder, ALeg, APeer, Proven, Live, Acked, Probing, PathRec, LinkRec}
use Rattle.rules.specs.Field.{state_code}
use Rattle.rules.specs.Links.{numbered, path_at}
use Rattle.lib_laws.specs.Cell.{num, byte_of, flag_of, Code}
use Rattle.lib_laws.specs.Fields.{cuts}
use Rattle.lib_laws.specs.Store.{Store, entries}
use Rattle.node_addr.specs.Place.{pair_of, PairCell}
use Rattle.node_addr.specs.View.{view_pair}
use Rattle.node_addr.specs.Layout.{pair_width}
use Rattle.links_entry.specs.Layout.{link_ws, at_link_count, at_path_count, at_path_state, link_cap, link_width, path_cap, path_width}
use Rattle.links_entry.specs.declared.record.Dir as dirs
use Rattle.links_entry.specs.declared.record.Dir.TheVariants as dirv
use Rattle.links_entry.specs.declared.record.UnknownDir.{UnknownDir}
use Rattle.links_entry.specs.declared.record.Holder as holders
use Rattle.links_entry.specs.declared.record.Holder.TheVariants as holderv
use Rattle.links_entry.specs.declared.record.Proven as provens
use Rattle.links_entry.specs.declared.record.Proven.TheVariants as provenv
use Rattle.links_entry.specs.declared.record.UnknownProven.{UnknownProven}
use Rattle.links_entry.specs.declared.record.Path as path
use Rattle.links_entry.specs.declared.record.LinkRec as linkrec

-- ---- a path in memory: pair 53, state 1 (0 Live, 1 Acked, 2 Probing)
abbrev pub state_of : ℕ → Proven
state_of b = if eqb b 0 then Live else (if eqb b 1 then Acked else Probing)

abbrev pub path_of : Bytes → PathRec
path_of c = record { pair = pair_of (take pair_width c); state = state_of (byte_of (take 1 (drop at_path_state c))) }

pub record FitPath (c : Bytes) : Type 0 where
  pub pair : PairCell (take pair_width c)
  pub state : Code 3 (take 1 (drop at_path_state c))

-- the paths of a link: 4 of 54 bytes, and their count
abbrev pub view_paths : Bytes → List PathRec
view_paths s = entries path_of path_width path_cap s

-- a clause, as FitLinks is: a link's paths are a region in its entry
abbrev pub FitPaths : Bytes → Type 0
FitPaths s = Store FitPath path_width path_cap s

abbrev pub path_count : Bytes → ℕ
path_count s = get_or s at_path_count 0

abbrev pub no_path : PathRec
no_path = record { pair = record { transport = 0; addr = [] }; state = Live }

abbrev pub new_path : Pair → Proven → PathRec
new_path p v = record { pair = p; state = v }

abbrev pub in_state : Proven → PathRec → PathRec
in_state v w = record { pair = w.pair; state = v }

-- ---- a link in memory: no 8, setup 53, dir 1 (0 Inbound, 1 Outbound), holder 17 (1 and zeros: a leg; 0 and the peer), released 1, paths 217
abbrev pub dir_of : ℕ → Dir
dir_of b = if eqb b 1 then Outbound else Inbound

abbrev pub holder_of : Bytes → Holder
holder_of c = if flag_of (take 1 c) then ALeg else APeer (take 16 (drop 1 c))

abbrev pub link_from : List Bytes → LinkRec
link_from fs =
    record {
      no = num (get_or fs 0 []);
      setup = pair_of (get_or fs 1 []);
      dir = dir_of (byte_of (get_or fs 2 []));
      holder = holder_of (get_or fs 3 []);
      paths = view_paths (get_or fs 5 []);
      released = flag_of (get_or fs 4 []);
    }

abbrev pub link_of : Bytes → LinkRec
link_of c = link_from (cuts 0 0 link_ws c)

pub record FitHolder (c : Bytes) : Type 0 where
  pub flag : Code 2 (take 1 c)
  pub blank : flag_of (take 1 c) ≡ true → take 16 (drop 1 c) ≡ replicate 16 0

pub record FitFields (fs : List Bytes) : Type 0 where
  pub setup : PairCell (get_or fs 1 [])
  pub dir : Code 2 (get_or fs 2 [])
  pub holder : FitHolder (get_or fs 3 [])
  pub released : Code 2 (get_or fs 4 [])
  pub paths : FitPaths (get_or fs 5 [])

abbrev pub FitLink : Bytes → Type 0
FitLink c = FitFields (cuts 0 0 link_ws c)

abbrev pub view_links : Bytes → List LinkRec
view_links s = entries link_of link_width link_cap s

-- a clause of each function that is lent the region: a struct that lends it would ask of each caller that the reference within keeps its name
abbrev pub FitLinks : Bytes → Type 0
FitLinks s = Store FitLink link_width link_cap s

abbrev pub link_count : Bytes → ℕ
link_count s = get_or s at_link_count 0

-- what stands at no place
abbrev pub no_link : LinkRec
no_link = record { no = 0; setup = record { transport = 0; addr = [] }; dir = Inbound; holder = ALeg; paths = []; released = false }

-- the record with other paths, or another flag
abbrev pub with_paths : List PathRec → LinkRec → LinkRec
with_paths l r = record { no = r.no; setup = r.setup; dir = r.dir; holder = r.holder; paths = l; released = r.released }

abbrev pub with_released : Bool → LinkRec → LinkRec
with_released b r = record { no = r.no; setup = r.setup; dir = r.dir; holder = r.holder; paths = r.paths; released = b }

-- the two halves of a release
abbrev pub marked_at : Pair → LinkRec → LinkRec
marked_at p r = with_released (r.released || same_pair p r.setup) r

abbrev pub cut_at : Pair → LinkRec → LinkRec
cut_at p r = with_paths (keep (λ w. not (path_at p w)) r.paths) r

-- whether a path at the pair would be a fifth
abbrev pub full : Pair → List PathRec → Bool
full p s = not (any (path_at p) s) && leb 4 (length s)

unfoldable pub crowding : ℕ → Pair → List LinkRec → Bool
crowding n p s = option (find (numbered n) s) false λ r. full p r.paths

abbrev pub outward : Dir → Bool
outward Inbound = false
outward Outbound = true

-- ---- by value
abbrev pub dir_code : Dir → ℕ
dir_code Inbound = 0
dir_code Outbound = 1

abbrev pub view_dir : dirs.Dir → Dir
view_dir dirv.Inbound = Inbound
view_dir dirv.Outbound = Outbound

abbrev pub view_proven : provens.Proven → Proven
view_proven provenv.Live = Live
view_proven provenv.Acked = Acked
view_proven provenv.Probing = Probing

-- what a byte gives: the direction, the state whose byte it is, or an error with a byte that is none's
abbrev pub DecodesDir : ℕ → Result dirs.Dir UnknownDir → Type 0
DecodesDir code r = MatchResult r (λ d. dir_code (view_dir d) ≡ code) (λ e. (e.0 ≡ code) × (2 ≤ code))

abbrev pub DecodesProven : ℕ → Result provens.Proven UnknownProven → Type 0
DecodesProven code r = MatchResult r (λ v. state_code (view_proven v) ≡ code) (λ e. (e.0 ≡ code) × (3 ≤ code))

abbrev pub view_path : path.Path → PathRec
view_path w = record { pair = view_pair w.pair; state = view_proven w.state }

abbrev pub view_holder : holders.Holder → Holder
view_holder holderv.Leg = ALeg
view_holder (holderv.Peer p) = APeer p.0

abbrev pub view_link : linkrec.LinkRec → LinkRec
view_link r =
    record {
      no = r.no.0;
      setup = view_pair r.setup;
      dir = view_dir r.dir;
      holder = view_holder r.holder;
      paths = map view_path r.paths.items;
      released = r.released;
    }
