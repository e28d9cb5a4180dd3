-- What stands at a place of the links, and of a link's paths, read where it stands.
use Rattle.std.specs.Prelude.{◌≡◌, refl, Bool, true, false, ℕ, zero, suc, ◌+◌, ◌-◌, ◌*◌, ◌≤◌, ◌<◌, eqb, length, take, drop, get_or, if◌then◌else◌}
use Rattle.std.proofs.Math.Path.{sym, ap}
use Rattle.std.proofs.Common.{◌∙◌, subst, add-zero, arith, rules, eq-eqb, ne_eqb, lit≤, lit<, get_or-take, get_or-drop, take-take, drop-drop}
use Rattle.std.proofs.Math.Bool.{not}
use mathlib.Core.List.{List, [], ◌∷◌}
use Rattle.rules.specs.Base.{Bytes, empty}
use Rattle.rules.specs.Data.{Pair, same_pair, Dir, Inbound, Outbound, ALeg, APeer, Proven, Live, Acked, Probing, PathRec, LinkRec}
use Rattle.rules.specs.Field.{state_code}
use Rattle.rules.specs.Links.{counts, is_leg, path_at}
use Rattle.lib_laws.specs.Shift.{erase, shown, fit_at}
use Rattle.lib_laws.specs.Cell.{num, byte_of, flag_of}
use Rattle.lib_laws.specs.Chunk.{chunks}
use Rattle.lib_laws.specs.Fields.{cuts, cuts_at, field_at, sum}
use Rattle.lib_laws.specs.Store.{entries_count}
use Rattle.node_addr.specs.Place.{pair_of, PairCell}
use Rattle.node_addr.specs.Layout.{pair_width}
use Rattle.links_entry.specs.Layout.{link_ws, at_dir, at_holder, at_holder_peer, at_link_path_count, at_path_count, at_path_state, at_paths, at_released, at_setup, link_cap, link_width, path_cap, path_width, paths_len}
use Rattle.links_entry.specs.View.{state_of, path_of, FitPath, view_paths, FitPaths, path_count, dir_code, dir_of, holder_of, link_from, link_of, FitFields, view_links, FitLinks, link_count, no_link, no_path, outward}
use Rattle.links_entry.specs.Asking.{Sifted, sifted_drop, sifted_pass}

module _ {s : Bytes} {i : ℕ} (f : FitLinks s) (h : i < link_count s) where
  fields_at : cuts (i * link_width) 0 link_ws s ≡ cuts 0 0 link_ws (get_or (chunks link_width link_cap s) i [])
  unfolding sum
  fields_at = cuts_at link_width link_cap s i [] 0 link_ws (omega arith) (lit≤ tt) (omega arith)

  pub link_here : link_from (cuts (i * link_width) 0 link_ws s) ≡ get_or (view_links s) i no_link
  link_here = ap link_from fields_at ∙ shown link_of i [] no_link f.kept h

  pub fit_here : FitFields (cuts (i * link_width) 0 link_ws s)
  fit_here = subst FitFields (sym fields_at) (fit_at link_of i [] f.kept h)

  pub no_here : num (take 8 (drop (i * link_width) s)) ≡ (get_or (view_links s) i no_link).no
  no_here = ap (λ (b : ℕ). num (take 8 (drop b s))) (sym (add-zero (i * link_width))) ∙ ap (λ (r : LinkRec). r.no) link_here

  pub setup_here : pair_of (take pair_width (drop (i * link_width + at_setup) s)) ≡ (get_or (view_links s) i no_link).setup
  setup_here = ap (λ (r : LinkRec). r.setup) link_here

  pub dir_here : dir_of (byte_of (take 1 (drop (i * link_width + at_dir) s))) ≡ (get_or (view_links s) i no_link).dir
  dir_here = ap (λ (r : LinkRec). r.dir) link_here

  pub released_here : flag_of (take 1 (drop (i * link_width + at_released) s)) ≡ (get_or (view_links s) i no_link).released
  released_here = ap (λ (r : LinkRec). r.released) link_here

  pub holder_here : holder_of (take 17 (drop (i * link_width + at_holder) s)) ≡ (get_or (view_links s) i no_link).holder
  holder_here = ap (λ (r : LinkRec). r.holder) link_here

  pub paths_here : view_paths (take paths_len (drop (i * link_width + at_paths) s)) ≡ (get_or (view_links s) i no_link).paths
  paths_here = ap (λ (r : LinkRec). r.paths) link_here

  pub paths_fit : FitPaths (take paths_len (drop (i * link_width + at_paths) s))
  paths_fit = fit_here.paths

  pub link_shown : link_of (get_or (chunks link_width link_cap s) i []) ≡ get_or (view_links s) i no_link
  link_shown = shown link_of i [] no_link f.kept h

  -- the number, of the chunk
  pub key_here : num (take 8 (drop (i * link_width) s)) ≡ (link_of (get_or (chunks link_width link_cap s) i [])).no
  key_here = no_here ∙ sym (ap (λ (r : LinkRec). r.no) (shown link_of i [] no_link f.kept h))

  pub key_is : {b : ℕ} → b ≡ num (take 8 (drop (i * link_width) s)) → b ≡ (link_of (get_or (chunks link_width link_cap s) i [])).no
  key_is e = e ∙ key_here

-- ---- a path
module _ {s : Bytes} {j : ℕ} (f : FitPaths s) (h : j < path_count s) where
  path_pair : take pair_width (get_or (chunks path_width path_cap s) j []) ≡ take pair_width (drop (j * path_width) s)
  path_pair = field_at path_width path_cap s j [] 0 pair_width (omega arith) (lit≤ tt) (omega arith) ∙ ap (λ (b : ℕ). take pair_width (drop b s)) (add-zero (j * path_width))

  path_state : take 1 (drop at_path_state (get_or (chunks path_width path_cap s) j [])) ≡ take 1 (drop (j * path_width + at_path_state) s)
  path_state = field_at path_width path_cap s j [] at_path_state 1 (omega arith) (lit≤ tt) (omega arith)

  pub pair_here_path : pair_of (take pair_width (drop (j * path_width) s)) ≡ (path_of (get_or (chunks path_width path_cap s) j [])).pair
  pair_here_path = ap pair_of (sym path_pair)

  pub state_here : state_of (byte_of (take 1 (drop (j * path_width + at_path_state) s))) ≡ (path_of (get_or (chunks path_width path_cap s) j [])).state
  state_here = ap (λ (b : Bytes). state_of (byte_of b)) (sym path_state)

  pub path_fit : FitPath (get_or (chunks path_width path_cap s) j [])
  path_fit = fit_at path_of j [] f.kept h

  pub pair_fit : PairCell (take pair_width (drop (j * path_width) s))
  pair_fit = subst PairCell path_pair path_fit.pair

  pub state_low : byte_of (take 1 (drop (j * path_width + at_path_state) s)) < 3
  state_low = subst (λ (b : Bytes). byte_of b < 3) path_state path_fit.state.low

-- ---- as the code reads it
pub byte_here : (s : Bytes) (at : ℕ) → get_or s at 0 ≡ get_or (take 1 (drop at s)) 0 0
byte_here s at = sym (get_or-take 1 (drop at s) 0 0 (lit< tt) ∙ get_or-drop at s 0 0 ∙ ap (λ (i : ℕ). get_or s i 0) (add-zero at))

-- a byte in a part
pub byte_in : (s : Bytes) (a k n : ℕ) → n < k → get_or (take k (drop a s)) n 0 ≡ get_or s (a + n) 0
byte_in s a k n h = get_or-take k (drop a s) n 0 h ∙ get_or-drop a s n 0

dir_shows : (d : Dir) → dir_of (dir_code d) ≡ d
dir_shows Inbound = refl
dir_shows Outbound = refl

outward_of : (b : ℕ) → outward (dir_of b) ≡ eqb b 1
outward_of b = go (eqb b 1)
  where
    go : (x : Bool) → outward (if x then Outbound else Inbound) ≡ x
    go true = refl
    go false = refl

leg_of : (c : Bytes) → is_leg (holder_of c) ≡ flag_of (take 1 c)
leg_of c = go (flag_of (take 1 c))
  where
    go : (x : Bool) → is_leg (if x then ALeg else APeer (take 16 (drop 1 c))) ≡ x
    go true = refl
    go false = refl

empty_is : {A : Type 0} (xs : List A) → eqb (length xs) 0 ≡ empty xs
empty_is [] = refl
empty_is (x ∷ xs) = ne_eqb (suc (length xs)) 0 (λ e. omega arith)

-- the length of the paths that the code lends
abbrev pub span : ℕ → ℕ
span i = i * link_width + at_paths + paths_len - (i * link_width + at_paths)

pub span_is : (i : ℕ) → span i ≡ paths_len
span_is i = omega arith

-- what holds a link, as the code reads it
drop_taken : (m n : ℕ) (u : Bytes) → drop 1 (take (suc n) u) ≡ take n (drop 1 u)
drop_taken m n [] = empty_take n
  where
    empty_take : (n : ℕ) → ◌≡◌ {A = Bytes} [] (take n [])
    empty_take zero = refl
    empty_take (suc n) = refl
drop_taken m n (x ∷ u) = refl

holder_loaded : (a : ℕ) (s : Bytes) → holder_of (take 17 (drop (a + at_holder) s)) ≡ (if eqb (get_or s (a + at_holder) 0) 1 then ALeg else APeer (take 16 (drop (a + at_holder_peer) s)))
holder_loaded a s =
    let x : take 1 (take 17 (drop (a + at_holder) s)) ≡ take 1 (drop (a + at_holder) s) = take-take 1 17 (drop (a + at_holder) s) (lit≤ tt) in
    let y : a + at_holder + 1 ≡ a + at_holder_peer = omega arith in
    let z : take 16 (drop 1 (take 17 (drop (a + at_holder) s))) ≡ take 16 (drop (a + at_holder_peer) s) =
    ap (λ (u : Bytes). take 16 u) (drop_taken 0 16 (drop (a + at_holder) s)) ∙ take-take 16 16 (drop 1 (drop (a + at_holder) s)) (lit≤ tt) ∙ rw (drop-drop 1 (a + at_holder) s, y) in
    rw (x, z, byte_here s (a + at_holder))

module _ {s : Bytes} {i : ℕ} (f : FitLinks s) (h : i < link_count s) where
  pub no_is : {b : ℕ} → b ≡ num (take 8 (drop (i * link_width) s)) → b ≡ (get_or (view_links s) i no_link).no
  no_is e = e ∙ no_here f h

  pub setup_cell : PairCell (take pair_width (drop (i * link_width + at_setup) s))
  setup_cell = (fit_here f h).setup

  pub setup_shows : {x : Pair} → x ≡ pair_of (take pair_width (drop (i * link_width + at_setup) s)) → x ≡ (get_or (view_links s) i no_link).setup
  setup_shows e = e ∙ setup_here f h

  pub setup_same : (x : Pair) {b : Bool} → b ≡ same_pair x (pair_of (take pair_width (drop (i * link_width + at_setup) s))) → b ≡ same_pair x (get_or (view_links s) i no_link).setup
  setup_same x e = e ∙ ap (same_pair x) (setup_here f h)

  pub outbound_is : {b : ℕ} → b ≡ get_or s (i * link_width + at_dir) 0 → eqb b 1 ≡ outward (get_or (view_links s) i no_link).dir
  outbound_is {b} e = rw (e, byte_here s (i * link_width + at_dir)) (sym (outward_of (byte_of (take 1 (drop (i * link_width + at_dir) s)))) ∙ ap outward (dir_here f h))

  pub dir_small : {b : ℕ} → b ≡ get_or s (i * link_width + at_dir) 0 → b < 2
  dir_small e = rw (e, byte_here s (i * link_width + at_dir)) (fit_here f h).dir.low

  pub dir_named : {b : ℕ} (x : Dir) → dir_code x ≡ b → b ≡ get_or s (i * link_width + at_dir) 0 → x ≡ (get_or (view_links s) i no_link).dir
  dir_named x q e = sym (dir_shows x) ∙ ap dir_of (q ∙ e ∙ byte_here s (i * link_width + at_dir)) ∙ dir_here f h

  pub released_is : {b : ℕ} → b ≡ get_or s (i * link_width + at_released) 0 → eqb b 1 ≡ (get_or (view_links s) i no_link).released
  released_is {b} e = rw (e, byte_here s (i * link_width + at_released)) (released_here f h)

  pub leg_is : {b : ℕ} → b ≡ get_or s (i * link_width + at_holder) 0 → eqb b 1 ≡ is_leg (get_or (view_links s) i no_link).holder
  leg_is {b} e =
      let z : take 1 (take 17 (drop (i * link_width + at_holder) s)) ≡ take 1 (drop (i * link_width + at_holder) s) = take-take 1 17 (drop (i * link_width + at_holder) s) (lit≤ tt) in
      rw (e, byte_here s (i * link_width + at_holder), ← z) (sym (leg_of (take 17 (drop (i * link_width + at_holder) s))) ∙ ap is_leg (holder_here f h))

  pub holder_is : {b : ℕ} → b ≡ get_or s (i * link_width + at_holder) 0 → (if eqb b 1 then ALeg else APeer (take 16 (drop (i * link_width + at_holder_peer) s))) ≡ (get_or (view_links s) i no_link).holder
  holder_is e = rw e (sym (holder_loaded (i * link_width) s)) ∙ holder_here f h

  pub holder_leg : {b : ℕ} → b ≡ get_or s (i * link_width + at_holder) 0 → b ≡ 1 → ALeg ≡ (get_or (view_links s) i no_link).holder
  holder_leg e z = let q = holder_is e in rw z at q

  pub holder_peer : {b : ℕ} {x : Bytes} → b ≡ get_or s (i * link_width + at_holder) 0 → (b ≡ 1 → ⊥) → x ≡ take 16 (drop (i * link_width + at_holder_peer) s) → APeer x ≡ (get_or (view_links s) i no_link).holder
  holder_peer {b} e z p = let q = holder_is e in rw p (rw (ne_eqb b 1 z) at q)

  -- the paths, lent
  pub paths_lent : FitPaths (take (span i) (drop (i * link_width + at_paths) s))
  paths_lent = rw (span_is i) (paths_fit f h)

  pub paths_show : view_paths (take (span i) (drop (i * link_width + at_paths) s)) ≡ (get_or (view_links s) i no_link).paths
  paths_show = ap (λ (k : ℕ). view_paths (take k (drop (i * link_width + at_paths) s))) (span_is i) ∙ paths_here f h

-- how many paths a link has, and the j-th of them
module _ {s : Bytes} {i : ℕ} (f : FitLinks s) (h : i < link_count s) where
  paths_count : path_count (take paths_len (drop (i * link_width + at_paths) s)) ≡ get_or s (i * link_width + at_link_path_count) 0
  paths_count =
      let e : i * link_width + at_paths + at_path_count ≡ i * link_width + at_link_path_count = omega arith in
      byte_in s (i * link_width + at_paths) paths_len at_path_count (lit< tt) ∙ ap (λ (k : ℕ). get_or s k 0) e

  paths_length : length (get_or (view_links s) i no_link).paths ≡ path_count (take paths_len (drop (i * link_width + at_paths) s))
  paths_length = ap length (sym (paths_here f h)) ∙ entries_count path_of (paths_fit f h)

  pub path_count_is : {n : ℕ} → n ≡ get_or s (i * link_width + at_link_path_count) 0 → n ≡ length (get_or (view_links s) i no_link).paths
  path_count_is e = e ∙ sym paths_count ∙ sym paths_length

  pub paths_few : {n : ℕ} → n ≡ length (get_or (view_links s) i no_link).paths → n ≤ path_cap
  paths_few e = omega (arith, e, paths_length, (paths_fit f h).kept.small)

  pub path_lent : {j : ℕ} → j < length (get_or (view_links s) i no_link).paths → j < path_count (take (span i) (drop (i * link_width + at_paths) s))
  path_lent {j} l = rw (span_is i) (subst (λ (n : ℕ). j < n) paths_length l)

  pub path_is : {A : Type 0} {j : ℕ} (g : PathRec → A) {b : A} → j < length (get_or (view_links s) i no_link).paths
      → b ≡ g (path_of (get_or (chunks path_width path_cap (take (span i) (drop (i * link_width + at_paths) s))) j [])) → b ≡ g (get_or (get_or (view_links s) i no_link).paths j no_path)
  path_is {j = j} g l e =
      (rw (span_is i) at e)
      ∙ ap g (shown path_of j [] no_path (paths_fit f h).kept (subst (λ (n : ℕ). j < n) paths_length l) ∙ ap (λ (ws : List PathRec). get_or ws j no_path) (paths_here f h))

-- whether a link has no paths
pub paths_none : {A : Type 0} (xs : List A) {n : ℕ} → n ≡ length xs → eqb n 0 ≡ empty xs
paths_none xs e = rw e (empty_is xs)

pub ruleset reading = (rules, no_is, setup_cell, setup_shows, setup_same, outbound_is, dir_small, released_is)

-- ---- a path's state
pub state_shows : (v : Proven) → state_of (state_code v) ≡ v
state_shows Live = refl
state_shows Acked = refl
state_shows Probing = refl

counts_of : (b : ℕ) → b < 3 → not (eqb b 2) ≡ counts (state_of b)
counts_of zero p = refl
counts_of (suc zero) p = refl
counts_of (suc (suc zero)) p = refl
counts_of (suc (suc (suc b))) p = absurd (omega arith)

module _ {s : Bytes} {j : ℕ} (f : FitPaths s) (h : j < path_count s) where
  pub path_cell : PairCell (take pair_width (drop (j * path_width) s))
  path_cell = pair_fit f h

  pub path_same : (x : Pair) {b : Bool} → b ≡ same_pair x (pair_of (take pair_width (drop (j * path_width) s))) → b ≡ path_at x (path_of (get_or (chunks path_width path_cap s) j []))
  path_same x e = e ∙ ap (same_pair x) (pair_here_path f h)

  pub state_is : {v : ℕ} → v ≡ get_or s (j * path_width + at_path_state) 0 → state_of v ≡ (path_of (get_or (chunks path_width path_cap s) j [])).state
  state_is {v} e = ap state_of (e ∙ byte_here s (j * path_width + at_path_state)) ∙ state_here f h

  pub state_small : {v : ℕ} → v ≡ get_or s (j * path_width + at_path_state) 0 → v < 3
  state_small e = rw (e ∙ byte_here s (j * path_width + at_path_state)) (state_low f h)

  pub state_named : {v : ℕ} (x : Proven) → state_code x ≡ v → v ≡ get_or s (j * path_width + at_path_state) 0 → x ≡ (path_of (get_or (chunks path_width path_cap s) j [])).state
  state_named x q e = sym (state_shows x) ∙ ap state_of q ∙ state_is e

  pub counts_is : {v : ℕ} → v ≡ get_or s (j * path_width + at_path_state) 0 → not (eqb v 2) ≡ counts (path_of (get_or (chunks path_width path_cap s) j [])).state
  counts_is {v} e = counts_of v (state_small e) ∙ ap counts (state_is e)

  pub pair_loaded : {x : Pair} {u : Proven} → x ≡ pair_of (take pair_width (drop (j * path_width) s)) → u ≡ (path_of (get_or (chunks path_width path_cap s) j [])).state
      → record { pair = x; state = u } ≡ path_of (get_or (chunks path_width path_cap s) j [])
  pair_loaded e q = rw (e ∙ pair_here_path f h, q)

  -- of what is shown
  pub path_shown : path_of (get_or (chunks path_width path_cap s) j []) ≡ get_or (view_paths s) j no_path
  path_shown = shown path_of j [] no_path f.kept h

-- one turn of the loop that drops the paths at a pair
module _ {s : Bytes} {j : ℕ} (f : FitPaths s) (h : j < path_count s) (x : Pair) {b : Bool} (e : b ≡ same_pair x (pair_of (take pair_width (drop (j * path_width) s)))) where
  same_shown : b ≡ path_at x (get_or (view_paths s) j no_path)
  same_shown = path_same f h x e ∙ ap (path_at x) (path_shown f h)

  place_shown : j < length (view_paths s)
  place_shown = rw (entries_count path_of f) h

  pub sift_drop : {u : List PathRec} → b ≡ true → u ≡ erase j (view_paths s) → Sifted (λ w. not (path_at x w)) (view_paths s) j u j
  sift_drop t q = sifted_drop no_path place_shown (rw (← same_shown, t)) q

  pub sift_pass : b ≡ false → Sifted (λ w. not (path_at x w)) (view_paths s) j (view_paths s) (j + 1)
  sift_pass t = sifted_pass no_path place_shown (rw (← same_shown, t))

pub ruleset pathing = (rules, path_cell, path_same, state_small, counts_is, pair_loaded, sift_drop, sift_pass)
