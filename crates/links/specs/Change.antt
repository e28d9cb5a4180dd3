-- What writing a field of a link makes of what is shown; and what is written for a new one.
use Rattle.std.specs.Prelude.{◌≡◌, Bool, ◌||◌, ℕ, suc, ◌+◌, ◌*◌, ◌<◌, length, take, drop, get_or, set, replicate, None, Some}
use Rattle.std.proofs.Math.Path.{refl, sym, ap}
use Rattle.std.proofs.Common.{◌∙◌, subst, arith, lit≤, lit<, take_all, set-set, get_or-set_same, length-set, Fits}
use mathlib.Core.List.{List, [], ◌∷◌, ◌++◌, map, append_assoc}
use Rattle.std.specs.Int.{w32, w64}
use Rattle.rules.specs.Base.{Bytes, one}
use Rattle.rules.specs.Data.{Pair, same_pair, Dir, Inbound, Outbound, Holder, APeer, Proven, PathRec, LinkRec}
use Rattle.rules.specs.Field.{digits}
use Rattle.rules.specs.Links.{numbered, opened, held_by, hold, with_path, path, without_path, released, retired}
use Rattle.lib_laws.specs.Shift.{erase}
use Rattle.lib_laws.specs.Scan.{scan}
use Rattle.lib_laws.specs.Place.{alter_at, alter_nowhere, without_at, without_nowhere}
use Rattle.lib_laws.specs.Splice.{splice, Wrote, length_digits}
use Rattle.lib_laws.specs.Round.{more_digits}
use Rattle.lib_laws.specs.Part.{put_is}
use Rattle.lib_laws.specs.Cell.{Code, flag_shows, flag_code}
use Rattle.lib_laws.specs.Chunk.{joined}
use Rattle.lib_laws.specs.Fields.{cuts, cuts_set, cuts_joined, sum}
use Rattle.lib_laws.specs.Store.{changed_is, entries_count}
use Rattle.node_addr.specs.View.{view_pair}
use Rattle.node_addr.specs.Place.{pair_cell}
use Rattle.node_addr.proofs.Cells.{pair_cell_length, pair_cell_fit, pair_cell_shows}
use Rattle.node_addr.specs.declared.Pair as pair
use Rattle.links_entry.specs.View.{view_paths, FitPaths, dir_of, dir_code, link_from, link_of, FitFields, FitLink, view_links, FitLinks, link_count, no_link, with_paths, with_released, marked_at, cut_at}
use Rattle.links_entry.specs.Here.{span, span_is, paths_show}
use Rattle.links_entry.specs.Zeros.{paths_zeros}
use Rattle.links_entry.specs.Layout.{at_holder, at_paths, at_released, link_width, paths_len, link_ws, opened_blank}

-- ---- codes
dir_shows : (d : Dir) → dir_of (dir_code d) ≡ d
dir_shows Inbound = refl
dir_shows Outbound = refl

dir_code_lem : (d : Dir) → Code 2 (dir_code d ∷ [])
dir_code_lem Inbound = record { size = refl; low = lit< tt }
dir_code_lem Outbound = record { size = refl; low = lit< tt }

-- ---- a link found, or not
module _ (n : ℕ) (xs : List LinkRec) {i : ℕ} (e : scan (numbered n) 0 xs ≡ Some i) where
  pub hold_done : (h : Holder) {ys : List LinkRec} → ys ≡ set xs i (held_by h (get_or xs i no_link)) → ys ≡ hold n h xs
  unfolding hold
  hold_done h q = q ∙ sym (alter_at (numbered n) xs i e (held_by h) no_link)

  pub path_done : (p : Pair) (v : Proven) {ys : List LinkRec} → ys ≡ set xs i (with_path p v (get_or xs i no_link)) → ys ≡ path n p v xs
  unfolding path
  path_done p v q = q ∙ sym (alter_at (numbered n) xs i e (with_path p v) no_link)

  pub release_done : (p : Pair) {ys : List LinkRec} → ys ≡ set xs i (without_path p (get_or xs i no_link)) → ys ≡ released n p xs
  unfolding released
  release_done p q = q ∙ sym (alter_at (numbered n) xs i e (without_path p) no_link)

  pub drop_done : {ys : List LinkRec} → ys ≡ erase i xs → ys ≡ retired n xs
  drop_done q = q ∙ sym (without_at (numbered n) xs i e)

module _ (n : ℕ) (xs : List LinkRec) (e : scan (numbered n) 0 xs ≡ None) where
  pub hold_none : (h : Holder) → xs ≡ hold n h xs
  unfolding hold
  hold_none h = sym (alter_nowhere (numbered n) xs e (held_by h))

  pub path_none : (p : Pair) (v : Proven) → xs ≡ path n p v xs
  unfolding path
  path_none p v = sym (alter_nowhere (numbered n) xs e (with_path p v))

  pub release_none : (p : Pair) → xs ≡ released n p xs
  unfolding released
  release_none p = sym (alter_nowhere (numbered n) xs e (without_path p))

  pub drop_none : xs ≡ retired n xs
  drop_none = sym (without_nowhere (numbered n) xs e)

-- a change in place leaves the place
pub place_left : {s l : Bytes} {i : ℕ} (x : LinkRec) → FitLinks s → FitLinks l → view_links l ≡ set (view_links s) i x → i < link_count s → i < link_count l
place_left {s} {l} {i} x f g e h =
    let a : length (view_links s) ≡ link_count s = entries_count link_of f in
    let b : length (view_links l) ≡ link_count l = entries_count link_of g in
    let c : length (view_links l) ≡ length (view_links s) = ap length e ∙ length-set (view_links s) i x in
    omega arith

-- ---- fields of a link
module _ (c bs : Bytes) (z : length c ≡ link_width) where
  holder_cuts : length bs ≡ 17 → cuts 0 0 link_ws (splice c at_holder bs) ≡ set (cuts 0 0 link_ws c) 3 bs
  unfolding sum
  holder_cuts e = cuts_set 0 0 link_ws c 3 at_holder bs (lit< tt) (omega arith) e refl

  released_cuts : length bs ≡ 1 → cuts 0 0 link_ws (splice c at_released bs) ≡ set (cuts 0 0 link_ws c) 4 bs
  unfolding sum
  released_cuts e = cuts_set 0 0 link_ws c 4 at_released bs (lit< tt) (omega arith) e refl

  paths_cuts : length bs ≡ paths_len → cuts 0 0 link_ws (splice c at_paths bs) ≡ set (cuts 0 0 link_ws c) 5 bs
  unfolding sum
  paths_cuts e = cuts_set 0 0 link_ws c 5 at_paths bs (lit< tt) (omega arith) e refl

-- held by a peer
module _ (peer c : Bytes) (e : length peer ≡ 16) (z : length c ≡ link_width) where
  holder_keeps : FitLink c → FitLink (splice c at_holder (0 ∷ peer))
  holder_keeps f =
      subst FitFields (sym (holder_cuts c (0 ∷ peer) z (ap suc e)))
      (record { setup = f.setup; dir = f.dir; holder = record { flag = record { size = refl; low = lit< tt }; blank = λ q. cc }; released = f.released; paths = f.paths })

  holder_put : link_of (splice c at_holder (0 ∷ peer)) ≡ held_by (APeer peer) (link_of c)
  holder_put = ap link_from (holder_cuts c (0 ∷ peer) z (ap suc e)) ∙ rw (take_all 16 peer (omega arith))

pub held_is : {s l : Bytes} {i q : ℕ} {peer : Bytes} → Wrote s (i * link_width + at_holder) 17 (0 ∷ peer) l q → FitLinks s → i < link_count s → length peer ≡ 16
    → FitLinks l × (view_links l ≡ set (view_links s) i (held_by (APeer peer) (get_or (view_links s) i no_link)))
held_is {i = i} {peer = peer} w f h e =
    changed_is link_of (held_by (APeer peer)) i at_holder no_link w f h (lit≤ tt) (λ c z. holder_keeps peer c e z) (λ c z. holder_put peer c e z)

-- the released flag
module _ (b : Bool) (c : Bytes) (z : length c ≡ link_width) where
  released_keeps : FitLink c → FitLink (splice c at_released (one b ∷ []))
  released_keeps f =
      subst FitFields (sym (released_cuts c (one b ∷ []) z refl))
      (record { setup = f.setup; dir = f.dir; holder = f.holder; released = flag_code b; paths = f.paths })

  released_put : link_of (splice c at_released (one b ∷ [])) ≡ with_released b (link_of c)
  released_put = ap link_from (released_cuts c (one b ∷ []) z refl) ∙ rw (flag_shows b)

pub marked_is : {s l : Bytes} {i q : ℕ} (p : Pair) {b : Bool} → Wrote s (i * link_width + at_released) 1 (one b ∷ []) l q → FitLinks s → i < link_count s
    → b ≡ ((get_or (view_links s) i no_link).released || same_pair p (get_or (view_links s) i no_link).setup)
    → FitLinks l × (view_links l ≡ set (view_links s) i (marked_at p (get_or (view_links s) i no_link)))
marked_is {s} {l} {i} p {b} w f h m =
    let g = changed_is link_of (with_released b) i at_released no_link w f h (lit≤ tt) (released_keeps b) (released_put b) in
    (g.0, g.1 ∙ ap (λ (d : Bool). set (view_links s) i (with_released d (get_or (view_links s) i no_link))) m)

-- the paths
module _ (bs c : Bytes) (k : FitPaths bs) (z : length c ≡ link_width) where
  paths_keeps : FitLink c → FitLink (splice c at_paths bs)
  paths_keeps f =
      subst FitFields (sym (paths_cuts c bs z k.size))
      (record { setup = f.setup; dir = f.dir; holder = f.holder; released = f.released; paths = k })

  paths_put : link_of (splice c at_paths bs) ≡ with_paths (view_paths bs) (link_of c)
  paths_put = ap link_from (paths_cuts c bs z k.size)

-- they were lent and put back
pub paths_are : {s ys : Bytes} {i : ℕ} (g : List PathRec → List PathRec) → FitLinks s → i < link_count s → FitPaths ys → view_paths ys ≡ g (view_paths (take (span i) (drop (i * link_width + at_paths) s)))
    → FitLinks (take (i * link_width + at_paths) s ++ (ys ++ drop (span i) (drop (i * link_width + at_paths) s)))
    × (view_links (take (i * link_width + at_paths) s ++ (ys ++ drop (span i) (drop (i * link_width + at_paths) s))) ≡ set (view_links s) i (with_paths (g (get_or (view_links s) i no_link).paths) (get_or (view_links s) i no_link)))
paths_are {s} {ys} {i} g f h y q =
    let w : Wrote s (i * link_width + at_paths) paths_len ys (take (i * link_width + at_paths) s ++ (ys ++ drop (span i) (drop (i * link_width + at_paths) s))) (i * link_width + at_paths + paths_len) =
    record { end = refl; size = y.size; room = omega arith; is = put_is (i * link_width + at_paths) (span i) s ys (y.size ∙ sym (span_is i)) } in
    let r = changed_is link_of (with_paths (view_paths ys)) i at_paths no_link w f h (lit≤ tt) (λ c z. paths_keeps ys c y z) (λ c z. paths_put ys c y z) in
    let v : view_paths ys ≡ g (get_or (view_links s) i no_link).paths = q ∙ ap g (paths_show f h) in
    (r.0, r.1 ∙ ap (λ (x : List PathRec). set (view_links s) i (with_paths x (get_or (view_links s) i no_link))) v)

-- both halves of a release
pub released_both : (p : Pair) (i : ℕ) (xs : List LinkRec) {ys zs : List LinkRec} → i < length xs → ys ≡ set xs i (marked_at p (get_or xs i no_link)) → zs ≡ set ys i (cut_at p (get_or ys i no_link))
    → zs ≡ set xs i (without_path p (get_or xs i no_link))
released_both p i xs h e q =
    q ∙ rw (e, get_or-set_same xs i (marked_at p (get_or xs i no_link)) no_link h, set-set xs i (marked_at p (get_or xs i no_link)) (cut_at p (marked_at p (get_or xs i no_link))))

-- ---- a new link
abbrev pub new_fields : ℕ → pair.Pair → ℕ → List Bytes
new_fields n p k = digits 8 n ∷ pair_cell p ∷ (k ∷ []) ∷ (1 ∷ replicate 16 0) ∷ (0 ∷ []) ∷ replicate paths_len 0 ∷ []

abbrev pub new_bytes : ℕ → pair.Pair → ℕ → Bytes
new_bytes n p k = digits 8 n ++ pair_cell p ++ (k ∷ []) ++ (1 ∷ []) ++ replicate opened_blank 0

module _ (n : ℕ) (p : pair.Pair) (d : Dir) where
  new_joined : new_bytes n p (dir_code d) ≡ joined (new_fields n p (dir_code d))
  unfolding joined
  new_joined = simp append_assoc

  new_cuts : cuts 0 0 link_ws (new_bytes n p (dir_code d)) ≡ new_fields n p (dir_code d)
  new_cuts =
      let ws : map length (new_fields n p (dir_code d)) ≡ link_ws = rw (length_digits 8 n, pair_cell_length p) in
      rw new_joined (ap (λ (ws : List ℕ). cuts 0 0 ws (joined (new_fields n p (dir_code d)))) (sym ws) ∙ cuts_joined (new_fields n p (dir_code d)))

  pub opened_fit : FitLink (new_bytes n p (dir_code d))
  opened_fit =
      subst FitFields (sym new_cuts)
      (record {
        setup = pair_cell_fit p;
        dir = dir_code_lem d;
        holder = record { flag = record { size = refl; low = lit< tt }; blank = λ q. refl };
        released = record { size = refl; low = lit< tt };
        paths = paths_zeros;
      })

  pub opened_shows : Fits w64 n → Fits w32 p.transport.0 → link_of (new_bytes n p (dir_code d)) ≡ opened n (view_pair p) d
  unfolding opened
  opened_shows a b = ap link_from new_cuts ∙ rw (more_digits 8 n a.fits, pair_cell_shows p b, dir_shows d)
