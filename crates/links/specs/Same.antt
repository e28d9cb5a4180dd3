-- Canonical regions of bytes that show the same links are the same.
use Rattle.std.specs.Prelude.{◌≡◌, refl, Bool, true, false, ◌++◌, ℕ, zero, suc, ◌<◌, length, take, drop, if◌then◌else◌}
use Rattle.std.proofs.Common.{sym, ap, ◌∙◌, arith, take_all, length-drop, take-append-drop}
use Rattle.rules.specs.Base.{Bytes, All}
use Rattle.rules.specs.Bounds.{IsByte}
use Rattle.rules.specs.Data.{ALeg, APeer, PathRec, LinkRec}
use Rattle.lib_laws.specs.Shift.{all_take}
use Rattle.lib_laws.specs.Cell.{byte_of, flag_of, byte_same, flag_same, num_same}
use Rattle.lib_laws.specs.Fields.{cuts, sum}
use Rattle.lib_laws.specs.Store.{same_view}
use Rattle.lib_laws.specs.Same.{cell_size, cell_bytes, cells_same, with_bytes}
use Rattle.node_addr.proofs.Cells.{pair_cell_same}
use Rattle.links_entry.specs.View.{state_of, path_of, FitPath, view_paths, FitPaths, dir_of, holder_of, link_of, FitHolder, FitLink, view_links, FitLinks}
use Rattle.node_addr.specs.Layout.{pair_width}
use Rattle.links_entry.specs.Layout.{at_path_state, link_width, path_width, paths_len, at_setup, link_ws, at_released, at_holder, at_dir, at_paths}

-- ---- codes
state_apart : (x y : ℕ) → x < 3 → y < 3 → state_of x ≡ state_of y → x ≡ y
state_apart zero zero p q e = refl
state_apart zero (suc zero) p q e = cc
state_apart zero (suc (suc zero)) p q e = cc
state_apart zero (suc (suc (suc y))) p q e = absurd (omega arith)
state_apart (suc zero) zero p q e = cc
state_apart (suc zero) (suc zero) p q e = refl
state_apart (suc zero) (suc (suc zero)) p q e = cc
state_apart (suc zero) (suc (suc (suc y))) p q e = absurd (omega arith)
state_apart (suc (suc zero)) zero p q e = cc
state_apart (suc (suc zero)) (suc zero) p q e = cc
state_apart (suc (suc zero)) (suc (suc zero)) p q e = refl
state_apart (suc (suc zero)) (suc (suc (suc y))) p q e = absurd (omega arith)
state_apart (suc (suc (suc x))) y p q e = absurd (omega arith)

dir_apart : (x y : ℕ) → x < 2 → y < 2 → dir_of x ≡ dir_of y → x ≡ y
dir_apart zero zero p q e = refl
dir_apart zero (suc zero) p q e = cc
dir_apart zero (suc (suc y)) p q e = absurd (omega arith)
dir_apart (suc zero) zero p q e = cc
dir_apart (suc zero) (suc zero) p q e = refl
dir_apart (suc zero) (suc (suc y)) p q e = absurd (omega arith)
dir_apart (suc (suc x)) y p q e = absurd (omega arith)

-- ---- a path
path_whole : (c : Bytes) → length c ≡ path_width → c ≡ take pair_width c ++ take 1 (drop at_path_state c)
path_whole c h = sym (take-append-drop at_path_state c) ∙ ap (λ (u : Bytes). take pair_width c ++ u) (sym (take_all 1 (drop at_path_state c) (rw length-drop (omega arith))))

path_apart : (c d : Bytes) → (FitPath c × All IsByte c) × (length c ≡ path_width) → (FitPath d × All IsByte d) × (length d ≡ path_width) → path_of c ≡ path_of d → c ≡ d
path_apart c d a b e =
    let p : take pair_width c ≡ take pair_width d =
    pair_cell_same a.0.0.pair b.0.0.pair (all_take IsByte pair_width c a.0.1) (all_take IsByte pair_width d b.0.1) (ap (λ (w : PathRec). w.pair) e) in
    let s : take 1 (drop at_path_state c) ≡ take 1 (drop at_path_state d) =
    byte_same a.0.0.state b.0.0.state
    (state_apart (byte_of (take 1 (drop at_path_state c))) (byte_of (take 1 (drop at_path_state d))) a.0.0.state.low b.0.0.state.low (ap (λ (w : PathRec). w.state) e)) in
    path_whole c a.1 ∙ rw (p, s) (sym (path_whole d b.1))

pub paths_same : {s u : Bytes} → FitPaths s → FitPaths u → All IsByte s → All IsByte u → view_paths s ≡ view_paths u → s ≡ u
paths_same f g a b e = same_view path_of (with_bytes f a) (with_bytes g b) path_apart e

-- ---- the holder
holder_whole : (c : Bytes) → length c ≡ 17 → c ≡ take 1 c ++ take 16 (drop 1 c)
holder_whole c h = sym (take-append-drop 1 c) ∙ ap (λ (u : Bytes). take 1 c ++ u) (sym (take_all 16 (drop 1 c) (rw length-drop (omega arith))))

holder_apart : (c d : Bytes) → FitHolder c → FitHolder d → length c ≡ 17 → length d ≡ 17 → holder_of c ≡ holder_of d → c ≡ d
holder_apart c d f g h k e =
    let r = go (flag_of (take 1 c)) (flag_of (take 1 d)) refl refl e in
    holder_whole c h ∙ rw (r.0, r.1) (sym (holder_whole d k))
  where
    go : (x y : Bool) → flag_of (take 1 c) ≡ x → flag_of (take 1 d) ≡ y
        → (if x then ALeg else APeer (take 16 (drop 1 c))) ≡ (if y then ALeg else APeer (take 16 (drop 1 d))) → (take 1 c ≡ take 1 d) × (take 16 (drop 1 c) ≡ take 16 (drop 1 d))
    go true true p q z = (flag_same f.flag g.flag (p ∙ sym q), f.blank p ∙ sym (g.blank q))
    go true false p q z = let c : ◌≡◌ {A = ℕ} 0 1 = cc in absurd (omega arith)
    go false true p q z = let c : ◌≡◌ {A = ℕ} 0 1 = cc in absurd (omega arith)
    go false false p q z = (flag_same f.flag g.flag (p ∙ sym q), cc)

-- ---- a link
module _ (c d : Bytes) (a : (FitLink c × All IsByte c) × (length c ≡ link_width)) (b : (FitLink d × All IsByte d) × (length d ≡ link_width)) (e : link_of c ≡ link_of d) where
  fields_same : cuts 0 0 link_ws c ≡ cuts 0 0 link_ws d
  fields_same =
      let lc : length c ≡ link_width = a.1 in
      let ld : length d ≡ link_width = b.1 in
      let n : take 8 c ≡ take 8 d = num_same (take 8 c) (take 8 d) (all_take IsByte 8 c a.0.1) (all_take IsByte 8 d b.0.1)
      (cell_size 8 0 c (omega arith) ∙ sym (cell_size 8 0 d (omega arith))) (ap (λ (r : LinkRec). r.no) e) in
      let p : take pair_width (drop 8 c) ≡ take pair_width (drop 8 d) =
      pair_cell_same a.0.0.setup b.0.0.setup (cell_bytes pair_width at_setup c a.0.1) (cell_bytes pair_width at_setup d b.0.1) (ap (λ (r : LinkRec). r.setup) e) in
      let q : take 1 (drop at_dir c) ≡ take 1 (drop at_dir d) =
      byte_same a.0.0.dir b.0.0.dir
      (dir_apart (byte_of (take 1 (drop at_dir c))) (byte_of (take 1 (drop at_dir d))) a.0.0.dir.low b.0.0.dir.low (ap (λ (r : LinkRec). r.dir) e)) in
      let h : take 17 (drop at_holder c) ≡ take 17 (drop at_holder d) =
      holder_apart (take 17 (drop at_holder c)) (take 17 (drop at_holder d)) a.0.0.holder b.0.0.holder (cell_size 17 at_holder c (omega arith)) (cell_size 17 at_holder d (omega arith)) (ap (λ (r : LinkRec). r.holder) e) in
      let f : take 1 (drop at_released c) ≡ take 1 (drop at_released d) = flag_same a.0.0.released b.0.0.released (ap (λ (r : LinkRec). r.released) e) in
      let s : take paths_len (drop at_paths c) ≡ take paths_len (drop at_paths d) =
      paths_same a.0.0.paths b.0.0.paths (cell_bytes paths_len at_paths c a.0.1) (cell_bytes paths_len at_paths d b.0.1) (ap (λ (r : LinkRec). r.paths) e) in
      rw (n, p, q, h, f, s)

  link_apart : c ≡ d
  unfolding sum
  link_apart = cells_same 0 link_ws c d a.1 b.1 fields_same

pub links_same : {s u : Bytes} → FitLinks s → FitLinks u → All IsByte s → All IsByte u → view_links s ≡ view_links u → s ≡ u
links_same f g a b e = same_view link_of (with_bytes f a) (with_bytes g b) link_apart e
