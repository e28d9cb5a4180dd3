-- What writing a path makes of what is shown, what is written for a new one, and whether it would be a fifth.
use Rattle.std.specs.Prelude.{◌≡◌, refl, Bool, true, false, not, List, [], ◌∷◌, ◌++◌, ℕ, ◌+◌, ◌*◌, ◌≤◌, ◌<◌, leb, length, take, drop, get_or, set, None, Option, Some}
use Rattle.std.proofs.Math.Path.{sym}
use Rattle.std.proofs.Common.{◌∙◌, subst, arith, leb-false, le-leb, lit≤, lit<, take_at, drop_at, Fits}
use Rattle.std.proofs.lemmas.Bool.{lt-leb}
use Rattle.std.specs.Option.{is_some}
use Rattle.std.specs.Int.{w32}
use Rattle.rules.specs.Base.{Bytes, any}
use Rattle.rules.specs.Data.{Pair, Proven, Live, Acked, Probing, PathRec, LinkRec}
use Rattle.rules.specs.Field.{state_code}
use Rattle.rules.specs.Links.{numbered, path_at, set_path}
use Rattle.lib_laws.specs.Scan.{scan}
use Rattle.lib_laws.specs.Place.{any_at, any_nowhere, alter_at, find_at, find_nowhere}
use Rattle.lib_laws.specs.Splice.{splice, Wrote}
use Rattle.lib_laws.specs.Part.{part_before, part_same}
use Rattle.lib_laws.specs.Cell.{Code}
use Rattle.lib_laws.specs.Store.{changed_is, entries_count}
use Rattle.node_addr.specs.View.{view_pair}
use Rattle.node_addr.specs.Place.{pair_cell}
use Rattle.node_addr.proofs.Cells.{pair_cell_length, pair_cell_fit, pair_cell_shows}
use Rattle.node_addr.specs.declared.Pair as pair
use Rattle.node_addr.specs.Layout.{pair_width}
use Rattle.links_entry.specs.Layout.{at_path_state, path_width}
use Rattle.links_entry.specs.View.{path_of, FitPath, view_paths, FitPaths, path_count, no_path, new_path, in_state, full, crowding, no_link}
use Rattle.links_entry.specs.Asking.{and_false, not_true, not_false}
use Rattle.links_entry.specs.Here.{state_shows}

-- ---- codes
state_code_lem : (v : Proven) → Code 3 (state_code v ∷ [])
state_code_lem Live = record { size = refl; low = lit< tt }
state_code_lem Acked = record { size = refl; low = lit< tt }
state_code_lem Probing = record { size = refl; low = lit< tt }

-- ---- a path's state
module _ (v : Proven) (c : Bytes) (z : length c ≡ path_width) where
  front : take pair_width (splice c at_path_state (state_code v ∷ [])) ≡ take pair_width c
  front = part_before 0 pair_width c at_path_state (state_code v ∷ []) (lit≤ tt) (omega arith)

  back : take 1 (drop at_path_state (splice c at_path_state (state_code v ∷ []))) ≡ state_code v ∷ []
  back = part_same 1 c at_path_state (state_code v ∷ []) (omega arith) refl

  state_keeps : FitPath c → FitPath (splice c at_path_state (state_code v ∷ []))
  state_keeps f = record { pair = rw front f.pair; state = rw back (state_code_lem v) }

  state_put : path_of (splice c at_path_state (state_code v ∷ [])) ≡ in_state v (path_of c)
  state_put = rw (front, back, state_shows v)

pub set_state_is : {s l : Bytes} {j q k : ℕ} (v : Proven) → k ≡ state_code v → Wrote s (j * path_width + at_path_state) 1 (k ∷ []) l q → FitPaths s → j < path_count s
    → FitPaths l × (view_paths l ≡ set (view_paths s) j (in_state v (get_or (view_paths s) j no_path)))
set_state_is {s} {l} {j} {q} {k} v e w f h =
    changed_is path_of (in_state v) j at_path_state no_path (subst (λ (b : ℕ). Wrote s (j * path_width + at_path_state) 1 (b ∷ []) l q) e w) f h (lit≤ tt) (state_keeps v) (state_put v)

-- ---- a new path
module _ (p : pair.Pair) (v : Proven) where
  new_front : take pair_width (pair_cell p ++ (state_code v ∷ [])) ≡ pair_cell p
  new_front = take_at (pair_cell p) (state_code v ∷ []) at_path_state (pair_cell_length p)

  new_back : take 1 (drop at_path_state (pair_cell p ++ (state_code v ∷ []))) ≡ state_code v ∷ []
  new_back = rw (drop_at (pair_cell p) (state_code v ∷ []) at_path_state (pair_cell_length p))

  pub new_fit : FitPath (pair_cell p ++ (state_code v ∷ []))
  new_fit = record { pair = rw new_front (pair_cell_fit p); state = rw new_back (state_code_lem v) }

  pub new_shows : Fits w32 p.transport.0 → path_of (pair_cell p ++ (state_code v ∷ [])) ≡ new_path (view_pair p) v
  new_shows b = rw (new_front, new_back, state_shows v, pair_cell_shows p b)

-- ---- set_path, by what the search says
module _ (p : Pair) (v : Proven) (xs : List PathRec) where
  pub set_old : {ys : List PathRec} {j : ℕ} → scan (path_at p) 0 xs ≡ Some j → ys ≡ set xs j (in_state v (get_or xs j no_path)) → ys ≡ set_path p v xs
  unfolding set_path
  set_old {j = j} e q = q ∙ sym (rw (any_at (path_at p) xs j e) (alter_at (path_at p) xs j e (λ w. record { pair = w.pair; state = v }) no_path))

  pub set_new : {ys : List PathRec} → scan (path_at p) 0 xs ≡ None → ys ≡ xs ++ (new_path p v ∷ []) → ys ≡ set_path p v xs
  unfolding set_path
  set_new e q = q ∙ sym (rw (any_nowhere (path_at p) xs e))

-- where a new path has room
pub room_for : (p : Pair) (s : Bytes) → FitPaths s → full p (view_paths s) ≡ false → scan (path_at p) 0 (view_paths s) ≡ None → path_count s < 4
room_for p s f e q =
    let l : length (view_paths s) < 4 = leb-false 4 (length (view_paths s)) (rw (any_nowhere (path_at p) (view_paths s) q) at e) in
    omega (arith, entries_count path_of f)

-- ---- whether a path at a pair would be a fifth
module _ (p : Pair) {s : Bytes} (f : FitPaths s) where
  pub full_few : path_count s < 4 → leb 4 (path_count s) ≡ full p (view_paths s)
  full_few h =
      let l : length (view_paths s) ≡ path_count s = entries_count path_of f in
      lt-leb 4 (path_count s) (omega arith) ∙ sym (rw (lt-leb 4 (length (view_paths s)) (omega arith)) (and_false (not (any (path_at p) (view_paths s)))))

  pub full_old : {j : ℕ} → scan (path_at p) 0 (view_paths s) ≡ Some j → false ≡ full p (view_paths s)
  full_old {j} e = sym (rw (any_at (path_at p) (view_paths s) j e))

  pub full_new : 4 ≤ path_count s → scan (path_at p) 0 (view_paths s) ≡ None → true ≡ full p (view_paths s)
  full_new h e =
      let l : length (view_paths s) ≡ path_count s = entries_count path_of f in
      sym (rw (any_nowhere (path_at p) (view_paths s) e) (le-leb 4 (length (view_paths s)) (omega arith)))

  pub full_found : {o : Option ℕ} {b : Bool} → 4 ≤ path_count s → o ≡ scan (path_at p) 0 (view_paths s) → is_some o ≡ not b → b ≡ full p (view_paths s)
  full_found {o = None} {b} h e n = not_false b (sym n) ∙ full_new h (sym e)
  full_found {o = Some j} {b} h e n = not_true b (sym n) ∙ full_old (sym e)

module _ (n : ℕ) (p : Pair) (xs : List LinkRec) where
  pub crowding_at : {i : ℕ} {b : Bool} → scan (numbered n) 0 xs ≡ Some i → b ≡ full p (get_or xs i no_link).paths → b ≡ crowding n p xs
  unfolding crowding
  crowding_at {i} e q = q ∙ sym (rw (find_at (numbered n) xs i e no_link))

  pub crowding_none : scan (numbered n) 0 xs ≡ None → false ≡ crowding n p xs
  unfolding crowding
  crowding_none e = sym (rw (find_nowhere (numbered n) xs e))

  pub uncrowded : {i : ℕ} → scan (numbered n) 0 xs ≡ Some i → crowding n p xs ≡ false → full p (get_or xs i no_link).paths ≡ false
  unfolding crowding
  uncrowded {i} e q = rw (find_at (numbered n) xs i e no_link) at q
