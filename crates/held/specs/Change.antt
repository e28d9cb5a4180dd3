-- What a change of some cells of one entry makes of the region: the epoch, the link, heard, last, the current pair; and changes in a row.
use Rattle.std.specs.Prelude.{◌≡◌, Bool, true, false, ◌&&◌, ℕ, ◌+◌, ◌*◌, ◌<◌, eqb, Some}
use Rattle.std.proofs.Math.Path.{refl, ap}
use Rattle.std.proofs.Common.{sym, ap₂, ◌∙◌, subst, arith, eqb-true, lit≤, lit<, set-set, get_or-set_same, length-set, Fits}
use mathlib.Core.List.{List, [], ◌∷◌, ◌++◌}
use Rattle.std.proofs.lemmas.List.{set-get_or}
use Rattle.std.proofs.Math.ListN.{length, set}
use Rattle.std.specs.Int.{w32, w64}
use Rattle.rules.specs.Base.{one, Bytes, same}
use Rattle.rules.specs.Field.{digits}
use Rattle.rules.specs.Data.{Pair, same_pair, Held}
use Rattle.rules.specs.Settle.{with_epoch}
use Rattle.lib_laws.specs.Beside.{same_true}
use Rattle.lib_laws.specs.Splice.{splice, splice_splice, length_splice, length_digits, Wrote}
use Rattle.lib_laws.specs.Round.{more_digits}
use Rattle.lib_laws.specs.Cell.{flag_shows, flag_code, optional_number}
use Rattle.lib_laws.specs.Fields.{cuts, cuts_set, sum}
use Rattle.lib_laws.specs.Store.{changed_is}
use Rattle.node_addr.specs.View.{view_pair}
use Rattle.node_addr.specs.Place.{pair_cell}
use Rattle.node_addr.proofs.Cells.{pair_cell_length, pair_cell_fit, pair_cell_shows}
use Rattle.node_addr.specs.declared.Pair as pair
use Rattle.node_addr.specs.Layout.{pair_width}
use Rattle.held.specs.Layout.{held_ws, at_current, at_has_last, at_heard, at_held_epoch, at_held_link, held_width, at_last}
use Rattle.held.specs.View.{held_from, held_of, FitCells, FitHeldCell, view_held, FitHeld, held_count, no_held, nth_held}
use Rattle.held.specs.Walk.{count_is}

-- ---- a held peer with one part changed
abbrev pub with_link : ℕ → Held → Held
with_link n h = record { peer = h.peer; link = n; epoch = h.epoch; current = h.current; heard = h.heard; installed = h.installed; last = h.last; setup = h.setup }

abbrev pub with_heard : Bool → Held → Held
with_heard b h = record { peer = h.peer; link = h.link; epoch = h.epoch; current = h.current; heard = b; installed = h.installed; last = h.last; setup = h.setup }

abbrev pub last_at : ℕ → Held → Held
last_at t h = record { peer = h.peer; link = h.link; epoch = h.epoch; current = h.current; heard = h.heard; installed = h.installed; last = Some t; setup = h.setup }

abbrev pub with_current : Pair → Held → Held
with_current p h = record { peer = h.peer; link = h.link; epoch = h.epoch; current = p; heard = h.heard; installed = h.installed; last = h.last; setup = h.setup }

-- ---- g changed the i-th held peer, and nothing else
pub record Changed (g : Held → Held) (i : ℕ) (s l : Bytes) : Type 0 where
  pub fit : FitHeld l
  pub count : held_count l ≡ held_count s
  pub is : view_held l ≡ set (view_held s) i (g (nth_held s i))

changed : {g : Held → Held} {i : ℕ} {s l : Bytes} → FitHeld s → FitHeld l × (view_held l ≡ set (view_held s) i (g (nth_held s i))) → Changed g i s l
changed f r = record { fit = r.0; count = sym (count_is r.0) ∙ ap length r.1 ∙ simp length-set (count_is f); is = r.1 }

-- one change after another
pub changed_then : {g k : Held → Held} {i : ℕ} {s l m : Bytes} → FitHeld s → i < held_count s → Changed g i s l → Changed k i l m → Changed (λ h. k (g h)) i s m
changed_then {g} {k} {i} {s} {l} f h a b =
    let x : nth_held l i ≡ g (nth_held s i) = rw a.is (get_or-set_same (view_held s) i (g (nth_held s i)) no_held (rw (count_is f) h)) in
    record { fit = b.fit; count = b.count ∙ a.count; is = b.is ∙ rw (x, a.is) (set-set (view_held s) i (g (nth_held s i)) (k (g (nth_held s i)))) }

-- ---- in one entry
module _ (c : Bytes) (z : length c ≡ held_width) where
  link_cuts : (v : ℕ) → cuts 0 0 held_ws (splice c at_held_link (digits 8 v)) ≡ set (cuts 0 0 held_ws c) 1 (digits 8 v)
  unfolding sum
  link_cuts v = cuts_set 0 0 held_ws c 1 at_held_link (digits 8 v) (lit< tt) (omega arith) (length_digits 8 v) refl

  link_keeps : (v : ℕ) → FitHeldCell c → FitHeldCell (splice c at_held_link (digits 8 v))
  link_keeps v f = subst FitCells (sym (link_cuts v)) (record { heard = f.heard; last = f.last; setup = f.setup; current = f.current })

  link_shows : (v : ℕ) → Fits w64 v → held_of (splice c at_held_link (digits 8 v)) ≡ with_link v (held_of c)
  link_shows v b = ap held_from (link_cuts v) ∙ rw (more_digits 8 v b.fits)

  epoch_cuts : (v : ℕ) → cuts 0 0 held_ws (splice c at_held_epoch (digits 8 v)) ≡ set (cuts 0 0 held_ws c) 2 (digits 8 v)
  unfolding sum
  epoch_cuts v = cuts_set 0 0 held_ws c 2 at_held_epoch (digits 8 v) (lit< tt) (omega arith) (length_digits 8 v) refl

  epoch_keeps : (v : ℕ) → FitHeldCell c → FitHeldCell (splice c at_held_epoch (digits 8 v))
  epoch_keeps v f = subst FitCells (sym (epoch_cuts v)) (record { heard = f.heard; last = f.last; setup = f.setup; current = f.current })

  epoch_shows : (v : ℕ) → Fits w64 v → held_of (splice c at_held_epoch (digits 8 v)) ≡ with_epoch v (held_of c)
  epoch_shows v b = ap held_from (epoch_cuts v) ∙ rw (more_digits 8 v b.fits)

  heard_cuts : (b : Bool) → cuts 0 0 held_ws (splice c at_heard (one b ∷ [])) ≡ set (cuts 0 0 held_ws c) 4 (one b ∷ [])
  unfolding sum
  heard_cuts b = cuts_set 0 0 held_ws c 4 at_heard (one b ∷ []) (lit< tt) (omega arith) refl refl

  heard_keeps : (b : Bool) → FitHeldCell c → FitHeldCell (splice c at_heard (one b ∷ []))
  heard_keeps b f = subst FitCells (sym (heard_cuts b)) (record { heard = flag_code b; last = f.last; setup = f.setup; current = f.current })

  heard_shows : (b : Bool) → held_of (splice c at_heard (one b ∷ [])) ≡ with_heard b (held_of c)
  heard_shows b = ap held_from (heard_cuts b) ∙ rw (flag_shows b)

  last_cuts : (v : ℕ) → cuts 0 0 held_ws (splice c at_has_last ((1 ∷ []) ++ digits 8 v)) ≡ set (set (cuts 0 0 held_ws c) 5 (1 ∷ [])) 6 (digits 8 v)
  unfolding sum
  last_cuts v =
      let y : length (splice c at_has_last (1 ∷ [])) ≡ held_width = length_splice c at_has_last (1 ∷ []) (omega arith) ∙ z in
      ap (cuts 0 0 held_ws) (sym (splice_splice c at_has_last (1 ∷ []) (digits 8 v) (omega arith)))
      ∙ cuts_set 0 0 held_ws (splice c at_has_last (1 ∷ [])) 6 at_last (digits 8 v) (lit< tt) (omega arith) (length_digits 8 v) refl
      ∙ ap (λ (x : List Bytes). set x 6 (digits 8 v)) (cuts_set 0 0 held_ws c 5 at_has_last (1 ∷ []) (lit< tt) (omega arith) refl refl)

  last_keeps : (v : ℕ) → FitHeldCell c → FitHeldCell (splice c at_has_last ((1 ∷ []) ++ digits 8 v))
  last_keeps v f = subst FitCells (sym (last_cuts v)) (record { heard = f.heard; last = optional_number (Some v); setup = f.setup; current = f.current })

  last_shows : (v : ℕ) → Fits w64 v → held_of (splice c at_has_last ((1 ∷ []) ++ digits 8 v)) ≡ last_at v (held_of c)
  last_shows v b = ap held_from (last_cuts v) ∙ rw (more_digits 8 v b.fits)

  module _ (p : pair.Pair) where
    current_cuts : cuts 0 0 held_ws (splice c at_current (pair_cell p)) ≡ set (cuts 0 0 held_ws c) 9 (pair_cell p)
    unfolding sum
    current_cuts = cuts_set 0 0 held_ws c 9 at_current (pair_cell p) (lit< tt) (omega arith) (pair_cell_length p) refl

    current_keeps : FitHeldCell c → FitHeldCell (splice c at_current (pair_cell p))
    current_keeps f = subst FitCells (sym current_cuts) (record { heard = f.heard; last = f.last; setup = f.setup; current = pair_cell_fit p })

    current_shows : Fits w32 p.transport.0 → held_of (splice c at_current (pair_cell p)) ≡ with_current (view_pair p) (held_of c)
    current_shows b = ap held_from current_cuts ∙ rw (pair_cell_shows p b)

-- ---- the same of the region
module _ {s l : Bytes} {q : ℕ} (i : ℕ) where
  pub link_changed : {v : ℕ} → Wrote s (i * held_width + at_held_link) 8 (digits 8 v) l q → FitHeld s → i < held_count s → Fits w64 v → Changed (with_link v) i s l
  link_changed {v} a f h b = changed f (changed_is held_of (with_link v) i at_held_link no_held a f h (lit≤ tt) (λ c z k. link_keeps c z v k) (λ c z. link_shows c z v b))

  pub epoch_changed : {v : ℕ} → Wrote s (i * held_width + at_held_epoch) 8 (digits 8 v) l q → FitHeld s → i < held_count s → Fits w64 v
      → FitHeld l × (view_held l ≡ set (view_held s) i (with_epoch v (nth_held s i)))
  epoch_changed {v} a f h b = changed_is held_of (with_epoch v) i at_held_epoch no_held a f h (lit≤ tt) (λ c z k. epoch_keeps c z v k) (λ c z. epoch_shows c z v b)

  pub heard_changed : (b : Bool) → Wrote s (i * held_width + at_heard) 1 (one b ∷ []) l q → FitHeld s → i < held_count s → Changed (with_heard b) i s l
  heard_changed b a f h = changed f (changed_is held_of (with_heard b) i at_heard no_held a f h (lit≤ tt) (λ c z k. heard_keeps c z b k) (λ c z. heard_shows c z b))

  pub last_changed : {v : ℕ} → Wrote s (i * held_width + at_has_last) 9 ((1 ∷ []) ++ digits 8 v) l q → FitHeld s → i < held_count s → Fits w64 v → Changed (last_at v) i s l
  last_changed {v} a f h b = changed f (changed_is held_of (last_at v) i at_has_last no_held a f h (lit≤ tt) (λ c z k. last_keeps c z v k) (λ c z. last_shows c z v b))

  pub current_changed : (p : pair.Pair) → Wrote s (i * held_width + at_current) pair_width (pair_cell p) l q → FitHeld s → i < held_count s → Fits w32 p.transport.0
      → Changed (with_current (view_pair p)) i s l
  current_changed p a f h b =
      changed f (changed_is held_of (with_current (view_pair p)) i at_current no_held a f h (lit≤ tt) (λ c z y. current_keeps c z p y) (λ c z. current_shows c z p b))

-- ---- the current pair is the one that is to be written
abbrev pair_from : ℕ → Bytes → Pair
pair_from n b = record { transport = n; addr = b }

pair_is : (p q : Pair) → same_pair p q ≡ true → p ≡ q
pair_is p q e = go (eqb p.transport q.transport) refl e
  where
    go : (b : Bool) → eqb p.transport q.transport ≡ b → (b && same p.addr q.addr) ≡ true → p ≡ q
    go true x y =
        let t : p.transport ≡ q.transport = eqb-true p.transport q.transport x in
        let a : p.addr ≡ q.addr = same_true p.addr q.addr y in
        ap₂ (λ (n : ℕ) (b : Bytes). pair_from n b) t a
    go false x y = cc

pub current_kept : {s : Bytes} (i : ℕ) (p : Pair) → FitHeld s → same_pair p (nth_held s i).current ≡ true → Changed (with_current p) i s s
current_kept {s} i p f e =
    record { fit = f; count = refl; is = sym (rw (pair_is p (nth_held s i).current e) (set-get_or (view_held s) i no_held)) }
