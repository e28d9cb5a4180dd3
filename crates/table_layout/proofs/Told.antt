-- A part of the table lent and put back: the table fits and shows the part's new contents, and all else as before. Steps in a row; counts.
use Rattle.std.specs.Prelude.{◌≡◌, refl, List, [], ◌∷◌, ◌++◌, ℕ, ◌+◌, ◌*◌, ◌^◌, ◌≤◌, ◌<◌, take, drop}
use Rattle.std.proofs.Common.{sym, ap, ◌∙◌, subst, arith, lit≤, drop-drop, length-take-le, length-drop, Fits}
use Rattle.std.proofs.Math.ListN.{length}
use Rattle.std.specs.Int.{w64}
use Rattle.rules.specs.Base.{Bytes}
use Rattle.rules.specs.Time.{Params}
use Rattle.rules.specs.Data.{Pair, Dir, LinkRec, Leg, Held, Memory, Table}
use Rattle.rules.specs.Links.{opened}
use Rattle.rules.specs.Settle.{with_links, with_legs, with_held, with_gates, joined}
use Rattle.lib_laws.specs.Part.{put_length, put_here, put_before, put_after}
use Rattle.lib_laws.specs.Store.{entries_count}
use Rattle.params.specs.declared.Params as params
use Rattle.params.specs.View.{view_params}
use Rattle.params.specs.Head.{view_me, params_of, view_next, FitHead, Shows}
use Rattle.node_addr.specs.Alike.{part_of}
use Rattle.links.specs.View.{link_of, view_links, FitLinks, link_count}
use Rattle.legs.specs.View.{leg_of, view_legs, FitLegs, leg_count}
use Rattle.legs.specs.At.{Stands}
use Rattle.held.specs.View.{held_of, view_held, FitHeld, held_count}
use Rattle.gates_types.specs.View.{FitParams}
use Rattle.gates.specs.View.{entry_of, view_gates, FitGates, gate_count}
use Rattle.gates.specs.Order.{Room}
use Rattle.params.specs.Layout.{head_len}
use Rattle.links_entry.specs.Layout.{links_len}
use Rattle.legs_entry.specs.Layout.{leg_width, legs_len}
use Rattle.held.specs.Layout.{held_len}
use Rattle.gates_entry.specs.Layout.{gates_len}
use Rattle.table_layout.specs.Layout.{at_gates, at_head, at_held, at_legs, at_links, table_len}
use Rattle.table_layout.specs.View.{head_in, links_in, legs_in, held_in, gates_in, view_table, FitTable, Told, with_head, with_next}

-- a part ends within the table
pub part_end : {t : Bytes} {e : ℕ} → FitTable t → e ≤ table_len → e ≤ length t
part_end {e = e} f h = subst (λ (n : ℕ). e ≤ n) (sym f.size) h

-- ---- a table by its parts
abbrev table_from : Bytes → Bytes → Bytes → Bytes → Bytes → Table
table_from a b c d e = record { me = view_me a; params = params_of a; next = view_next a; links = view_links b; legs = view_legs c; held = view_held d; gates = view_gates e }

by_parts : {u a b c d e : Bytes} → length u ≡ table_len → head_in u ≡ a → links_in u ≡ b → legs_in u ≡ c → held_in u ≡ d → gates_in u ≡ e
    → FitHead a → FitLinks b → FitLegs c → FitHeld d → FitGates e → Told u (table_from a b c d e)
unfolding view_table
by_parts {u} {a} {b} {c} {d} {e} z ha hb hc hd he fa fb fc fd fe = record {
  fit = record { size = z; head = subst FitHead (sym ha) fa; links = subst FitLinks (sym hb) fb; legs = subst FitLegs (sym hc) fc; held = subst FitHeld (sym hd) fd; gates = subst FitGates (sym he) fe };
  shows =
      ap (λ (x : Bytes). table_from x (links_in u) (legs_in u) (held_in u) (gates_in u)) ha
      ∙ ap (λ (x : Bytes). table_from a x (legs_in u) (held_in u) (gates_in u)) hb
      ∙ ap (λ (x : Bytes). table_from a b x (held_in u) (gates_in u)) hc
      ∙ ap (λ (x : Bytes). table_from a b c x (gates_in u)) hd
      ∙ ap (λ (x : Bytes). table_from a b c d x) he;
}

-- ---- a part put back
module _ {t l : Bytes} (f : FitTable t) where
  put_head : FitHead l → Told (take at_head t ++ (l ++ drop head_len (drop at_head t))) (with_head (view_me l) (params_of l) (view_next l) (view_table t))
  unfolding view_table
  put_head k =
      let h : at_head + head_len ≤ length t = part_end f (lit≤ tt) in
      by_parts
      (put_length at_head head_len t l k.size h ∙ f.size)
      (put_here at_head head_len t l k.size h)
      (put_after at_head head_len t l k.size h at_links links_len (lit≤ tt))
      (put_after at_head head_len t l k.size h at_legs legs_len (lit≤ tt))
      (put_after at_head head_len t l k.size h at_held held_len (lit≤ tt))
      (put_after at_head head_len t l k.size h at_gates gates_len (lit≤ tt))
      k f.links f.legs f.held f.gates

  put_links : FitLinks l → Told (take at_links t ++ (l ++ drop links_len (drop at_links t))) (with_links (view_links l) (view_table t))
  unfolding view_table
  put_links k =
      let h : at_links + links_len ≤ length t = part_end f (lit≤ tt) in
      by_parts
      (put_length at_links links_len t l k.size h ∙ f.size)
      (put_before at_links links_len t l k.size h at_head head_len (lit≤ tt))
      (put_here at_links links_len t l k.size h)
      (put_after at_links links_len t l k.size h at_legs legs_len (lit≤ tt))
      (put_after at_links links_len t l k.size h at_held held_len (lit≤ tt))
      (put_after at_links links_len t l k.size h at_gates gates_len (lit≤ tt))
      f.head k f.legs f.held f.gates

  put_legs : FitLegs l → Told (take at_legs t ++ (l ++ drop legs_len (drop at_legs t))) (with_legs (view_legs l) (view_table t))
  unfolding view_table
  put_legs k =
      let h : at_legs + legs_len ≤ length t = part_end f (lit≤ tt) in
      by_parts
      (put_length at_legs legs_len t l k.size h ∙ f.size)
      (put_before at_legs legs_len t l k.size h at_head head_len (lit≤ tt))
      (put_before at_legs legs_len t l k.size h at_links links_len (lit≤ tt))
      (put_here at_legs legs_len t l k.size h)
      (put_after at_legs legs_len t l k.size h at_held held_len (lit≤ tt))
      (put_after at_legs legs_len t l k.size h at_gates gates_len (lit≤ tt))
      f.head f.links k f.held f.gates

  put_held : FitHeld l → Told (take at_held t ++ (l ++ drop held_len (drop at_held t))) (with_held (view_held l) (view_table t))
  unfolding view_table
  put_held k =
      let h : at_held + held_len ≤ length t = part_end f (lit≤ tt) in
      by_parts
      (put_length at_held held_len t l k.size h ∙ f.size)
      (put_before at_held held_len t l k.size h at_head head_len (lit≤ tt))
      (put_before at_held held_len t l k.size h at_links links_len (lit≤ tt))
      (put_before at_held held_len t l k.size h at_legs legs_len (lit≤ tt))
      (put_here at_held held_len t l k.size h)
      (put_after at_held held_len t l k.size h at_gates gates_len (lit≤ tt))
      f.head f.links f.legs k f.gates

  put_gates : FitGates l → Told (take at_gates t ++ (l ++ drop gates_len (drop at_gates t))) (with_gates (view_gates l) (view_table t))
  unfolding view_table
  put_gates k =
      let h : at_gates + gates_len ≤ length t = part_end f (lit≤ tt) in
      by_parts
      (put_length at_gates gates_len t l k.size h ∙ f.size)
      (put_before at_gates gates_len t l k.size h at_head head_len (lit≤ tt))
      (put_before at_gates gates_len t l k.size h at_links links_len (lit≤ tt))
      (put_before at_gates gates_len t l k.size h at_legs legs_len (lit≤ tt))
      (put_before at_gates gates_len t l k.size h at_held held_len (lit≤ tt))
      (put_here at_gates gates_len t l k.size h)
      f.head f.links f.legs f.held k

-- ---- steps in a row, and the same table by another name
pub told_same : {t : Bytes} → FitTable t → Told t (view_table t)
told_same f = record { fit = f; shows = refl }

pub told_is : {t : Bytes} {x y : Table} → Told t x → x ≡ y → Told t y
told_is a e = record { fit = a.fit; shows = a.shows ∙ e }

pub told_then : (g : Table → Table) {t u : Bytes} {x : Table} → Told t x → Told u (g (view_table t)) → Told u (g x)
told_then g a b = record { fit = b.fit; shows = b.shows ∙ ap g a.shows }

-- ---- each part with what it shows
pub told_head : {t l who : Bytes} {c : Params} {n : ℕ} → FitTable t → FitHead l → Shows l who c n → Told (take at_head t ++ (l ++ drop head_len (drop at_head t))) (with_head who c n (view_table t))
told_head f k e = told_is (put_head f k) (rw (e.me, e.params, e.next))

pub told_next : {t l : Bytes} {n : ℕ} → FitTable t → FitHead l → Shows l (view_me (head_in t)) (params_of (head_in t)) n → Told (take at_head t ++ (l ++ drop head_len (drop at_head t))) (with_next n (view_table t))
unfolding view_table
told_next f k e = told_head f k e

pub told_links : {t l : Bytes} {x : List LinkRec} → FitTable t → FitLinks l → view_links l ≡ x → Told (take at_links t ++ (l ++ drop links_len (drop at_links t))) (with_links x (view_table t))
told_links {t} f k e = told_is (put_links f k) (ap (λ (x : List LinkRec). with_links x (view_table t)) e)

pub told_legs : {t l : Bytes} {x : List Leg} → FitTable t → FitLegs l → view_legs l ≡ x → Told (take at_legs t ++ (l ++ drop legs_len (drop at_legs t))) (with_legs x (view_table t))
told_legs {t} f k e = told_is (put_legs f k) (ap (λ (x : List Leg). with_legs x (view_table t)) e)

pub told_held : {t l : Bytes} {x : List Held} → FitTable t → FitHeld l → view_held l ≡ x → Told (take at_held t ++ (l ++ drop held_len (drop at_held t))) (with_held x (view_table t))
told_held {t} f k e = told_is (put_held f k) (ap (λ (x : List Held). with_held x (view_table t)) e)

pub told_gates : {t l : Bytes} {x : List Memory} → FitTable t → FitGates l → view_gates l ≡ x → Told (take at_gates t ++ (l ++ drop gates_len (drop at_gates t))) (with_gates x (view_table t))
told_gates {t} f k e = told_is (put_gates f k) (ap (λ (x : List Memory). with_gates x (view_table t)) e)

-- ---- a new link with its leg: three steps
pub told_joined : (t : Bytes) (p : Pair) (d : Dir) (g : Leg) {a b u : Bytes} {n : ℕ} → n ≡ (view_table t).next
    → Told a (with_links ((view_table t).links ++ (opened n p d ∷ [])) (view_table t))
    → Told b (with_legs ((view_table a).legs ++ (g ∷ [])) (view_table a))
    → Told u (with_next (n + 1) (view_table b)) → Told u (joined (opened (view_table t).next p d) g (view_table t))
told_joined t p d g {n = n} e x y z =
    told_is
    (told_then (with_next (n + 1)) (told_then (λ (s : Table). with_legs (s.legs ++ (g ∷ [])) s) x y) z)
    (ap (λ (k : ℕ). with_next (k + 1) (with_legs ((view_table t).legs ++ (g ∷ [])) (with_links ((view_table t).links ++ (opened k p d ∷ [])) (view_table t)))) e)

pub still_room : {a : Bytes} {y : Table} → Told a y → length y.legs < 32 → length (view_table a).legs < 32
still_room e h = subst (λ (x : Table). length x.legs < 32) (sym e.shows) h

-- ---- a place in a list is one in its part, and room in a list is room in its part
module _ {t : Bytes} (f : FitTable t) {n : ℕ} where
  pub link_in : n < length (view_table t).links → n < link_count (links_in t)
  unfolding view_table
  link_in h = rw (← entries_count link_of f.links) h

  pub leg_in : n < length (view_table t).legs → n < leg_count (legs_in t)
  unfolding view_table
  leg_in h = rw (← entries_count leg_of f.legs) h

  pub held_in_lem : n < length (view_table t).held → n < held_count (held_in t)
  unfolding view_table
  held_in_lem h = rw (← entries_count held_of f.held) h

  pub leg_to : n ≤ length (view_table t).legs → n ≤ leg_count (legs_in t)
  unfolding view_table
  leg_to h = rw (← entries_count leg_of f.legs) h

  pub leg_small : n < length (view_table t).legs → n < 32
  leg_small h = let k = leg_in h in let m : leg_count (legs_in t) ≤ 32 = f.legs.kept.small in omega arith

  pub link_room : length (view_table t).links < n → link_count (links_in t) < n
  unfolding view_table
  link_room h = rw (← entries_count link_of f.links) h

  pub leg_room : length (view_table t).legs < n → leg_count (legs_in t) < n
  unfolding view_table
  leg_room h = rw (← entries_count leg_of f.legs) h

  pub held_room : length (view_table t).held < n → held_count (held_in t) < n
  unfolding view_table
  held_room h = rw (← entries_count held_of f.held) h

-- a link's number, and where a leg's cells stand, fit a word
pub next_fits : {n k : ℕ} → n ≡ k → k + 1 < 2 ^ 64 → Fits w64 (n + 1)
next_fits e h = record { fits = subst (λ (m : ℕ). m + 1 < 2 ^ 64) (sym e) h }

-- the place after a leg's
pub next_place : {t : Bytes} {i : ℕ} → FitTable t → i < length (view_table t).legs → Fits w64 (i + 1)
next_place f h = record { fits = omega (arith, leg_small f h) }

pub entry_fits : (i : ℕ) → i < 32 → Fits w64 (i * leg_width)
entry_fits i h = record { fits = omega arith }

pub cell_fits : (i o : ℕ) → i < 32 → o ≤ leg_width → Fits w64 (i * leg_width + o)
cell_fits i o h k = record { fits = omega arith }

pub place_fits : (i o : ℕ) → i < 32 → o ≤ leg_width → Fits w64 (at_legs + (i * leg_width + o))
place_fits i o h k = record { fits = omega arith }

-- settings within range
pub params_range : {t : Bytes} → FitTable t → (1 ≤ (view_table t).params.counted) × ((view_table t).params.counted ≤ 8) × ((view_table t).params.replays ≤ 8)
unfolding view_table
params_range f = (f.head.some_counted, f.head.counted, f.head.replays)

pub fit_params : {t : Bytes} (c : params.Params) → FitTable t → view_params c ≡ (view_table t).params → FitParams c
fit_params {t} c f e =
    let r = params_range f in
    let s : (1 ≤ (view_params c).counted) × ((view_params c).counted ≤ 8) × ((view_params c).replays ≤ 8) =
    subst (λ (q : Params). (1 ≤ q.counted) × (q.counted ≤ 8) × (q.replays ≤ 8)) (sym e) r in
    record { some_counted = s.0; counted = s.1; replays = s.2 }

-- room for a memory of the peer, where it has none
pub gates_room : {t : Bytes} (p : Bytes) → FitTable t → Room p (view_table t).gates (length (view_table t).gates) → Room p (view_gates (gates_in t)) (gate_count (gates_in t))
unfolding view_table
gates_room p f r = record { room = λ e. subst (λ (n : ℕ). n < 32) (entries_count entry_of f.gates) (r.room e) }

-- what stands in the legs' part stands in the table
pub stands_whole : {bs : Bytes} {at n : ℕ} {t : Bytes} → FitTable t → Stands bs at n (legs_in t) → Stands bs (at_legs + at) n t
stands_whole {at = at} {n} {t} f s =
    let z = f.size in
    let l : length (legs_in t) ≡ legs_len = length-take-le legs_len (drop at_legs t) (rw length-drop (omega arith)) in
    let r : at + n ≤ length (legs_in t) = s.room in
    let h : at + n ≤ legs_len = omega arith in
    record {
      small = s.small;
      room = omega arith;
      size = s.size;
      is = ap (λ (u : Bytes). take n u) (sym (drop-drop at at_legs t)) ∙ sym (part_of at n legs_len (drop at_legs t) h) ∙ s.is;
    }
