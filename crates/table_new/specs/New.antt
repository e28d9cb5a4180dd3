-- Zeroed memory under a head: a table that holds nothing.
use Rattle.std.specs.Prelude.{◌≡◌, refl, ℕ, zero, suc, ◌+◌, ◌-◌, ◌≤◌, length, take, drop, replicate}
use Rattle.std.proofs.Common.{sym, ◌∙◌, subst, arith, le_of_suc-le-suc, not-suc-le-zero, lit≤, drop_of_length-le}
use Rattle.std.proofs.Math.Path.{ap}
use mathlib.Core.List.{[], ◌∷◌, ◌++◌, append-nil}
use Rattle.std.proofs.lemmas.List.{length-replicate}
use Rattle.rules.specs.Base.{Bytes}
use Rattle.rules.specs.Time.{Params}
use Rattle.rules.specs.Entry.{new_table}
use Rattle.lib_laws.specs.Splice.{Wrote, splice}
use Rattle.lib_laws.specs.Part.{put_length, put_here, put_after}
use Rattle.lib_laws.specs.Buffer.{drop_replicate}
use Rattle.params.specs.Head.{view_me, params_of, view_next, FitHead, Shows}
use Rattle.links.specs.View.{view_links, FitLinks}
use Rattle.links.specs.Zeros.{links_new, links_none}
use Rattle.legs.specs.View.{view_legs, FitLegs}
use Rattle.legs.specs.Same as legs
use Rattle.held.specs.View.{view_held, FitHeld}
use Rattle.held.specs.Same as held
use Rattle.gates.specs.View.{view_gates, FitGates}
use Rattle.gates.specs.Same as gates
use Rattle.table_layout.specs.View.{head_in, links_in, legs_in, held_in, gates_in, view_table, FitTable, Told}
use Rattle.params.specs.Layout.{head_len}
use Rattle.links_entry.specs.Layout.{links_len}
use Rattle.legs_entry.specs.Layout.{legs_len}
use Rattle.held.specs.Layout.{held_len}
use Rattle.gates_entry.specs.Layout.{gates_len}
use Rattle.table_layout.specs.Layout.{at_gates, at_head, at_held, at_legs, at_links, table_len}

-- bytes of a table's length, each 0
pub record Blank (t : Bytes) : Type 0 where
  pub size : length t ≡ table_len
  pub zeros : t ≡ replicate (length t) 0

pub blank_cleared : {t u : Bytes} {n r : ℕ} → length t ≡ table_len → n ≡ length t → Wrote t 0 n (replicate n 0) u r → Blank u
unfolding splice
blank_cleared {t} {u} {n} z e w = record { size = long; zeros = all ∙ ap (λ (k : ℕ). replicate k 0) (e ∙ z ∙ sym long) }
  where
    all : u ≡ replicate n 0
    all = w.is ∙ ap (λ (s : Bytes). replicate n 0 ++ s) (drop_of_length-le t {i = 0 + length (replicate n 0)} (omega (arith, length-replicate {A = ℕ} n 0))) ∙ append-nil (replicate n 0)

    long : length u ≡ table_len
    long = ap length all ∙ length-replicate {A = ℕ} n 0 ∙ e ∙ z

-- ---- a part of zeros

take_zeros : (w n : ℕ) → w ≤ n → take {A = ℕ} w (replicate n 0) ≡ replicate w 0
take_zeros zero n h = refl
take_zeros (suc w) zero h = absurd (not-suc-le-zero h)
take_zeros (suc w) (suc n) h = ap (λ (s : Bytes). 0 ∷ s) (take_zeros w n (le_of_suc-le-suc h))

part_zeros : {u : Bytes} (o w : ℕ) → u ≡ replicate (length u) 0 → o + w ≤ length u → take w (drop o u) ≡ replicate w 0
part_zeros {u} o w e h =
    ap (λ (s : Bytes). take w (drop o s)) e
    ∙ ap (λ (s : Bytes). take w s) (drop_replicate {A = ℕ} o (length u) 0)
    ∙ take_zeros w (length u - o) (omega arith)

-- ---- a head over zeros

-- the settings, then the address, then the number
pub head_shows : {a b l u who : Bytes} {c : Params} {m n : ℕ} → Shows a u c m → Shows b who (params_of a) (view_next a) → Shows l (view_me b) (params_of b) n → Shows l who c n
head_shows x y z = record { size = z.size; me = z.me ∙ y.me; params = z.params ∙ y.params ∙ x.params; next = z.next }

module _ {u l : Bytes} (b : Blank u) (k : FitHead l) where
  abbrev whole : Bytes
  whole = take at_head u ++ (l ++ drop head_len (drop at_head u))

  within : (n : ℕ) → n ≤ table_len → n ≤ length u
  within n h = omega (arith, b.size)

  zeros_at : (o w : ℕ) → head_len ≤ o → o + w ≤ table_len → take w (drop o whole) ≡ replicate w 0
  zeros_at o w g h = put_after at_head head_len u l k.size (within head_len (lit≤ tt)) o w g ∙ part_zeros o w b.zeros (within (o + w) h)

  head_is : head_in whole ≡ l
  head_is = put_here at_head head_len u l k.size (within head_len (lit≤ tt))

  new_fit : FitTable whole
  new_fit = record {
    size = put_length at_head head_len u l k.size (within head_len (lit≤ tt)) ∙ b.size;
    head = subst FitHead (sym head_is) k;
    links = subst FitLinks (sym (zeros_at at_links links_len (lit≤ tt) (lit≤ tt))) links_new;
    legs = subst FitLegs (sym (zeros_at at_legs legs_len (lit≤ tt) (lit≤ tt))) legs.fit_new;
    held = subst FitHeld (sym (zeros_at at_held held_len (lit≤ tt) (lit≤ tt))) held.fit_new;
    gates = subst FitGates (sym (zeros_at at_gates gates_len (lit≤ tt) (lit≤ tt))) gates.fit_new;
  }

  pub new_told : {who : Bytes} {c : Params} {n : ℕ} → Shows l who c n → Told whole (new_table who n c)
  unfolding view_table new_table
  new_told {who} {c} {n} s =
      let m : view_me (head_in whole) ≡ who = ap view_me head_is ∙ s.me in
      let p : params_of (head_in whole) ≡ c = ap params_of head_is ∙ s.params in
      let x : view_next (head_in whole) ≡ n = ap view_next head_is ∙ s.next in
      let a : view_links (links_in whole) ≡ [] = ap view_links (zeros_at at_links links_len (lit≤ tt) (lit≤ tt)) ∙ links_none in
      let e : view_legs (legs_in whole) ≡ [] = ap view_legs (zeros_at at_legs legs_len (lit≤ tt) (lit≤ tt)) ∙ legs.shows_none in
      let h : view_held (held_in whole) ≡ [] = ap view_held (zeros_at at_held held_len (lit≤ tt) (lit≤ tt)) ∙ held.shows_none in
      let g : view_gates (gates_in whole) ≡ [] = ap view_gates (zeros_at at_gates gates_len (lit≤ tt) (lit≤ tt)) ∙ gates.shows_none in
      record { fit = new_fit; shows = λ i. record { me = m i; params = p i; next = x i; links = a i; legs = e i; held = h i; gates = g i } }
