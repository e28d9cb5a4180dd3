-- Every leg closed: leases freed, links retired with one list of what they close, legs gone.
use Rattle.std.specs.Prelude.{◌≡◌, refl, ℕ, ◌+◌, ◌-◌, ◌*◌, ◌^◌, ◌≤◌, ◌<◌, length, drop, get_or, if◌then◌else◌}
use Rattle.std.proofs.Math.Path.{sym, ap, subst}
use Rattle.std.proofs.Common.{◌∙◌, add-zero, add-one, arith, drop-cons, length-append, drop_of_length-le, Fits}
use mathlib.Core.List.{List, [], ◌∷◌, ◌++◌, map, append_assoc, append-nil}
use Rattle.std.proofs.lemmas.List.{length-map}
use Rattle.std.proofs.Math.ListN.{get_or-map}
use Rattle.std.specs.Int.{w64}
use Rattle.rules.specs.Base.{Bytes, empty}
use Rattle.rules.specs.Data.{Pair, LinkRec, Leg, Table, Output, Free}
use Rattle.rules.specs.Output.{pairs_bytes, output_record}
use Rattle.rules.specs.Links.{retired, retiring}
use Rattle.rules.specs.Settle.{with_links, with_legs, retireds, retirings, close_legs}
use Rattle.lib_laws.specs.Splice.{splice, splice_none, splice_splice, Wrote}
use Rattle.lib_list.specs.ShortList.{ShortList, short_list_len}
use Rattle.node_addr.specs.declared.Pair as pair
use Rattle.links.specs.View.{view_closes}
use Rattle.legs.specs.View.{no_leg, leg_count}
use Rattle.output_record.specs.Write.{Puts, puts_none, puts_one, puts_more}
use Rattle.output_closes.specs.Lists.{pairs_append, pairs_small, pairs_count, close_header, close_written}
use Rattle.table_layout.specs.View.{legs_in, view_table, FitTable, Told, nth_leg}
use Rattle.table_layout.proofs.Told.{leg_to, told_then}
use Rattle.call_contract.specs.Did.{Space, Did, space_place, space_head, space_first, space_rest, wrote_length}
use Rattle.node_addr.specs.Layout.{pair_width}
use Rattle.call_contract.specs.Loop.{Writing, writing_start, writing_room, writing_one, writing_end}

-- ---- leases
abbrev pub frees : List Leg → List Output
frees s = map (λ g. Free g.lease) s

-- the loop over the n legs s stands at leg i
pub record Freeing (xs : Bytes) (at : ℕ) (s : List Leg) (n : ℕ) (ys : Bytes) (e i : ℕ) : Type 0 where
  pub count : n ≡ length s
  pub within : i ≤ n
  pub writing : Writing xs at (frees s) ys e (frees (drop i s))

pub freeing_start : {xs : Bytes} {at : ℕ} (s : List Leg) {n : ℕ} → n ≡ length s → Space xs at (frees s) → Freeing xs at s n xs at 0
freeing_start s q a = record { count = q; within = omega arith; writing = writing_start (frees s) a }

module _ {xs : Bytes} {at : ℕ} {s : List Leg} {n : ℕ} {ys : Bytes} {e i : ℕ} (a : Freeing xs at s n ys e i) where
  pub freeing_within : i < n → i < length s
  freeing_within h = omega (arith, a.count)

  free_next : i < n → frees (drop i s) ≡ Free (get_or s i no_leg).lease ∷ frees (drop (i + 1) s)
  free_next h = ap frees (drop-cons s i no_leg (freeing_within h)) ∙ rw add-one

  pub freeing_room : i < n → e + 8 ≤ length ys
  freeing_room h = writing_room a.writing (Free (get_or s i no_leg).lease) (frees (drop (i + 1) s)) (free_next h)

  pub freeing_turn : {l j : ℕ} {zs : Bytes} {r : ℕ} → i < n → l ≡ (get_or s i no_leg).lease → Wrote ys e j (output_record (Free l)) zs r → Freeing xs at s n zs r (i + 1)
  freeing_turn h q w = record {
    count = a.count;
    within = omega arith;
    writing = writing_one a.writing (Free (get_or s i no_leg).lease) (frees (drop (i + 1) s)) (free_next h) (rw q at w);
  }

  pub freeing_end : n ≤ i → Puts xs at (frees s) ys e
  freeing_end h = writing_end a.writing (ap frees (drop_of_length-le s {i = i} (omega (arith, a.count))))

-- ---- links
abbrev pub leg_links : List Leg → List ℕ
leg_links s = map (λ g. g.link) s

-- what their retirement closes, and the output that lists it
abbrev pub closing : Table → List Pair
closing x = retirings (leg_links x.legs) x.links

abbrev pub close_of : List Pair → List Output
close_of ps = if empty ps then [] else Output.Close ps ∷ []

-- the table without the links of its legs
abbrev pub unlinked : Table → Table
unlinked x = with_links (retireds (leg_links x.legs) x.links) x

-- the pairs ps stand one after another from a place of xs on: n pairs, which end at e of ys
pub record Listed (xs : Bytes) (from : ℕ) (ps : List Pair) (ys : Bytes) (e n : ℕ) : Type 0 where
  pub count : n ≡ length ps
  pub end : e ≡ from + length (pairs_bytes ps)
  pub size : length ys ≡ length xs
  pub is : ys ≡ splice xs from (pairs_bytes ps)
  pub most : length (pairs_bytes ps) ≤ pair_width * n

pub listed_none : (xs : Bytes) (from : ℕ) → Listed xs from [] xs from 0
listed_none xs from = record { count = refl; end = sym (add-zero from); size = refl; is = sym (splice_none xs from); most = omega arith }

module _ {xs : Bytes} {from : ℕ} {ps : List Pair} {ys : Bytes} {e n : ℕ} (a : Listed xs from ps ys e n) where
  -- more behind them
  pub listed_more : {m : ℕ} {zs : Bytes} {r : ℕ} (c : ShortList pair.Pair) → Wrote ys e m (pairs_bytes (view_closes c)) zs r → Listed xs from (ps ++ view_closes c) zs r (n + short_list_len c)
  listed_more {m} {zs} {r} c w =
      let b : Bytes = pairs_bytes ps in
      let d : Bytes = pairs_bytes (view_closes c) in
      let z : pairs_bytes (ps ++ view_closes c) ≡ b ++ d = pairs_append ps (view_closes c) in
      let l : length (pairs_bytes (ps ++ view_closes c)) ≡ length b + length d = ap length z ∙ length-append b d in
      record {
        count = omega (arith, a.count, length-append ps (view_closes c), pairs_count c);
        end = omega (arith, a.end, w.end, w.size, l);
        size = wrote_length w ∙ a.size;
        is = w.is ∙ ap (λ (u : Bytes). splice u e d) a.is ∙ ap (λ (k : ℕ). splice (splice xs from b) k d) a.end
            ∙ splice_splice xs from b d (omega (arith, a.end, a.size, w.room)) ∙ ap (λ (u : Bytes). splice xs from u) (sym z);
        most = omega (arith, l, a.most, pairs_small c);
      }

  -- the same, with none behind them
  pub listed_same : (qs : List Pair) → qs ≡ [] → Listed xs from (ps ++ qs) ys e n
  listed_same qs q = subst (λ (u : List Pair). Listed xs from u ys e n) (sym (append-nil ps) ∙ ap (λ (u : List Pair). ps ++ u) (sym q)) a

-- the loop over the n legs of the table x stands at leg i: t is the table now, and what the links before closed stands in ys
pub record Retiring (x : Table) (xs : Bytes) (at n : ℕ) (t ys : Bytes) (e count i : ℕ) : Type 0 where
  pub fit : FitTable t
  pub legs : n ≡ length x.legs
  pub few : n ≤ 32
  pub within : i ≤ n
  pub kept : view_table t ≡ with_links (view_table t).links x
  pub left : retireds (drop i (leg_links x.legs)) (view_table t).links ≡ retireds (leg_links x.legs) x.links
  pub done : List Pair
  pub is : done ++ retirings (drop i (leg_links x.legs)) (view_table t).links ≡ closing x
  pub listed : Listed xs (at + 5) done ys e count
  pub most : count ≤ 5 * i
  pub space : Space xs at (close_of (closing x))

legs_few : {t : Bytes} → FitTable t → length (view_table t).legs ≤ 32
legs_few {t} f =
    let h : length (view_table t).legs ≤ leg_count (legs_in t) = leg_to f (omega arith) in
    omega (arith, f.legs.kept.small)

pub retiring_start : {t xs : Bytes} {at n : ℕ} → FitTable t → n ≡ length (view_table t).legs → Space xs at (close_of (closing (view_table t)))
    → Retiring (view_table t) xs at n t xs (at + 5) 0 0
retiring_start {t} {xs} {at} f q a = record {
  fit = f;
  legs = q;
  few = omega (arith, legs_few f);
  within = omega arith;
  kept = refl;
  left = refl;
  done = [];
  is = refl;
  listed = listed_none xs (at + 5);
  most = omega arith;
  space = a;
}

-- the place behind a header is a number of 64 bits
pub header_fits : {xs : Bytes} {at : ℕ} {s : List Output} → Space xs at s → length xs * 1 < 2 ^ 63 → Fits w64 (at + 5)
header_fits a h = record { fits = omega (arith, space_place a, h) }

-- room for pairs, if there are any
closing_room : {xs : Bytes} {at : ℕ} (ps : List Pair) → 0 < length ps → Space xs at (close_of ps) → at + 5 + length (pairs_bytes ps) ≤ length xs
closing_room [] h a = absurd (omega arith)
closing_room (p ∷ ps) h a = omega (arith, space_head (Output.Close (p ∷ ps)) a)

module _ {x : Table} {xs : Bytes} {at n : ℕ} {t ys : Bytes} {e count i : ℕ} (a : Retiring x xs at n t ys e count i) where
  same_legs : (view_table t).legs ≡ x.legs
  same_legs = ap (λ (u : Table). u.legs) a.kept

  module _ (h : i < n) where
    pub retiring_within : i < length (view_table t).legs
    retiring_within = rw same_legs (omega (arith, a.legs))

    pub count_fits : (k : ℕ) → k ≤ 5 → Fits w64 (count + k)
    count_fits k q = record { fits = omega (arith, a.most, a.few) }

    -- the link of leg i retires and closes c
    module _ {l : ℕ} {t' : Bytes} (c : ShortList pair.Pair) {k : ℕ} (p : l ≡ (nth_leg (view_table t) i).link) (u : Told t' (with_links (retired l (view_table t).links) (view_table t)))
        (v : view_closes c ≡ retiring l (view_table t).links) (j : k ≡ short_list_len c) where
      links_next : drop i (leg_links x.legs) ≡ l ∷ drop (i + 1) (leg_links x.legs)
      links_next =
          drop-cons (leg_links x.legs) i no_leg.link (rw length-map (omega (arith, a.legs)))
          ∙ rw (get_or-map (λ (g : Leg). g.link) x.legs i no_leg, add-one, p, same_legs)

      links_then : (view_table t').links ≡ retired l (view_table t).links
      links_then = ap (λ (y : Table). y.links) u.shows

      rest_is : retirings (drop i (leg_links x.legs)) (view_table t).links ≡ view_closes c ++ retirings (drop (i + 1) (leg_links x.legs)) (view_table t').links
      unfolding retirings
      rest_is = rw (links_next, links_then, v)

      next : {zs : Bytes} {r m : ℕ} → Listed xs (at + 5) (a.done ++ view_closes c) zs r m → m ≤ 5 * (i + 1) → Retiring x xs at n t' zs r m (i + 1)
      unfolding retireds
      next b q = record {
        fit = u.fit;
        legs = a.legs;
        few = a.few;
        within = omega arith;
        kept = u.shows ∙ ap (λ (y : Table). with_links (retired l (view_table t).links) y) a.kept ∙ ap (λ (s : List LinkRec). with_links s x) (sym links_then);
        left =
            ap (retireds (drop (i + 1) (leg_links x.legs))) links_then
            ∙ sym (ap (λ (s : List ℕ). retireds s (view_table t).links) links_next)
            ∙ a.left;
        done = a.done ++ view_closes c;
        is = append_assoc a.done (view_closes c) (retirings (drop (i + 1) (leg_links x.legs)) (view_table t').links) ∙ ap (λ (s : List Pair). a.done ++ s) (sym rest_is) ∙ a.is;
        listed = b;
        most = q;
        space = a.space;
      }

      pub retiring_room : 0 < k → e + length (pairs_bytes (view_closes c)) ≤ length ys
      retiring_room q =
          let r : List Pair = retirings (drop (i + 1) (leg_links x.legs)) (view_table t').links in
          let z : a.done ++ (view_closes c ++ r) ≡ closing x = ap (λ (s : List Pair). a.done ++ s) (sym rest_is) ∙ a.is in
          let m : length (a.done ++ (view_closes c ++ r)) ≡ length a.done + (length (view_closes c) + length r) = simp length-append in
          let w : length (pairs_bytes (a.done ++ (view_closes c ++ r))) ≡ length (pairs_bytes a.done) + (length (pairs_bytes (view_closes c)) + length (pairs_bytes r)) =
          simp (pairs_append, length-append) in
          omega (arith, a.listed.end, a.listed.size, closing_room (closing x) (omega (arith, ap length z, m, pairs_count c, j, q)) a.space, ap (λ (s : List Pair). length (pairs_bytes s)) z, w)

      pub retiring_turn : k ≤ 5 → {m : ℕ} {zs : Bytes} {r : ℕ} → Wrote ys e m (pairs_bytes (view_closes c)) zs r → Retiring x xs at n t' zs r (count + k) (i + 1)
      retiring_turn h w = next (rw (← j) at (listed_more a.listed c w)) (omega (arith, a.most))

      pub retiring_skip : k ≤ 0 → Retiring x xs at n t' ys e count (i + 1)
      retiring_skip q = next (listed_same a.listed (view_closes c) (drop_of_length-le (view_closes c) {i = 0} (omega (arith, pairs_count c, j, q)))) (omega (arith, a.most))

  module _ (h : n ≤ i) where
    links_end : drop i (leg_links x.legs) ≡ []
    links_end = drop_of_length-le (leg_links x.legs) {i = i} (rw length-map (omega (arith, a.legs)))

    pub retiring_told : Told t (unlinked x)
    unfolding retireds
    retiring_told = record { fit = a.fit; shows = a.kept ∙ ap (λ (s : List LinkRec). with_links s x) (rw links_end at a.left) }

    pub retiring_listed : Listed xs (at + 5) (closing x) ys e count
    unfolding retirings
    retiring_listed = subst (λ (s : List Pair). Listed xs (at + 5) s ys e count) (sym (append-nil a.done) ∙ (rw links_end at a.is)) a.listed

    pub retiring_most : count ≤ 160
    retiring_most = omega (arith, a.most, a.few, a.within)

-- ---- the header before the pairs, if there are any
close_some : (ps : List Pair) → (length ps ≡ 0 → ⊥) → close_of ps ≡ Output.Close ps ∷ []
close_some [] h = absurd (h refl)
close_some (p ∷ ps) h = refl

module _ {xs : Bytes} {at : ℕ} {ps : List Pair} {ys : Bytes} {e n : ℕ} (s : Space xs at (close_of ps)) (a : Listed xs (at + 5) ps ys e n) where
  pub nothing_closed : n ≡ 0 → Puts xs at (close_of ps) ys at
  nothing_closed q =
      let z : ps ≡ [] = drop_of_length-le ps {i = 0} (omega (arith, a.count)) in
      let y : ys ≡ xs = a.is ∙ rw z (splice_none xs (at + 5)) in
      subst (λ (u : List Pair). Puts xs at (close_of u) ys at) (sym z) (subst (λ (u : Bytes). Puts xs at [] u at) (sym y) (puts_none xs at (space_place s)))

  module _ (h : n ≡ 0 → ⊥) where
    pub header_place : (at ≤ e) × (5 ≤ e - at)
    header_place = (omega (arith, a.end), omega (arith, a.end))

    pub header_room : n ≤ 160 → (n < 256) × ((e - at - 5 + 3 < 65536) × (at + 5 ≤ length ys))
    header_room q = (omega arith, (omega (arith, a.end, a.most), omega (arith, a.size, space_head (Output.Close ps) (subst (λ (u : List Output). Space xs at u) (close_some ps (λ z. h (a.count ∙ z))) s))))

    pub closed : {zs : Bytes} {k : ℕ} → Wrote ys at 5 (close_header n (e - at - 5)) zs k → Puts xs at (close_of ps) zs e
    closed {zs} {k} w =
        let m : ℕ = length (pairs_bytes ps) in
        let g : e - at - 5 ≡ m = omega (arith, a.end) in
        let l = space_head (Output.Close ps) (subst (λ (u : List Output). Space xs at u) (close_some ps (λ z. h (a.count ∙ z))) s) in
        let b : Wrote xs (at + 5) m (pairs_bytes ps) ys e = record { end = a.end; size = refl; room = omega (arith, l); is = a.is } in
        subst (λ (u : List Output). Puts xs at u zs e) (sym (close_some ps (λ z. h (a.count ∙ z)))) (puts_one (Output.Close ps) (close_written n ps b (rw g at w) (sym a.count)))

-- ---- all legs
module _ {xs : Bytes} {at : ℕ} (x : Table) where
  pub legs_space : Space xs at (close_legs x).outs → Space xs at (frees x.legs)
  unfolding close_legs
  legs_space a = space_first (frees x.legs) (close_of (closing x)) a

  pub links_space : {ys : Bytes} {e : ℕ} → Space xs at (close_legs x).outs → Puts xs at (frees x.legs) ys e → Space ys e (close_of (closing x))
  unfolding close_legs
  links_space a p = space_rest (close_of (closing x)) a p

  pub legs_did : {ys : Bytes} {e : ℕ} {t : Bytes} {zs : Bytes} {r : ℕ} {t' : Bytes} → Puts xs at (frees x.legs) ys e → Told t (unlinked x) → Puts ys e (close_of (closing x)) zs r
      → Told t' (with_legs [] (view_table t)) → Did xs at t' zs r (close_legs x)
  unfolding close_legs
  legs_did p a q b = record { table = told_then (with_legs []) a b; puts = puts_more p q }
