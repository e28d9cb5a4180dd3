-- The places of a table, counted from behind: its memories, then each peer that nothing behind it names.
use Rattle.std.specs.Prelude.{◌≡◌, Bool, true, false, ◌||◌, ℕ, zero, suc, ◌+◌, ◌≤◌, ◌<◌, drop, get_or, if◌then◌else◌, None, Option, Some, is_some}
use Rattle.std.proofs.Math.Path.{refl, ap}
use Rattle.std.proofs.Common.{sym, ◌∙◌, subst, add-one, Fits, drop-cons, drop_of_length-le}
use mathlib.Core.List.{List, [], ◌∷◌, ◌++◌, map, append_assoc}
use native.Mathlib.Omega.{arith}
use Rattle.std.specs.Int.{w64}
use Rattle.std.proofs.Math.ListN.{length, length-append, length-map}
use Rattle.rules.specs.Base.{option, Bytes, same, any, All}
use Rattle.rules.specs.Std.{before, Ascending}
use Rattle.rules.specs.Data.{Leg, Held, Memory, Table}
use Rattle.rules.specs.Gates.{memory_of}
use Rattle.rules.specs.Settle.{named, earlier_held, peer_of, leg_peers, distinct, named_peers, places}
use Rattle.rules.proofs.Peers.{same_sound}
use Rattle.rules.proofs.Order.{before_apart}
use Rattle.lib_laws.specs.Scan.{scan}
use Rattle.lib_laws.specs.Place.{any_at, any_nowhere}
use Rattle.lib_laws.specs.Store.{entries_count}
use Rattle.legs.specs.View.{leg_of, no_leg}
use Rattle.held.specs.View.{held_of, no_held}
use Rattle.gates.specs.View.{entry_of}
use Rattle.table_layout.specs.View.{view_table, FitTable, nth_leg, nth_held}
use Rattle.call_contract.specs.Sound.{Sound, owners, links_most}

-- ---- lists of peers

any_map : {A : Type 0} (f : A → Bytes) (p : Bytes) (s : List A) → any (same p) (map f s) ≡ any (λ a. same p (f a)) s
any_map f p [] = refl
any_map f p (a ∷ s) = ap (λ (b : Bool). same p (f a) || b) (any_map f p s)

or_assoc : (a b c : Bool) → a || (b || c) ≡ a || b || c
or_assoc true b c = refl
or_assoc false b c = refl

any_append : (p : Bytes) (s u : List Bytes) → any (same p) (s ++ u) ≡ any (same p) s || any (same p) u
any_append p [] u = refl
any_append p (a ∷ s) u = ap (λ (b : Bool). same p a || b) (any_append p s u) ∙ or_assoc (same p a) (any (same p) s) (any (same p) u)

any_distinct : (p : Bytes) (s : List Bytes) → any (same p) (distinct s) ≡ any (same p) s
unfolding distinct
any_distinct p [] = refl
any_distinct p (b ∷ s) = go (any (same b) s) refl (same p b) refl (any_distinct p s)
  where
    go : (x : Bool) → any (same b) s ≡ x → (y : Bool) → same p b ≡ y → any (same p) (distinct s) ≡ any (same p) s
        → any (same p) (if x then distinct s else b ∷ distinct s) ≡ y || any (same p) s
    go true e true f ih = cc (same_sound p b f)
    go true e false f ih = ih
    go false e true f ih = rw f
    go false e false f ih = rw f ih

-- no more than all
length_distinct : (s : List Bytes) → length (distinct s) ≤ length s
unfolding distinct
length_distinct [] = omega arith
length_distinct (p ∷ s) = go (any (same p) s) (length_distinct s)
  where
    go : (x : Bool) → length (distinct s) ≤ length s → length (if x then distinct s else p ∷ distinct s) ≤ suc (length s)
    go true h = omega arith
    go false h = omega arith

length_peer : (o : Option Bytes) → length (option o [] (λ p. p ∷ [])) ≤ 1
length_peer None = omega arith
length_peer (Some p) = omega arith

length_legs : (s : List Leg) → length (leg_peers s) ≤ length s
length_legs [] = omega arith
length_legs (g ∷ s) = omega (arith, length-append (peer_of g) (leg_peers s), length_peer g.peer, length_legs s)

-- one more peer in front
distinct_more : (p : Bytes) (s : List Bytes) → any (same p) s ≡ false → length (distinct (p ∷ s)) ≡ 1 + length (distinct s)
unfolding distinct
distinct_more p s e = rw e (omega arith)

distinct_same : (p : Bytes) (s : List Bytes) → any (same p) s ≡ true → length (distinct (p ∷ s)) ≡ length (distinct s)
unfolding distinct
distinct_same p s e = rw e

-- ---- keys in order are apart

module _ {A : Type 0} (key : A → Bytes) where
  abbrev earlier : A → A → Bool
  earlier a b = before (key a) (key b)

  apart : (a : A) (s : List A) → All (λ b. earlier a b ≡ true) s → any (same (key a)) (map key s) ≡ false
  apart a [] h = refl
  apart a (b ∷ s) h = rw (before_apart (key a) (key b) h.0) (apart a s h.1)

  ascending_drop : (n : ℕ) (s : List A) → Ascending earlier s → Ascending earlier (drop n s)
  ascending_drop zero s h = h
  ascending_drop (suc n) [] h = tt
  ascending_drop (suc n) (a ∷ s) h = ascending_drop n s h.1

  distinct_keys : (s : List A) → Ascending earlier s → length (distinct (map key s)) ≡ length s
  unfolding distinct
  distinct_keys [] h = refl
  distinct_keys (a ∷ s) h = rw (apart a s h.0) (omega (arith, distinct_keys s h.1))

-- ---- who names a peer

abbrev pub remembered : Table → List Bytes
remembered x = map (λ m. m.peer) x.gates

-- the peers of the legs from the i-th on, and of the memories; those of the held peers before them
abbrev pub from_leg : Table → ℕ → List Bytes
from_leg x i = leg_peers (drop i x.legs) ++ remembered x

abbrev pub from_held : Table → ℕ → List Bytes
from_held x i = map (λ h. h.peer) (drop i x.held) ++ from_leg x 0

-- how many places they use
unfoldable pub places_from : Table → ℕ → ℕ
places_from x i = length (distinct (from_leg x i))

unfoldable pub held_from : Table → ℕ → ℕ
held_from x i = length (distinct (from_held x i))

-- ---- 32 at most of each

module _ {t : Bytes} (f : FitTable t) where
  pub few_legs : length (view_table t).legs ≤ 32
  unfolding view_table
  few_legs = omega (arith, entries_count leg_of f.legs, f.legs.kept.small)

  pub few_held : length (view_table t).held ≤ 32
  unfolding view_table
  few_held = omega (arith, entries_count held_of f.held, f.held.kept.small)

  pub few_gates : length (view_table t).gates ≤ 32
  unfolding view_table
  few_gates = omega (arith, entries_count entry_of f.gates, f.gates.kept.small)

-- ---- one leg

pub peer_none : (p : Bytes) (g : Leg) → g.peer ≡ None → false ≡ any (same p) (peer_of g)
peer_none p g e = rw e

peers_named : (g : Leg) {q : Bytes} → g.peer ≡ Some q → peer_of g ≡ q ∷ []
peers_named g e = rw e

peers_none : (g : Leg) → g.peer ≡ None → peer_of g ≡ []
peers_none g e = rw e

or_no : (b : Bool) → b || false ≡ b
or_no true = refl
or_no false = refl

pub peer_some : (p : Bytes) (g : Leg) {q : Bytes} {b : Bool} → g.peer ≡ Some q → b ≡ same p q → b ≡ any (same p) (peer_of g)
peer_some p g {q} e h = h ∙ sym (or_no (same p q)) ∙ sym (ap (λ (s : List Bytes). any (same p) s) (peers_named g e))

-- ---- legs from a place on: o is the answer, the search stands at the i-th

pub record Asking (o : Bool) (p : Bytes) (s : List Leg) (i : ℕ) : Type 0 where
  pub left : o ≡ any (same p) (leg_peers (drop i s))

legs_here : (s : List Leg) (i : ℕ) → i < length s → leg_peers (drop i s) ≡ peer_of (get_or s i no_leg) ++ leg_peers (drop (i + 1) s)
legs_here s i h = ap leg_peers (drop-cons s i no_leg h) ∙ rw add-one

module _ {o : Bool} {p : Bytes} {s : List Leg} {i : ℕ} (a : Asking o p s i) where
  asking_at : i < length s → o ≡ any (same p) (peer_of (get_or s i no_leg)) || any (same p) (leg_peers (drop (i + 1) s))
  asking_at h =
      a.left ∙ ap (λ (u : List Bytes). any (same p) u) (legs_here s i h) ∙ any_append p (peer_of (get_or s i no_leg)) (leg_peers (drop (i + 1) s))

  pub asking_hit : {b : Bool} → i < length s → b ≡ any (same p) (peer_of (get_or s i no_leg)) → b ≡ true → true ≡ o
  asking_hit h e f = sym (asking_at h ∙ ap (λ (c : Bool). c || any (same p) (leg_peers (drop (i + 1) s))) (sym e ∙ f))

  pub asking_skip : {b : Bool} → i < length s → b ≡ any (same p) (peer_of (get_or s i no_leg)) → b ≡ false → Asking o p s (i + 1)
  asking_skip h e f = record { left = asking_at h ∙ ap (λ (c : Bool). c || any (same p) (leg_peers (drop (i + 1) s))) (sym e ∙ f) }

  pub asking_end : length s ≤ i → false ≡ o
  asking_end h = sym (a.left ∙ ap (λ (u : List Leg). any (same p) (leg_peers u)) (drop_of_length-le s {i = i} h))

-- ---- memories, held peers

-- a search finds one exactly where there is one
scan_any : {A : Type 0} (f : A → Bool) (s : List A) → is_some (scan f 0 s) ≡ any f s
scan_any f s = go (scan f 0 s) refl
  where
    go : (o : Option ℕ) → scan f 0 s ≡ o → is_some o ≡ any f s
    go None e = sym (any_nowhere f s e)
    go (Some i) e = sym (any_at f s i e)

scanned : {A : Type 0} (f : A → Bool) (s : List A) {o : Option ℕ} {b c : Bool} → o ≡ scan f 0 s → b ≡ is_some o → b ≡ c → any f s ≡ c
scanned f s e g h = sym (scan_any f s) ∙ sym (ap is_some e) ∙ sym g ∙ h

module _ (x : Table) (p : Bytes) where
  from_split : (i : ℕ) → any (same p) (from_leg x i) ≡ any (same p) (leg_peers (drop i x.legs)) || any (memory_of p) x.gates
  from_split i =
      any_append p (leg_peers (drop i x.legs)) (remembered x)
      ∙ ap (λ (b : Bool). any (same p) (leg_peers (drop i x.legs)) || b) (any_map (λ m. m.peer) p x.gates)

  or_yes : (b : Bool) → true ≡ b || true
  or_yes true = refl
  or_yes false = refl

  module _ (i : ℕ) {o : Option ℕ} {b : Bool} (e : o ≡ scan (memory_of p) 0 x.gates) (g : b ≡ is_some o) where
    pub from_memory : b ≡ true → true ≡ any (same p) (from_leg x i)
    from_memory h =
        or_yes (any (same p) (leg_peers (drop i x.legs)))
        ∙ sym (from_split i ∙ ap (λ (c : Bool). any (same p) (leg_peers (drop i x.legs)) || c) (scanned (memory_of p) x.gates e g h))

    pub from_leg_lem : {r : Bool} → b ≡ false → r ≡ any (same p) (leg_peers (drop i x.legs)) → r ≡ any (same p) (from_leg x i)
    from_leg_lem h f =
        f
        ∙ sym (from_split i ∙ ap (λ (c : Bool). any (same p) (leg_peers (drop i x.legs)) || c) (scanned (memory_of p) x.gates e g h) ∙ or_no (any (same p) (leg_peers (drop i x.legs))))

  peers_are : named_peers x ≡ from_held x 0
  peers_are = append_assoc (map (λ h. h.peer) x.held) (leg_peers x.legs) (remembered x)

  place_split : any (same p) (places x) ≡ any (named p) x.held || any (same p) (from_leg x 0)
  unfolding places
  place_split =
      any_distinct p (named_peers x)
      ∙ ap (λ (s : List Bytes). any (same p) s) peers_are
      ∙ any_append p (map (λ h. h.peer) x.held) (from_leg x 0)
      ∙ ap (λ (b : Bool). b || any (same p) (from_leg x 0)) (any_map (λ h. h.peer) p x.held)

  module _ {o : Option ℕ} {b : Bool} (e : o ≡ scan (named p) 0 x.held) (g : b ≡ is_some o) where
    pub place_held : b ≡ true → true ≡ any (same p) (places x)
    place_held h = sym (place_split ∙ ap (λ (c : Bool). c || any (same p) (from_leg x 0)) (scanned (named p) x.held e g h))

    pub place_else : {r : Bool} → b ≡ false → r ≡ any (same p) (from_leg x 0) → r ≡ any (same p) (places x)
    place_else h f = f ∙ sym (place_split ∙ ap (λ (c : Bool). c || any (same p) (from_leg x 0)) (scanned (named p) x.held e g h))

-- ---- what a leg adds

module _ (x : Table) {i : ℕ} (h : i < length x.legs) where
  leg_from : from_leg x i ≡ peer_of (nth_leg x i) ++ from_leg x (i + 1)
  leg_from = ap (λ (s : List Bytes). s ++ remembered x) (legs_here x.legs i h) ∙ append_assoc (peer_of (nth_leg x i)) (leg_peers (drop (i + 1) x.legs)) (remembered x)

  leg_adds : (s : List Bytes) → peer_of (nth_leg x i) ≡ s → places_from x i ≡ length (distinct (s ++ from_leg x (i + 1)))
  unfolding places_from
  leg_adds s e = ap (λ (u : List Bytes). length (distinct u)) (leg_from ∙ ap (λ (u : List Bytes). u ++ from_leg x (i + 1)) e)

  pub leg_unnamed : (nth_leg x i).peer ≡ None → places_from x i ≡ 0 + places_from x (i + 1)
  unfolding places_from
  leg_unnamed e = omega (arith, leg_adds [] (peers_none (nth_leg x i) e))

  module _ {q : Bytes} {b : Bool} (n : (nth_leg x i).peer ≡ Some q) (f : b ≡ any (same q) (from_leg x (i + 1))) where
    pub leg_again : b ≡ true → places_from x i ≡ 0 + places_from x (i + 1)
    unfolding places_from
    leg_again t = omega (arith, leg_adds (q ∷ []) (peers_named (nth_leg x i) n), distinct_same q (from_leg x (i + 1)) (sym f ∙ t))

    pub leg_new : b ≡ false → places_from x i ≡ 1 + places_from x (i + 1)
    unfolding places_from
    leg_new t = omega (arith, leg_adds (q ∷ []) (peers_named (nth_leg x i) n), distinct_more q (from_leg x (i + 1)) (sym f ∙ t))

-- ---- what a held peer adds

module _ (x : Table) (o : Ascending earlier_held x.held) {i : ℕ} (h : i < length x.held) where
  abbrev rest : List Held
  rest = drop (i + 1) x.held

  held_here : drop i x.held ≡ nth_held x i ∷ rest
  held_here = drop-cons x.held i no_held h ∙ rw add-one

  held_adds : held_from x i ≡ length (distinct ((nth_held x i).peer ∷ from_held x (i + 1)))
  unfolding held_from
  held_adds = ap (λ (s : List Held). length (distinct (map (λ h. h.peer) s ++ from_leg x 0))) held_here

  held_apart : any (same (nth_held x i).peer) (map (λ h. h.peer) rest) ≡ false
  held_apart = apart (λ (h : Held). h.peer) (nth_held x i) rest (subst (λ (s : List Held). Ascending earlier_held s) held_here (ascending_drop (λ (h : Held). h.peer) i x.held o)).0

  module _ {q : Bytes} {b : Bool} (e : q ≡ (nth_held x i).peer) (f : b ≡ any (same q) (from_leg x 0)) where
    names_held : any (same (nth_held x i).peer) (from_held x (i + 1)) ≡ b
    names_held =
        any_append (nth_held x i).peer (map (λ h. h.peer) rest) (from_leg x 0)
        ∙ ap (λ (c : Bool). c || any (same (nth_held x i).peer) (from_leg x 0)) held_apart
        ∙ sym (f ∙ ap (λ (p : Bytes). any (same p) (from_leg x 0)) e)

    pub held_again : b ≡ true → held_from x i ≡ 0 + held_from x (i + 1)
    unfolding held_from
    held_again t = omega (arith, held_adds, distinct_same (nth_held x i).peer (from_held x (i + 1)) (names_held ∙ t))

    pub held_new : b ≡ false → held_from x i ≡ 1 + held_from x (i + 1)
    unfolding held_from
    held_new t = omega (arith, held_adds, distinct_more (nth_held x i).peer (from_held x (i + 1)) (names_held ∙ t))

-- ---- a count from behind: k are counted before the i-th, m behind all

pub record Tallied (f : ℕ → ℕ) (m i k : ℕ) : Type 0 where
  pub small : m + f 0 ≤ 160
  pub left : k + f i ≡ m + f 0

module _ {f : ℕ → ℕ} {m i k : ℕ} (a : Tallied f m i k) (r : ℕ) (e : f i ≡ r + f (i + 1)) where
  pub tallied_turn : Tallied f m (i + 1) (k + r)
  tallied_turn = record { small = a.small; left = omega (arith, a.left) }

module _ {x : Table} (s : Sound x) where
  most_legs : places_from x 0 ≤ 64
  unfolding places_from
  most_legs = omega (
    arith,
    length_distinct (from_leg x 0),
    length-append (leg_peers x.legs) (remembered x),
    length_legs x.legs,
    length-map x.gates (λ (m : Memory). m.peer),
    owners s,
    links_most s,
    s.shaped.limits.gates,
  )

  most_held : held_from x 0 ≤ 96
  unfolding held_from
  most_held = omega (
    arith,
    length_distinct (from_held x 0),
    length-append (map (λ (h : Held). h.peer) x.held) (from_leg x 0),
    length-append (leg_peers x.legs) (remembered x),
    length_legs x.legs,
    length-map x.held (λ (h : Held). h.peer),
    length-map x.gates (λ (m : Memory). m.peer),
    owners s,
    links_most s,
    s.shaped.limits.gates,
  )

  pub legs_start : {m : ℕ} → m ≡ length x.gates → Tallied (places_from x) m 0 m
  legs_start e = record { small = omega (arith, most_legs, s.shaped.limits.gates); left = refl }

  pub legs_end : {m i k : ℕ} → m ≡ length x.gates → Tallied (places_from x) m i k → length x.legs ≤ i → k ≡ places_from x 0
  unfolding places_from
  legs_end {i = i} e a h = omega (arith, a.left, last)
    where
      last : places_from x i ≡ length x.gates
      last =
          ap (λ (u : List Leg). length (distinct (leg_peers u ++ remembered x))) (drop_of_length-le x.legs {i = i} h)
          ∙ distinct_keys (λ (m : Memory). m.peer) x.gates s.shaped.ordered.gates

  pub held_start : {m : ℕ} → m ≡ places_from x 0 → Tallied (held_from x) m 0 m
  held_start e = record { small = omega (arith, most_legs, most_held); left = refl }

  pub held_end : {m i k : ℕ} → m ≡ places_from x 0 → Tallied (held_from x) m i k → length x.held ≤ i → k ≡ length (places x)
  unfolding places places_from held_from
  held_end {i = i} e a h = omega (arith, a.left, last, whole)
    where
      last : held_from x i ≡ places_from x 0
      last = ap (λ (u : List Held). length (distinct (map (λ (h : Held). h.peer) u ++ from_leg x 0))) (drop_of_length-le x.held {i = i} h)

      whole : length (distinct (named_peers x)) ≡ held_from x 0
      whole = ap (λ (u : List Bytes). length (distinct u)) (peers_are x x.me)

-- no more places than all three together
pub places_few : (x : Table) → length (places x) ≤ length x.held + length x.legs + length x.gates
unfolding places
places_few x = omega (
  arith,
  length_distinct (named_peers x),
  length-append (map (λ (h : Held). h.peer) x.held ++ leg_peers x.legs) (remembered x),
  length-append (map (λ (h : Held). h.peer) x.held) (leg_peers x.legs),
  length_legs x.legs,
  length-map x.held (λ (h : Held). h.peer),
  length-map x.gates (λ (m : Memory). m.peer),
)

-- the place after a leg's
pub leg_after : {t : Bytes} {i : ℕ} → FitTable t → i < length (view_table t).legs → Fits w64 (i + 1)
leg_after f h = record { fits = omega (arith, few_legs f) }

-- the three counts add up in a word
module _ {t : Bytes} (f : FitTable t) {h l : ℕ} (a : h ≡ length (view_table t).held) (b : l ≡ length (view_table t).legs) where
  pub sum_fits : Fits w64 (h + l)
  sum_fits = record { fits = omega (arith, few_held f, few_legs f) }

  pub sums_fit : {m : ℕ} → m ≡ length (view_table t).gates → Fits w64 (h + l + m)
  sums_fit c = record { fits = omega (arith, few_held f, few_legs f, few_gates f) }
