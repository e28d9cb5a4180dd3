-- The search for a stored msg2: over the links from the newest down, over the addresses of each, for a leg that yields one.
use Rattle.std.specs.Prelude.{◌≡◌, refl, Bool, true, false, not, ◌&&◌, ◌||◌, ℕ, suc, ◌+◌, ◌-◌, ◌≤◌, ◌<◌, length, take, drop, get_or, if◌then◌else◌, None, Option, Some}
use Rattle.std.proofs.Common.{sym, ◌∙◌, add-one, eqb-true, drop-cons, take_all, take-suc, drop_of_length-le}
use Rattle.std.proofs.Math.Path.{ap}
use mathlib.Core.List.{List, [], ◌∷◌, ◌++◌, map}
use native.Mathlib.Omega.{arith}
use Rattle.std.proofs.lemmas.List.{length-map}
use Rattle.rules.specs.Base.{option, is, or_else, Bytes, same, find, any}
use Rattle.rules.specs.Data.{Pair, same_pair, PathRec, LinkRec, Answered, Leg}
use Rattle.rules.specs.Links.{proven_at, indexed}
use Rattle.rules.specs.Legs.{on_link, answered, stored_msg2}
use Rattle.rules.specs.Settle.{Stored, stored_on, stored_in}
use Rattle.lib_laws.specs.Scan.{scan}
use Rattle.lib_laws.specs.Place.{find_at, find_nowhere, place_passes, place_within}
use Rattle.lib_laws.specs.Store.{entries_count}
use Rattle.links_entry.specs.View.{view_links, FitLinks, link_count, no_link}
use Rattle.legs_entry.specs.View.{view_legs, FitLegs, leg_count, no_leg, leg_at}
use Rattle.lib_laws.specs.Cell.{or_blank}
use Rattle.legs_entry.specs.At.{no_answer, answer_of, absent}
use Rattle.legs.specs.Walk.{count_is}

-- ---- the links of the region, as the search reads them
abbrev pub link_at : Bytes → ℕ → LinkRec
link_at s i = get_or (view_links s) i no_link

pub links_count : {s : Bytes} → FitLinks s → length (view_links s) ≡ link_count s
links_count f = entries_count _ f

-- ---- what the place of a leg says
abbrev pub stored_from : Option ℕ → Bytes → Option Stored
stored_from (Some i) s = Some (record { link = (leg_at s i).link; msg2 = (answer_of (leg_at s i)).msg2 })
stored_from None s = None

abbrev pub Within : Option ℕ → ℕ → Type 0
Within (Some i) n = i < n
Within None n = Unit {0}

-- the answer r, a place of a leg in s, says o
pub record Tells (r : Option ℕ) (s : Bytes) (o : Option Stored) : Type 0 where
  pub within : Within r (leg_count s)
  pub is : o ≡ stored_from r s

pub tells_no : {s : Bytes} {o : Option Stored} → o ≡ None → Tells None s o
tells_no e = record { within = tt; is = e }

either : {A : Type 0} (b : Bool) (x : A) → (if b then x else x) ≡ x
either true x = refl
either false x = refl

-- ---- what the leg on link n yields
abbrev pub yield_of : Bytes → List Leg → ℕ → Option Stored
yield_of bs s n = option (find (on_link n) s) None λ g. option (stored_msg2 bs g) None λ m. Some (record { link = n; msg2 = m })

stored_is : (bs : Bytes) (g : Leg) → is (stored_msg2 bs g) ≡ true → stored_msg2 bs g ≡ Some (answer_of g).msg2
unfolding stored_msg2
stored_is bs g e = go (answered g.kind) e
  where
    pick : (x : Bool) (a : Answered) → is (if x then Some a.msg2 else None) ≡ true → (if x then Some a.msg2 else None) ≡ Some a.msg2
    pick true a e = refl
    pick false a e = cc

    go : (o : Option Answered) → is (option o None (λ a. if not a.sent || same bs g.msg1 then Some a.msg2 else None)) ≡ true
        → option o None (λ a. if not a.sent || same bs g.msg1 then Some a.msg2 else None) ≡ Some (or_blank no_answer o).msg2
    go None e = cc
    go (Some a) e = pick (not a.sent || same bs g.msg1) a e

stored_not : (bs : Bytes) (g : Leg) → is (stored_msg2 bs g) ≡ false → stored_msg2 bs g ≡ None
stored_not bs g e = absent (stored_msg2 bs g) e

module _ {s : Bytes} (f : FitLegs s) (bs : Bytes) (n : ℕ) where
  pub yields_none : scan (on_link n) 0 (view_legs s) ≡ None → Tells None s (yield_of bs (view_legs s) n)
  yields_none e = record { within = tt; is = rw (find_nowhere (on_link n) (view_legs s) e) }

  module _ {i : ℕ} (e : scan (on_link n) 0 (view_legs s) ≡ Some i) where
    yield_at : yield_of bs (view_legs s) n ≡ option (stored_msg2 bs (leg_at s i)) None λ m. Some (record { link = n; msg2 = m })
    yield_at = ap (λ (o : Option Leg). option o None λ g. option (stored_msg2 bs g) None λ m. Some (record { link = n; msg2 = m })) (find_at (on_link n) (view_legs s) i e no_leg)

    pub found_within : i < leg_count s
    found_within = let h = place_within (on_link n) (view_legs s) i e in omega (arith, count_is f)

    pub yields_not : is (stored_msg2 bs (leg_at s i)) ≡ false → Tells None s (yield_of bs (view_legs s) n)
    yields_not q = record { within = tt; is = yield_at ∙ rw (stored_not bs (leg_at s i) q) }

    pub yields_at : is (stored_msg2 bs (leg_at s i)) ≡ true → Tells (Some i) s (yield_of bs (view_legs s) n)
    yields_at q =
        let l : n ≡ (leg_at s i).link = eqb-true n (leg_at s i).link (place_passes (on_link n) (view_legs s) i e no_leg) in
        record {
          within = found_within;
          is = yield_at ∙ rw (stored_is bs (leg_at s i) q) (ap (λ (k : ℕ). Some (record { link = k; msg2 = (answer_of (leg_at s i)).msg2 })) l);
        }

-- ---- the addresses of a link, the setup first: whether the index has the link there
abbrev pub reach : Pair → LinkRec → List Bool
reach p r = (same_pair p r.setup && not r.released) ∷ map (proven_at p) r.paths

abbrev pub holds : Bool → Bool
holds b = b

any_map : (p : Pair) (s : List PathRec) → any holds (map (proven_at p) s) ≡ any (proven_at p) s
any_map p [] = refl
any_map p (w ∷ s) = ap (λ (b : Bool). proven_at p w || b) (any_map p s)

stored_on_lem : (p : Pair) (bs : Bytes) (s : List Leg) (r : LinkRec) → stored_on p bs s r ≡ (if any holds (reach p r) then yield_of bs s r.no else None)
unfolding stored_on indexed
stored_on_lem p bs s r = ap (λ (b : Bool). if (same_pair p r.setup && not r.released) || b then yield_of bs s r.no else None) (sym (any_map p r.paths))

-- those that are to be looked at, by the place of the leg that yields: none where no leg does
abbrev pub looked : Option ℕ → List Bool → List Bool
looked (Some i) bs = bs
looked None bs = []

-- how many
abbrev pub to_look : Option ℕ → LinkRec → ℕ
to_look (Some i) r = length r.paths + 1
to_look None r = 0

pub length_reach : (p : Pair) (r : LinkRec) → length (reach p r) ≡ length r.paths + 1
length_reach p r = rw (length-map, add-one)

to_look_lem : (f : Option ℕ) (p : Pair) (r : LinkRec) → to_look f r ≡ length (looked f (reach p r))
to_look_lem (Some i) p r = sym (length_reach p r)
to_look_lem None p r = refl

-- the inner loop stands at j: o, what the link yields, is y, what its leg at the place f in t yields, if the index has the link at an address from there on
pub record Reaching (o y : Option Stored) (f : Option ℕ) (t : Bytes) (bs : List Bool) (k j : ℕ) : Type 0 where
  pub yields : Tells f t y
  pub count : k ≡ length (looked f bs)
  pub within : j ≤ k
  pub left : o ≡ (if any holds (drop j (looked f bs)) then y else None)

pub reaching_start : (p : Pair) (bs : Bytes) (s : List Leg) (r : LinkRec) (f : Option ℕ) {t : Bytes} {n k : ℕ} → n ≡ r.no → Tells f t (yield_of bs s n) → k ≡ to_look f r
    → Reaching (stored_on p bs s r) (yield_of bs s r.no) f t (reach p r) k 0
reaching_start p bs s r f {t} {n} e q z =
    let y : Tells f t (yield_of bs s r.no) = rw (← e) q in
    record { yields = y; count = z ∙ to_look_lem f p r; within = omega arith; left = stored_on_lem p bs s r ∙ go f y }
  where
    go : (f : Option ℕ) → Tells f t (yield_of bs s r.no) → (if any holds (reach p r) then yield_of bs s r.no else None) ≡ (if any holds (looked f (reach p r)) then yield_of bs s r.no else None)
    go (Some i) q = refl
    go None q = rw q.is (either (any holds (reach p r)) None)

module _ {o y : Option Stored} {f : Option ℕ} {t : Bytes} {bs : List Bool} {k j : ℕ} (a : Reaching o y f t bs k j) where
  pub reaching_end : k ≤ j → o ≡ None
  reaching_end h = a.left ∙ ap (λ (l : List Bool). if any holds l then y else None) (drop_of_length-le (looked f bs) {i = j} (omega arith))

  module _ (h : j < k) where
    -- an address that is to be looked at is one of the link's
    pub reaching_in : j < length bs
    reaching_in = go f a.count
      where
        go : (f : Option ℕ) → k ≡ length (looked f bs) → j < length bs
        go (Some i) e = omega arith
        go None e = omega arith

    reach_here : o ≡ (if get_or bs j false || any holds (drop (j + 1) (looked f bs)) then y else None)
    reach_here = a.left ∙ go f a.count
      where
        go : (f : Option ℕ) → k ≡ length (looked f bs) → (if any holds (drop j (looked f bs)) then y else None) ≡ (if get_or bs j false || any holds (drop (j + 1) (looked f bs)) then y else None)
        go (Some i) e = ap (λ (l : List Bool). if any holds l then y else None) (drop-cons bs j false (omega arith) ∙ ap (λ (i : ℕ). get_or bs j false ∷ drop i bs) (sym (add-one j)))
        go None e = absurd (omega arith)

    pub reaching_skip : {b : Bool} → b ≡ get_or bs j false → b ≡ false → Reaching o y f t bs k (j + 1)
    reaching_skip e q = record { yields = a.yields; count = a.count; within = omega arith; left = reach_here ∙ rw (sym e ∙ q) }

    -- the leg f yields what the link yields, and so what is searched for
    pub reaching_hit : {b : Bool} {w : Option Stored} → b ≡ get_or bs j false → b ≡ true → ((z : Stored) → o ≡ Some z → w ≡ Some z) → Tells f t w
    reaching_hit {w = w} e q g = go f a.count a.yields
      where
        go : (f : Option ℕ) → k ≡ length (looked f bs) → Tells f t y → Tells f t w
        go (Some i) n y = record { within = y.within; is = g (record { link = (leg_at t i).link; msg2 = (answer_of (leg_at t i)).msg2 }) (reach_here ∙ rw (sym e ∙ q) y.is) }
        go None n y = absurd (omega arith)

-- ---- the outer loop has the first n links left: o is what they yield
pub record Looking (o : Option Stored) (p : Pair) (bs : Bytes) (s : List Leg) (ls : List LinkRec) (n : ℕ) : Type 0 where
  pub within : n ≤ length ls
  pub left : o ≡ stored_in p bs s (take n ls)

pub looking_start : (p : Pair) (bs : Bytes) (s : List Leg) (ls : List LinkRec) {n : ℕ} → n ≡ length ls → Looking (stored_in p bs s ls) p bs s ls n
looking_start p bs s ls {n} e = record { within = omega arith; left = ap (stored_in p bs s) (sym (take_all n ls (omega arith))) }

-- the last of the links is looked at first, and the others if it yields none
module _ (p : Pair) (bs : Bytes) (s : List Leg) (r : LinkRec) where
  last_yields : (ls : List LinkRec) {z : Stored} → stored_on p bs s r ≡ Some z → stored_in p bs s (ls ++ (r ∷ [])) ≡ Some z
  unfolding stored_in
  last_yields [] e = e
  last_yields (q ∷ ls) e = ap (λ (o : Option Stored). or_else o (stored_on p bs s q)) (last_yields ls e)

  last_passed : (ls : List LinkRec) → stored_on p bs s r ≡ None → stored_in p bs s (ls ++ (r ∷ [])) ≡ stored_in p bs s ls
  unfolding stored_in
  last_passed [] e = e
  last_passed (q ∷ ls) e = ap (λ (o : Option Stored). or_else o (stored_on p bs s q)) (last_passed ls e)

module _ {o : Option Stored} {p : Pair} {bs : Bytes} {s : List Leg} {ls : List LinkRec} {n : ℕ} (a : Looking o p bs s ls n) where
  pub looking_end : n ≤ 0 → o ≡ None
  unfolding stored_in
  looking_end h = let z : n ≡ 0 = omega arith in a.left ∙ ap (λ (k : ℕ). stored_in p bs s (take k ls)) z

  module _ (d : LinkRec) (h : 0 < n) where
    look_here : o ≡ stored_in p bs s (take (n - 1) ls ++ (get_or ls (n - 1) d ∷ []))
    look_here =
        let z : n ≡ suc (n - 1) = omega arith in
        a.left ∙ ap (λ (k : ℕ). stored_in p bs s (take k ls)) z ∙ ap (stored_in p bs s) (take-suc ls (n - 1) d (omega arith))

    pub looking_hit : {z : Stored} → stored_on p bs s (get_or ls (n - 1) d) ≡ Some z → o ≡ Some z
    looking_hit e = look_here ∙ last_yields p bs s (get_or ls (n - 1) d) (take (n - 1) ls) e

    pub looking_skip : stored_on p bs s (get_or ls (n - 1) d) ≡ None → Looking o p bs s ls (n - 1)
    looking_skip e = record { within = omega arith; left = look_here ∙ last_passed p bs s (get_or ls (n - 1) d) (take (n - 1) ls) e }

-- ---- no legs: nothing is stored
pub looking_none : (p : Pair) (bs : Bytes) (s : List Leg) (ls : List LinkRec) → length s ≡ 0 → stored_in p bs s ls ≡ None
unfolding stored_in stored_on
looking_none p bs [] [] e = refl
looking_none p bs [] (r ∷ ls) e = ap (λ (o : Option Stored). or_else o (if indexed p r then None else None)) (looking_none p bs [] ls e) ∙ either (indexed p r) None
looking_none p bs (g ∷ s) ls e = absurd (omega arith)
