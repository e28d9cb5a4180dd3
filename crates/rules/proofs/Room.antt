-- The table keeps to its limits: 32 links, as many legs and holders together, 32 places, and so 32 memories.
use Rattle.std.specs.Prelude.{if◌then◌else◌, None, Option, Some}
use mathlib.Core.Path.{◌≡◌, refl, sym, ap, ◌∙◌, subst}
use mathlib.Core.Bool.{Bool, true, false, not, ◌&&◌, ◌||◌}
use mathlib.Core.List.{List, [], ◌∷◌, ◌++◌, map}
use Prim.Native.Nat.{ℕ, ◌+◌, ◌≤◌, ◌<◌}
use native.Mathlib.Omega.{arith}
use borrow.Author.Tests.{leb-false}
use lib.Dec.{leb}
use lib.ListN.{length}
use Rattle.rules.specs.Base.{option, Bytes, same, find, without, alter, any, tally, one, All}
use Rattle.rules.specs.Std.{before, Ascending}
use Rattle.rules.specs.Data.{Pair, APeer, Proven, LinkRec, Answered, Leg, Held, Memory, Table, Step, Hello, Source, Why, Transition, Inbound}
use Rattle.rules.specs.Links.{numbered, opened, held_by, hold, with_path, path, retired, without_path, released}
use Rattle.rules.specs.Legs.{on_link, answer_leg}
use Rattle.rules.specs.Gates.{memory_of, earlier_memory, memory, store, stamped, promoted, clear, ended}
use Rattle.rules.specs.Settle.{with_links, with_legs, with_held, with_gates, joined, leg_at, held_at, named, earlier_held, peer_of, leg_peers, distinct, named_peers, places, installs, ends, parted, removed, displaces, answer, stamp, promote, dialed, moved_to, moveto, with_epoch, restarted, heard_from, heard, retireds, close_legs}
use Rattle.rules.specs.Bounds.{IfAny, Ordered, Limits}
use Rattle.rules.proofs.Lists.{if_by, option_by, eqb_same, find_test, tally_found, all_append, all_map}
use Rattle.rules.proofs.Good.{Good, records_hold, records_retired, leg_record, held_record}
use Rattle.rules.proofs.Calls.{good_stamp}
use Rattle.rules.proofs.Peers.{same_sound, same_refl, or_true_right, Within, within_length}
use Rattle.rules.proofs.Order.{contra, all_find, all_without, all_alter, all_insert, all_mapped, length_without, length_less, length_alter, length_snoc, length_insert, before_apart, store_by}

-- ---- who has no place

abbrev Other : Bytes → Bytes → Type 0
Other q p = same q p ≡ false

pub record Absent (q : Bytes) (t : Table) : Type 0 where
  pub held : All (λ h. Other q h.peer) t.held
  pub legs : All (λ g. IfAny (Other q) g.peer) t.legs
  pub gates : All (λ m. Other q m.peer) t.gates

module _ {A : Type 0} where
  none_any : (test : A → Bool) (s : List A) → any test s ≡ false → All (λ a. test a ≡ false) s
  none_any test [] e = tt
  none_any test (a ∷ s) e = go (test a) refl e (λ h. none_any test s h)
    where
      go : (b : Bool) → test a ≡ b → b || any test s ≡ false → (any test s ≡ false → All (λ a. test a ≡ false) s) → (test a ≡ false) × All (λ a. test a ≡ false) s
      go true x h ih = contra h
      go false x h ih = (x, ih h)

  any_none : (test : A → Bool) (s : List A) → All (λ a. test a ≡ false) s → any test s ≡ false
  any_none test [] p = refl
  any_none test (a ∷ s) p = rw p.0 (any_none test s p.1)

  all_split : (P : A → Type 0) (s u : List A) → All P (s ++ u) → All P s × All P u
  all_split P [] u p = (tt, p)
  all_split P (a ∷ s) u p = let x = all_split P s u p.1 in ((p.0, x.0), x.1)

  of_map : {B : Type 0} (f : A → B) (P : B → Type 0) (s : List A) → All P (map f s) → All (λ a. P (f a)) s
  of_map f P [] p = tt
  of_map f P (a ∷ s) p = (p.0, of_map f P s p.1)

module _ (P : Bytes → Type 0) where
  to_legs : (s : List Leg) → All (λ g. IfAny P g.peer) s → All P (leg_peers s)
  to_legs [] p = tt
  to_legs (g ∷ s) p = all_append P (peer_of g) (leg_peers s) (here g.peer p.0) (to_legs s p.1)
    where
      here : (o : Option Bytes) → IfAny P o → All P (option o [] (λ q. q ∷ []))
      here None x = tt
      here (Some q) x = (x, tt)

  of_legs : (s : List Leg) → All P (leg_peers s) → All (λ g. IfAny P g.peer) s
  of_legs [] p = tt
  of_legs (g ∷ s) p = let x = all_split P (peer_of g) (leg_peers s) p in (here g.peer x.0, of_legs s x.1)
    where
      here : (o : Option Bytes) → All P (option o [] (λ q. q ∷ [])) → IfAny P o
      here None x = tt
      here (Some q) x = x.0

-- a peer that names no place is absent, and the other way round
module _ (q : Bytes) (t : Table) where
  absent_of : any (same q) (named_peers t) ≡ false → Absent q t
  absent_of e =
      let h : List Bytes = map (λ h. h.peer) t.held in
      let x = all_split (Other q) (h ++ leg_peers t.legs) (map (λ m. m.peer) t.gates) (none_any (same q) (named_peers t) e) in
      let y = all_split (Other q) h (leg_peers t.legs) x.0 in
      record { held = of_map (λ h. h.peer) (Other q) t.held y.0; legs = of_legs (Other q) t.legs y.1; gates = of_map (λ m. m.peer) (Other q) t.gates x.1 }

  of_absent : Absent q t → any (same q) (named_peers t) ≡ false
  of_absent x =
      let h : List Bytes = map (λ h. h.peer) t.held in
      any_none (same q) (named_peers t) (all_append (Other q) (h ++ leg_peers t.legs) (map (λ m. m.peer) t.gates)
      (all_append (Other q) h (leg_peers t.legs) (all_mapped (λ h. h.peer) (Other q) t.held x.held) (to_legs (Other q) t.legs x.legs))
      (all_mapped (λ m. m.peer) (Other q) t.gates x.gates))

-- no new peer, or one: no more places, or one
within : (t u : Table) → ((q : Bytes) → Absent q t → Absent q u) → Within (named_peers u) (named_peers t)
within t u k q h = go (any (same q) (named_peers t)) refl
  where
    go : (b : Bool) → any (same q) (named_peers t) ≡ b → any (same q) (named_peers t) ≡ true
    go true e = e
    go false e = cc (of_absent q u (k q (absent_of q t e)))

within_one : (p : Bytes) (t u : Table) → ((q : Bytes) → Other q p → Absent q t → Absent q u) → Within (named_peers u) (p ∷ named_peers t)
within_one p t u k q h = go (same q p) (any (same q) (named_peers t)) refl refl
  where
    go : (a b : Bool) → same q p ≡ a → any (same q) (named_peers t) ≡ b → a || b ≡ true
    go true b d e = refl
    go false true d e = refl
    go false false d e = cc (of_absent q u (k q d (absent_of q t e)))

-- ---- the gates' memories

module _ (q : Bytes) where
  abbrev Elsewhere : List Memory → Type 0
  Elsewhere s = All (λ m. Other q m.peer) s

  absent_store : (m : Memory) (s : List Memory) → Other q m.peer → Elsewhere s → Elsewhere (store m s)
  absent_store m s d e =
      let rest = all_without (λ m. Other q m.peer) (memory_of m.peer) s e in
      store_by Elsewhere m s (λ x. all_insert earlier_memory (λ m. Other q m.peer) m (without (memory_of m.peer) s) d rest) rest

  absent_memory : (p : Bytes) (s : List Memory) → Other q p → Elsewhere s → Other q (memory p s).peer
  unfolding memory
  absent_memory p s d e = option_by (λ (m : Memory). Other q m.peer) (find (memory_of p) s) (λ x. d) (λ m x. all_find (λ m. Other q m.peer) (memory_of p) s m x e)

  -- a peer's memory changed and stored
  absent_changed : (f : Memory → Memory) (p : Bytes) (s : List Memory) → ((m : Memory) → (f m).peer ≡ m.peer) → Other q p → Elsewhere s
      → Elsewhere (store (f (memory p s)) s)
  absent_changed f p s a d e = absent_store (f (memory p s)) s (rw (a (memory p s)) (absent_memory p s d e)) e

-- ---- a table that needs no more room

pub record Stays (t u : Table) : Type 0 where
  pub links : length u.links ≤ length t.links
  pub owners : length t.links ≡ length t.legs + length t.held → length u.links ≡ length u.legs + length u.held
  pub absent : (q : Bytes) → Absent q t → Absent q u

-- the record is there, so retiring takes one
one_less : (n : ℕ) (s : List LinkRec) → 1 ≤ tally (λ r. one (numbered n r)) s → length (retired n s) + 1 ≡ length s
one_less n s h = let x = tally_found (numbered n) s h in length_less (numbered n) s x.0 x.1

length_hold : (n : ℕ) (p : Bytes) (s : List LinkRec) → length (hold n (APeer p) s) ≡ length s
unfolding hold
length_hold n p s = length_alter (numbered n) (held_by (APeer p)) s

length_retireds : (gs : List Leg) (s : List LinkRec) → ((m : ℕ) → tally (λ g. one (on_link m g)) gs ≤ tally (λ r. one (numbered m r)) s)
    → length (retireds (map (λ g. g.link) gs) s) + length gs ≡ length s
unfolding retireds
length_retireds [] s h = omega arith
length_retireds (g ∷ gs) s h =
    let here : 1 ≤ tally (λ r. one (numbered g.link r)) s = omega (arith, h g.link, ap one (eqb_same g.link)) in
    omega (arith, one_less g.link s here, length_retireds gs (retired g.link s) (λ i. omega (arith, records_retired g.link s here i, h i)))

module _ (t : Table) (k : Good t) where
  pub stays_ends : (g : Leg) → leg_at g.link t ≡ Some g → Stays t (ends g t).table
  unfolding ends
  stays_ends g e = record {
    links = length_without (numbered g.link) t.links;
    owners = λ v. omega (arith, one_less g.link t.links (leg_record t g.link g e k), length_less (on_link g.link) t.legs g e);
    absent = λ q x. record { held = x.held; legs = all_without (λ g. IfAny (Other q) g.peer) (on_link g.link) t.legs x.legs; gates = x.gates };
  }

  -- a holder's peer is not one that is absent
  not_held : (q p : Bytes) (h : Held) → held_at p t ≡ Some h → Absent q t → Other q h.peer
  not_held q p h e x = all_find (λ h. Other q h.peer) (named p) t.held h e x.held

  not_held_as : (q p : Bytes) (h : Held) → held_at p t ≡ Some h → Absent q t → Other q p
  not_held_as q p h e x = rw (← same_sound p h.peer (find_test (named p) t.held h e)) at (not_held q p h e x)

  absent_parted : (q : Bytes) (now : ℕ) (p : Bytes) (h : Held) → held_at p t ≡ Some h → Absent q t → Elsewhere q (parted now h t)
  unfolding parted ended
  absent_parted q now p h e x = if_by (Elsewhere q) h.heard (λ z. x.gates)
      (λ z. absent_changed q (ended t.params now (Some h.epoch) h.setup) h.peer t.gates (λ m. refl) (not_held q p h e x) x.gates)

  pub stays_removed : (now : ℕ) (p : Bytes) (why : Why) (h : Held) → held_at p t ≡ Some h → Stays t (removed now p why h t).table
  unfolding removed
  stays_removed now p why h e = record {
    links = length_without (numbered h.link) t.links;
    owners = λ v. omega (arith, one_less h.link t.links (held_record t p h e k), length_less (named p) t.held h e);
    absent = λ q x. record { held = all_without (λ h. Other q h.peer) (named p) t.held x.held; legs = x.legs; gates = absent_parted q now p h e x };
  }

  pub stays_stamp : (now : ℕ) (p : Bytes) (h : Held) → held_at p t ≡ Some h → Stays t (stamp now h t)
  unfolding stamp
  stays_stamp now p h e = record {
    links = omega arith;
    owners = λ v. v;
    absent = λ q x. record {
      held = x.held;
      legs = x.legs;
      gates = if_by (Elsewhere q) h.heard (λ z. absent_changed q (stamped now) h.peer t.gates (λ m. refl) (not_held q p h e x) x.gates) (λ z. x.gates);
    };
  }

  -- the leg's peer is not one that is absent
  not_leg : (q : Bytes) (n : ℕ) (g : Leg) (p : Bytes) → leg_at n t ≡ Some g → g.peer ≡ Some p → Absent q t → Other q p
  not_leg q n g p e f x = subst (IfAny (Other q)) f (all_find (λ g. IfAny (Other q) g.peer) (on_link n) t.legs g e x.legs)

  stays_installs : (g : Leg) (h : Held) (m : List Memory) → leg_at g.link t ≡ Some g → g.peer ≡ Some h.peer
      → ((q : Bytes) → Other q h.peer → Absent q t → Elsewhere q m) → Stays t (with_gates m (installs g h t))
  stays_installs g h m e f a = record {
    links = omega (arith, length_hold g.link h.peer t.links);
    owners = λ v. omega (arith, length_hold g.link h.peer t.links, length_less (on_link g.link) t.legs g e, length_insert earlier_held h t.held);
    absent = λ q x.
        let d : Other q h.peer = not_leg q g.link g h.peer e f x in
        record {
          held = all_insert earlier_held (λ h. Other q h.peer) h t.held d x.held;
          legs = all_without (λ g. IfAny (Other q) g.peer) (on_link g.link) t.legs x.legs;
          gates = a q d x;
        };
  }

  pub stays_promote : (now : ℕ) (p : Bytes) (a : Answered) (g : Leg) (r : LinkRec) → leg_at g.link t ≡ Some g → g.peer ≡ Some p
      → Stays t (promote now p a g r t).table
  unfolding promote promoted
  stays_promote now p a g r e f = stays_installs g _ _ e f (λ q d x. absent_changed q (promoted t.params now a.ephemeral) p t.gates (λ m. refl) d x.gates)

  pub stays_dialed : (now : ℕ) (p : Bytes) (g : Leg) (epoch : ℕ) (from : Pair) (how : Transition) → leg_at g.link t ≡ Some g → g.peer ≡ Some p
      → Stays t (dialed now p g epoch from how t).table
  unfolding dialed
  stays_dialed now p g epoch from how e f = stays_installs g _ t.gates e f (λ q d x. x.gates)

  pub stays_moveto : (p : Bytes) (g : Leg) (h : Held) (from : Pair) → leg_at g.link t ≡ Some g → held_at p t ≡ Some h → Stays t (moveto p g h from t).table
  unfolding moveto
  stays_moveto p g h from e w =
      let s : List LinkRec = hold g.link (APeer p) t.links in
      let r : 1 ≤ tally (λ r. one (numbered h.link r)) s = rw (records_hold g.link (APeer p) t.links h.link) (held_record t p h w k) in
      let same_length = length_hold g.link p t.links in
      record {
        links = omega (arith, same_length, length_without (numbered h.link) s);
        owners = λ v. omega (arith, one_less h.link s r, same_length, length_less (on_link g.link) t.legs g e, length_alter (named p) (moved_to g.link from) t.held);
        absent = λ q x. record {
          held = all_alter (λ h. Other q h.peer) (named p) (moved_to g.link from) t.held (λ h d. d) x.held;
          legs = all_without (λ g. IfAny (Other q) g.peer) (on_link g.link) t.legs x.legs;
          gates = x.gates;
        };
      }

  pub stays_legs : (test : Leg → Bool) (f : Leg → Leg) → ((g : Leg) → (f g).peer ≡ g.peer) → Stays t (with_legs (alter test f t.legs) t)
  stays_legs test f a = record {
    links = omega arith;
    owners = λ v. omega (arith, length_alter test f t.legs);
    absent = λ q x. record { held = x.held; legs = all_alter (λ g. IfAny (Other q) g.peer) test f t.legs (λ g d. rw (a g) d) x.legs; gates = x.gates };
  }

  stays_held : (test : Held → Bool) (f : Held → Held) (m : List Memory) → ((h : Held) → (f h).peer ≡ h.peer) → ((q : Bytes) → Absent q t → Elsewhere q m)
      → Stays t (with_gates m (with_held (alter test f t.held) t))
  stays_held test f m a b = record {
    links = omega arith;
    owners = λ v. omega (arith, length_alter test f t.held);
    absent = λ q x. record { held = all_alter (λ h. Other q h.peer) test f t.held (λ h d. rw (a h) d) x.held; legs = x.legs; gates = b q x };
  }

  stays_here : Stays t t
  stays_here = record { links = omega arith; owners = λ v. v; absent = λ q x. x }

  pub stays_restarted : (p : Bytes) (epoch : ℕ) → Stays t (restarted p epoch t).table
  unfolding restarted
  stays_restarted p epoch = option_by (λ (s : Step). Stays t s.table) (held_at p t) (λ e. stays_here) (λ h e. stays_held (named p) (with_epoch epoch) t.gates (λ j. refl) (λ q x. x.gates))

  pub stays_heard : (now : ℕ) (p : Bytes) (from : Pair) → Stays t (heard now p from t).table
  unfolding heard clear
  stays_heard now p from = option_by (λ (s : Step). Stays t s.table) (held_at p t) (λ e. stays_here)
      (λ h e. stays_held (named p) (heard_from now from) _ (λ j. refl) (λ q x. absent_changed q clear p t.gates (λ m. refl) (not_held_as q p h e x) x.gates))

  stays_links : (test : LinkRec → Bool) (f : LinkRec → LinkRec) → Stays t (with_links (alter test f t.links) t)
  stays_links test f = record {
    links = omega (arith, length_alter test f t.links);
    owners = λ v. omega (arith, length_alter test f t.links);
    absent = λ q x. record { held = x.held; legs = x.legs; gates = x.gates };
  }

  pub stays_path : (n : ℕ) (p : Pair) (v : Proven) → Stays t (with_links (path n p v t.links) t)
  unfolding path
  stays_path n p v = stays_links (numbered n) (with_path p v)

  pub stays_release : (n : ℕ) (p : Pair) → Stays t (with_links (released n p t.links) t)
  unfolding released
  stays_release n p = stays_links (numbered n) (without_path p)

  pub stays_close_legs : Stays t (close_legs t).table
  unfolding close_legs
  stays_close_legs =
      let fewer = length_retireds t.legs t.links (λ i. omega (arith, k.owned.one_owner i)) in
      record { links = omega (arith, fewer); owners = λ v. omega (arith, fewer); absent = λ q x. record { held = x.held; legs = tt; gates = x.gates } }

-- a holder goes, and an answer to its peer comes
pub stays_displaced : (t : Table) → Good t → (now : ℕ) (s : Source) (x : Hello) (h : Held) → held_at x.peer t ≡ Some h
    → Stays t (answer now x true (removed now x.peer (displaces s) h (stamp now h t)).table).table
unfolding stamp removed answer answer_leg
stays_displaced t k now s x h e =
    let a = stays_stamp t k now x.peer h e in
    let b = stays_removed (stamp now h t) (good_stamp now h t k) now x.peer (displaces s) h e in
    let r : LinkRec = opened t.next x.from Inbound in
    let g : Leg = answer_leg t.params now t.next x true in
    let more = length_snoc (retired h.link t.links) r in
    record {
      links = omega (arith, more, one_less h.link t.links (held_record t x.peer h e k));
      owners = λ v. omega (arith, more, length_snoc t.legs g, b.owners (a.owners v));
      absent = λ q y.
          let z = b.absent q (a.absent q y) in
          record { held = z.held; legs = all_append (λ g. IfAny (Other q) g.peer) t.legs (g ∷ []) z.legs (not_held_as t k q x.peer h e y, tt); gates = z.gates };
    }

-- ---- the limits

-- a memory has a place, and each its own
distinct_keys : (s : List Memory) → Ascending earlier_memory s → length (distinct (map (λ m. m.peer) s)) ≡ length s
unfolding distinct
distinct_keys [] h = refl
distinct_keys (m ∷ s) h =
    let others = all_map (λ k. before m.peer k.peer ≡ true) (λ k. Other m.peer k.peer) (λ k. before_apart m.peer k.peer) s h.0 in
    let apart : any (same m.peer) (map (λ k. k.peer) s) ≡ false = any_none (same m.peer) (map (λ k. k.peer) s) (all_mapped (λ k. k.peer) (Other m.peer) s others) in
    rw apart (omega (arith, distinct_keys s h.1))

any_right : {A : Type 0} (test : A → Bool) (s u : List A) → any test u ≡ true → any test (s ++ u) ≡ true
any_right test [] u e = e
any_right test (a ∷ s) u e = or_true_right (test a) (any test (s ++ u)) (any_right test s u e)

pub gates_placed : (t : Table) → Ordered t → length t.gates ≤ length (places t)
unfolding places
gates_placed t k =
    let rest : List Bytes = map (λ h. h.peer) t.held ++ leg_peers t.legs in
    let own : List Bytes = map (λ m. m.peer) t.gates in
    omega (arith, distinct_keys t.gates k.gates, within_length own (named_peers t) (λ q e. any_right (same q) rest own e))

any_distinct : (p : Bytes) (s : List Bytes) → any (same p) (distinct s) ≡ any (same p) s
unfolding distinct
any_distinct p [] = refl
any_distinct p (b ∷ s) = go (any (same b) s) refl (same p b) refl (any_distinct p s)
  where
    go : (x : Bool) → any (same b) s ≡ x → (y : Bool) → same p b ≡ y → any (same p) (distinct s) ≡ any (same p) s
        → any (same p) (if x then distinct s else b ∷ distinct s) ≡ y || any (same p) s
    go true e true f ih = cc (same_sound p b f)
    go true e false f ih = ih
    go false e true f ih = rw f
    go false e false f ih = rw f ih

module _ (t : Table) (k : Limits t) where
  pub limits_stays : (u : Table) → Ordered u → Stays t u → Limits u
  unfolding places
  limits_stays u o s =
      let fewer : length (places u) ≤ length (places t) = within_length (named_peers u) (named_peers t) (within t u s.absent) in
      record { links = omega (arith, s.links, k.links); owners = s.owners k.owners; places = omega (arith, k.places); gates = omega (arith, k.places, gates_placed u o) }

  -- room for one more
  pub limits_joined : (r : LinkRec) (g : Leg) (p : Bytes) → Ordered (joined r g t) → g.peer ≡ Some p → leb 32 (length t.links) ≡ false
      → not (any (same p) (places t)) && leb 32 (length (places t)) ≡ false → Limits (joined r g t)
  unfolding places distinct
  limits_joined r g p o a b c = let fit = fits in record {
    links = omega (arith, length_snoc t.links r, leb-false 32 (length t.links) b);
    owners = omega (arith, length_snoc t.links r, length_snoc t.legs g, k.owners);
    places = fit;
    gates = omega (arith, gates_placed (joined r g t) o);
  }
    where
      grown : length (distinct (p ∷ named_peers t)) ≤ 32
      grown = go (any (same p) (named_peers t)) (rw (any_distinct p (named_peers t)) at c)
        where
          go : (x : Bool) → not x && leb 32 (length (distinct (named_peers t))) ≡ false → length (if x then distinct (named_peers t) else p ∷ distinct (named_peers t)) ≤ 32
          go true h = k.places
          go false h = omega (arith, leb-false 32 (length (distinct (named_peers t))) h)

      fits : length (distinct (named_peers (joined r g t))) ≤ 32
      fits = omega (
        arith,
        grown,
        within_length (named_peers (joined r g t)) (p ∷ named_peers t) (within_one p t (joined r g t) (λ q d x. record {
          held = x.held;
          legs = all_append (λ g. IfAny (Other q) g.peer) t.legs (g ∷ []) x.legs (subst (IfAny (Other q)) (sym a) d, tt);
          gates = x.gates;
        })),
      )

-- ---- room for one more memory: of a peer that has a place, but no memory

module _ (t : Table) (p : Bytes) where
  placed : (Absent p t → Other p p) → any (same p) (named_peers t) ≡ true
  placed f = go (any (same p) (named_peers t)) refl
    where
      go : (b : Bool) → any (same p) (named_peers t) ≡ b → any (same p) (named_peers t) ≡ true
      go true e = e
      go false e = contra (sym (same_refl p) ∙ f (absent_of p t e))

  abbrev own : List Bytes
  own = map (λ m. m.peer) t.gates

  free : Ordered t → any (same p) (named_peers t) ≡ true → Elsewhere p t.gates → length t.gates + 1 ≤ length (places t)
  unfolding places distinct
  free k h e =
      let alone : any (same p) own ≡ false = any_none (same p) own (all_mapped (λ m. m.peer) (Other p) t.gates e) in
      let size : length (distinct (p ∷ own)) ≡ length t.gates + 1 = rw alone (omega (arith, distinct_keys t.gates k.gates)) in
      omega (arith, size, within_length (p ∷ own) (named_peers t) (λ q x. go q (same q p) refl x))
    where
      go : (q : Bytes) (b : Bool) → same q p ≡ b → b || any (same q) own ≡ true → any (same q) (named_peers t) ≡ true
      go q true d x = rw (same_sound q p d) h
      go q false d x = any_right (same q) (map (λ h. h.peer) t.held ++ leg_peers t.legs) own x

  module _ (g : Good t) (k : Ordered t) (l : Limits t) where
    pub room_held : (h : Held) → held_at p t ≡ Some h → Elsewhere p t.gates → length t.gates < 32
    room_held h e x = omega (arith, l.places, free k (placed (not_held_as t g p p h e)) x)

    pub room_leg : (n : ℕ) (j : Leg) → leg_at n t ≡ Some j → j.peer ≡ Some p → Elsewhere p t.gates → length t.gates < 32
    room_leg n j e f x = omega (arith, l.places, free k (placed (not_leg t g p n j p e f)) x)
