-- Lists that lose, gain or change one element: their lengths, what holds of each element, and their order; then the order of every map.
use Rattle.std.specs.Prelude.{if◌then◌else◌, None, Some}
use mathlib.Core.Path.{◌≡◌, refl, sym, ap, subst}
use mathlib.Core.Bool.{Bool, true, false, ◌&&◌}
use mathlib.Core.List.{List, [], ◌∷◌, ◌++◌, map}
use Prim.Native.Nat.{ℕ, suc, ◌+◌, ◌≤◌, ◌<◌}
use native.Mathlib.Omega.{arith}
use borrow.Author.Tests.{ltb-true, ltb-false, eqb-false, lt-ltb}
use lib.Dec.{T, eqb, ltb}
use lib.ListN.{length}
use Rattle.rules.specs.Base.{Bytes, same, find, without, alter, keep, tally, one, All}
use Rattle.rules.specs.Std.{before, Ascending, insert}
use Rattle.rules.specs.Data.{Pair, APeer, Proven, LinkRec, Answered, Leg, Held, Memory, Table, Step, Why, Transition}
use Rattle.rules.specs.Links.{numbered, held_by, hold, with_path, path, retired, without_path, released}
use Rattle.rules.specs.Legs.{on_link}
use Rattle.rules.specs.Gates.{remembers, memory_of, earlier_memory, store}
use Rattle.rules.specs.Settle.{with_links, with_legs, with_held, with_gates, joined, held_at, named, earlier_held, installs, ends, parted, removed, stamp, promote, dialed, moved_to, moveto, with_epoch, restarted, heard_from, heard, retireds, close_legs}
use Rattle.rules.specs.Bounds.{earlier_link, earlier_leg, Ordered}
use Rattle.rules.proofs.Lists.{if_by, option_by, eqb_sound, eqb_same, all_append, all_map}
use Rattle.rules.proofs.Good.{Good}
use Rattle.rules.proofs.Peers.{same_sound}

-- the two tests cannot be one
pub contra : {A : Type 0} → ◌≡◌ {A = Bool} true false → A
contra e = absurd (subst T e tt)

-- ---- lists of any element

module _ {A : Type 0} where
  pub all_find : (P : A → Type 0) (test : A → Bool) (s : List A) (a : A) → find test s ≡ Some a → All P s → P a
  all_find P test [] a e p = contra (cc)
  all_find P test (b ∷ s) a e p = go (test b) e (λ h. all_find P test s a h p.1)
    where
      go : (c : Bool) → (if c then Some b else find test s) ≡ Some a → (find test s ≡ Some a → P a) → P a
      go true h ih = let f : b ≡ a = cc in subst P f p.0
      go false h ih = ih h

  pub all_without : (P : A → Type 0) (test : A → Bool) (s : List A) → All P s → All P (without test s)
  all_without P test [] p = tt
  all_without P test (b ∷ s) p = if_by (All P) (test b) (λ e. p.1) (λ e. (p.0, all_without P test s p.1))

  pub all_kept : (P : A → Type 0) (test : A → Bool) (s : List A) → All P s → All P (keep test s)
  all_kept P test [] p = tt
  all_kept P test (b ∷ s) p = if_by (All P) (test b) (λ e. (p.0, all_kept P test s p.1)) (λ e. all_kept P test s p.1)

  -- the first that passes is changed
  pub all_alter_found : (P : A → Type 0) (test : A → Bool) (f : A → A) (s : List A) → ((a : A) → find test s ≡ Some a → P a → P (f a)) → All P s → All P (alter test f s)
  all_alter_found P test f [] k p = tt
  all_alter_found P test f (b ∷ s) k p = go (test b) k (λ h. all_alter_found P test f s h p.1)
    where
      go : (c : Bool) → ((a : A) → (if c then Some b else find test s) ≡ Some a → P a → P (f a))
          → (((a : A) → find test s ≡ Some a → P a → P (f a)) → All P (alter test f s)) → All P (if c then f b ∷ s else b ∷ alter test f s)
      go true h ih = (h b refl p.0, p.1)
      go false h ih = (p.0, ih h)

  pub all_alter : (P : A → Type 0) (test : A → Bool) (f : A → A) (s : List A) → ((a : A) → P a → P (f a)) → All P s → All P (alter test f s)
  all_alter P test f s k p = all_alter_found P test f s (λ a e. k a) p

  pub all_mapped : {B : Type 0} (f : A → B) (P : B → Type 0) (s : List A) → All (λ a. P (f a)) s → All P (map f s)
  all_mapped f P [] p = tt
  all_mapped f P (a ∷ s) p = (p.0, all_mapped f P s p.1)

  pub length_without : (test : A → Bool) (s : List A) → length (without test s) ≤ length s
  length_without test [] = omega arith
  length_without test (a ∷ s) = if_by (λ (u : List A). length u ≤ suc (length s)) (test a) (λ e. omega arith) (λ e. omega (arith, length_without test s))

  pub length_less : (test : A → Bool) (s : List A) (a : A) → find test s ≡ Some a → length (without test s) + 1 ≡ length s
  length_less test [] a e = cc
  length_less test (b ∷ s) a e = go (test b) e (λ h. length_less test s a h)
    where
      go : (c : Bool) → (if c then Some b else find test s) ≡ Some a → (find test s ≡ Some a → length (without test s) + 1 ≡ length s)
          → length (if c then s else b ∷ without test s) + 1 ≡ suc (length s)
      go true h ih = omega arith
      go false h ih = omega (arith, ih h)

  pub length_alter : (test : A → Bool) (f : A → A) (s : List A) → length (alter test f s) ≡ length s
  length_alter test f [] = refl
  length_alter test f (a ∷ s) = if_by (λ (u : List A). length u ≡ suc (length s)) (test a) (λ e. refl) (λ e. omega (arith, length_alter test f s))

  pub length_keep : (test : A → Bool) (s : List A) → length (keep test s) ≤ length s
  length_keep test [] = omega arith
  length_keep test (a ∷ s) = if_by (λ (u : List A). length u ≤ suc (length s)) (test a) (λ e. omega (arith, length_keep test s)) (λ e. omega (arith, length_keep test s))

  pub length_snoc : (s : List A) (a : A) → length (s ++ (a ∷ [])) ≡ length s + 1
  length_snoc [] a = refl
  length_snoc (b ∷ s) a = omega (arith, length_snoc s a)

  pub find_none : (test : A → Bool) (s : List A) → find test s ≡ None → All (λ a. test a ≡ false) s
  find_none test [] e = tt
  find_none test (a ∷ s) e = go (test a) refl e (λ h. find_none test s h)
    where
      go : (c : Bool) → test a ≡ c → (if c then Some a else find test s) ≡ None → (find test s ≡ None → All (λ b. test b ≡ false) s)
          → (test a ≡ false) × All (λ b. test b ≡ false) s
      go true x h ih = contra (cc)
      go false x h ih = (x, ih h)

  -- ---- in ascending order

  module _ (less : A → A → Bool) where
    pub all_insert : (P : A → Type 0) (a : A) (s : List A) → P a → All P s → All P (insert less a s)
    unfolding insert
    all_insert P a [] x p = (x, tt)
    all_insert P a (b ∷ s) x p = if_by (All P) (less a b) (λ e. (x, p)) (λ e. (p.0, all_insert P a s x p.1))

    pub length_insert : (a : A) (s : List A) → length (insert less a s) ≡ length s + 1
    unfolding insert
    length_insert a [] = refl
    length_insert a (b ∷ s) = if_by (λ (u : List A). length u ≡ suc (length s) + 1) (less a b) (λ e. omega arith) (λ e. omega (arith, length_insert a s))

    pub ascending_without : (test : A → Bool) (s : List A) → Ascending less s → Ascending less (without test s)
    ascending_without test [] p = tt
    ascending_without test (b ∷ s) p = if_by (Ascending less) (test b) (λ e. p.1) (λ e. (all_without (λ c. less b c ≡ true) test s p.0, ascending_without test s p.1))

    pub ascending_append : (a : A) (s : List A) → All (λ b. less b a ≡ true) s → Ascending less s → Ascending less (s ++ (a ∷ []))
    ascending_append a [] h p = (tt, tt)
    ascending_append a (b ∷ s) h p = (last s h.0 p.0, ascending_append a s h.1 p.1)
      where
        last : (u : List A) → less b a ≡ true → All (λ c. less b c ≡ true) u → All (λ c. less b c ≡ true) (u ++ (a ∷ []))
        last [] e q = (e, tt)
        last (c ∷ u) e q = (q.0, last u e q.1)

    -- a change that leaves the place
    pub ascending_alter : (test : A → Bool) (f : A → A) (s : List A) → ((a b : A) → less a b ≡ true → less (f a) b ≡ true)
        → ((a b : A) → less b a ≡ true → less b (f a) ≡ true)
        → Ascending less s → Ascending less (alter test f s)
    ascending_alter test f [] k l p = tt
    ascending_alter test f (b ∷ s) k l p = if_by (Ascending less) (test b) (λ e. (each s p.0, p.1))
        (λ e. (all_alter (λ c. less b c ≡ true) test f s (λ a. l a b) p.0, ascending_alter test f s k l p.1))
      where
        each : (u : List A) → All (λ c. less b c ≡ true) u → All (λ c. less (f b) c ≡ true) u
        each [] q = tt
        each (c ∷ u) q = (k b c q.0, each u q.1)

    -- a new key takes its place
    pub ascending_insert : ((a b c : A) → less a b ≡ true → less b c ≡ true → less a c ≡ true) → (a : A) (s : List A) → All (λ b. less a b ≡ false → less b a ≡ true) s
        → Ascending less s → Ascending less (insert less a s)
    unfolding insert
    ascending_insert trans a [] h p = (tt, tt)
    ascending_insert trans a (b ∷ s) h p = if_by (Ascending less) (less a b) (λ e. ((e, each s e p.0), p))
        (λ e. (all_insert (λ c. less b c ≡ true) a s (h.0 e) p.0, ascending_insert trans a s h.1 p.1))
      where
        each : (u : List A) → less a b ≡ true → All (λ c. less b c ≡ true) u → All (λ c. less a c ≡ true) u
        each [] e q = tt
        each (c ∷ u) e q = (trans a b c e q.0, each u e q.1)

-- ---- the order of bytes

pub before_trans : (a b c : Bytes) → before a b ≡ true → before b c ≡ true → before a c ≡ true
before_trans [] [] c e f = cc
before_trans [] (y ∷ b) [] e f = cc
before_trans [] (y ∷ b) (z ∷ c) e f = refl
before_trans (x ∷ a) [] c e f = cc
before_trans (x ∷ a) (y ∷ b) [] e f = cc
before_trans (x ∷ a) (y ∷ b) (z ∷ c) e f = go (eqb x y) refl (eqb y z) refl (before_trans a b c) e f
  where
    go : (i : Bool) → eqb x y ≡ i → (j : Bool) → eqb y z ≡ j → (before a b ≡ true → before b c ≡ true → before a c ≡ true)
        → (if i then before a b else ltb x y) ≡ true → (if j then before b c else ltb y z) ≡ true → (if eqb x z then before a c else ltb x z) ≡ true
    go true p true q ih e f = let same : x ≡ z = cc (eqb_sound x y p, eqb_sound y z q) in rw (same, eqb_same z) (ih e f)
    go true p false q ih e f = let same : x ≡ y = eqb_sound x y p in rw (same, q) f
    go false p true q ih e f = let same : y ≡ z = eqb_sound y z q in rw (← same, p) e
    go false p false q ih e f = apart (eqb x z) refl
      where
        apart : (k : Bool) → eqb x z ≡ k → (if k then before a c else ltb x z) ≡ true
        apart true r = absurd (omega (arith, ltb-true x y e, ltb-true y z f, eqb_sound x z r))
        apart false r = lt-ltb x z (omega (arith, ltb-true x y e, ltb-true y z f))

pub before_other : (a b : Bytes) → same a b ≡ false → before a b ≡ false → before b a ≡ true
before_other [] [] d e = cc
before_other [] (y ∷ b) d e = cc
before_other (x ∷ a) [] d e = refl
before_other (x ∷ a) (y ∷ b) d e = go (eqb x y) refl (before_other a b) d e
  where
    go : (i : Bool) → eqb x y ≡ i → (same a b ≡ false → before a b ≡ false → before b a ≡ true) → i && same a b ≡ false
        → (if i then before a b else ltb x y) ≡ false → (if eqb y x then before b a else ltb y x) ≡ true
    go true p ih d e = let z : y ≡ x = cc (eqb_sound x y p) in rw (z, eqb_same x) (ih d e)
    go false p ih d e = apart (eqb y x) refl
      where
        apart : (k : Bool) → eqb y x ≡ k → (if k then before b a else ltb y x) ≡ true
        apart true r = absurd (eqb-false x y p (sym (eqb_sound y x r)))
        apart false r = lt-ltb y x (omega (arith, ltb-false x y e, eqb-false x y p))

pub before_apart : (a b : Bytes) → before a b ≡ true → same a b ≡ false
before_apart [] [] e = cc
before_apart [] (y ∷ b) e = refl
before_apart (x ∷ a) [] e = refl
before_apart (x ∷ a) (y ∷ b) e = go (eqb x y) (before_apart a b) e
  where
    go : (i : Bool) → (before a b ≡ true → same a b ≡ false) → (if i then before a b else ltb x y) ≡ true → i && same a b ≡ false
    go true ih e = ih e
    go false ih e = refl

-- elements in ascending order of a key of bytes
module _ {A : Type 0} (key : A → Bytes) where
  -- a key that goes is gone
  pub key_gone : (p : Bytes) (s : List A) → Ascending (λ a b. before (key a) (key b)) s → All (λ b. same p (key b) ≡ false) (without (λ a. same p (key a)) s)
  key_gone p [] h = tt
  key_gone p (a ∷ s) h = go (same p (key a)) refl (key_gone p s h.1)
    where
      others : (u : List A) → p ≡ key a → All (λ b. before (key a) (key b) ≡ true) u → All (λ b. same p (key b) ≡ false) u
      others [] e q = tt
      others (b ∷ u) e q = (rw e (before_apart (key a) (key b) q.0), others u e q.1)

      go : (c : Bool) → same p (key a) ≡ c → All (λ b. same p (key b) ≡ false) (without (λ a. same p (key a)) s)
          → All (λ b. same p (key b) ≡ false) (if c then s else a ∷ without (λ a. same p (key a)) s)
      go true e ih = others s (same_sound p (key a) e) h.0
      go false e ih = (e, ih)

  pub key_insert : (a : A) (s : List A) → All (λ b. same (key a) (key b) ≡ false) s → Ascending (λ a b. before (key a) (key b)) s
      → Ascending (λ a b. before (key a) (key b)) (insert (λ a b. before (key a) (key b)) a s)
  key_insert a s n h = ascending_insert (λ a b. before (key a) (key b)) (λ x y z. before_trans (key x) (key y) (key z)) a s (others s n) h
    where
      others : (u : List A) → All (λ b. same (key a) (key b) ≡ false) u → All (λ b. before (key a) (key b) ≡ false → before (key b) (key a) ≡ true) u
      others [] q = tt
      others (b ∷ u) q = (before_other (key a) (key b) q.0, others u q.1)

-- ---- the table

-- a memory that remembers something is stored, another is dropped
pub store_by : (P : List Memory → Type 0) (m : Memory) (g : List Memory) → (remembers m ≡ true → P (insert earlier_memory m (without (memory_of m.peer) g)))
    → P (without (memory_of m.peer) g) → P (store m g)
unfolding store
store_by P m g f x = if_by P (remembers m) f (λ e. x)

store_ordered : (m : Memory) (g : List Memory) → Ascending earlier_memory g → Ascending earlier_memory (store m g)
store_ordered m g h =
    let rest = ascending_without earlier_memory (memory_of m.peer) g h in
    store_by (Ascending earlier_memory) m g (λ e. key_insert (λ k. k.peer) m (without (memory_of m.peer) g) (key_gone (λ k. k.peer) m.peer g h) rest) rest

retireds_ordered : (ns : List ℕ) (s : List LinkRec) → Ascending earlier_link s → Ascending earlier_link (retireds ns s)
unfolding retireds
retireds_ordered [] s h = h
retireds_ordered (n ∷ ns) s h = retireds_ordered ns (retired n s) (ascending_without earlier_link (numbered n) s h)

pub all_retireds : (P : LinkRec → Type 0) (ns : List ℕ) (s : List LinkRec) → All P s → All P (retireds ns s)
unfolding retireds
all_retireds P [] s h = h
all_retireds P (n ∷ ns) s h = all_retireds P ns (retired n s) (all_without P (numbered n) s h)

-- legs have live links, so theirs are below next too
legs_below : (n : ℕ) (s : List Leg) → ((m : ℕ) → n ≤ m → tally (λ g. one (on_link m g)) s ≡ 0) → All (λ g. g.link < n) s
legs_below n [] h = tt
legs_below n (g ∷ s) h = (go (ltb g.link n) refl, legs_below n s (λ m l. omega (arith, h m l)))
  where
    go : (b : Bool) → ltb g.link n ≡ b → g.link < n
    go true e = ltb-true g.link n e
    go false e = absurd (omega (arith, h g.link (ltb-false g.link n e), ap one (eqb_same g.link)))

module _ (t : Table) (k : Ordered t) where
  pub ordered_joined : (r : LinkRec) (g : Leg) → r.no ≡ t.next → g.link ≡ t.next → Good t → Ordered (joined r g t)
  ordered_joined r g a b v =
      let low = all_map (λ q. q.no < t.next) (λ q. earlier_link q r ≡ true) (λ q l. lt-ltb q.no r.no (omega arith)) t.links k.below in
      let up = all_map (λ q. q.no < t.next) (λ q. q.no < t.next + 1) (λ q l. omega arith) t.links k.below in
      let bound = legs_below t.next t.legs (λ m l. omega (arith, v.below m l, v.owned.one_owner m)) in
      let owned = all_map (λ q. q.link < t.next) (λ q. earlier_leg q g ≡ true) (λ q l. lt-ltb q.link g.link (omega arith)) t.legs bound in
      record {
        links = ascending_append earlier_link r t.links low k.links;
        legs = ascending_append earlier_leg g t.legs owned k.legs;
        held = k.held;
        gates = k.gates;
        below = all_append (λ q. q.no < t.next + 1) t.links (r ∷ []) up (omega arith, tt);
      }

  pub ordered_ends : (g : Leg) → Ordered (ends g t).table
  unfolding ends
  ordered_ends g = record {
    links = ascending_without earlier_link (numbered g.link) t.links k.links;
    legs = ascending_without earlier_leg (on_link g.link) t.legs k.legs;
    held = k.held;
    gates = k.gates;
    below = all_without (λ r. r.no < t.next) (numbered g.link) t.links k.below;
  }

  pub ordered_removed : (now : ℕ) (p : Bytes) (why : Why) (h : Held) → Ordered (removed now p why h t).table
  unfolding removed parted
  ordered_removed now p why h = record {
    links = ascending_without earlier_link (numbered h.link) t.links k.links;
    legs = k.legs;
    held = ascending_without earlier_held (named p) t.held k.held;
    gates = if_by (Ascending earlier_memory) h.heard (λ e. k.gates) (λ e. store_ordered _ t.gates k.gates);
    below = all_without (λ r. r.no < t.next) (numbered h.link) t.links k.below;
  }

  -- a peer that was held is held no more
  pub removed_gone : (now : ℕ) (p : Bytes) (why : Why) (h : Held) → All (λ j. same p j.peer ≡ false) (removed now p why h t).table.held
  unfolding removed
  removed_gone now p why h = key_gone (λ j. j.peer) p t.held k.held

  ordered_gates : (s : List Memory) → Ascending earlier_memory s → Ordered (with_gates s t)
  ordered_gates s h = record { links = k.links; legs = k.legs; held = k.held; gates = h; below = k.below }

  pub ordered_stamp : (now : ℕ) (h : Held) → Ordered (stamp now h t)
  unfolding stamp
  ordered_stamp now h = ordered_gates _ (if_by (Ascending earlier_memory) h.heard (λ e. store_ordered _ t.gates k.gates) (λ e. k.gates))

  ordered_links : (test : LinkRec → Bool) (f : LinkRec → LinkRec) → ((r : LinkRec) → (f r).no ≡ r.no) → Ordered (with_links (alter test f t.links) t)
  ordered_links test f e = record {
    links = ascending_alter earlier_link test f t.links (λ a b h. rw (e a) h) (λ a b h. rw (e a) h) k.links;
    legs = k.legs;
    held = k.held;
    gates = k.gates;
    below = all_alter (λ r. r.no < t.next) test f t.links (λ a h. rw (e a) h) k.below;
  }

  pub ordered_hold : (n : ℕ) (p : Bytes) → Ordered (with_links (hold n (APeer p) t.links) t)
  unfolding hold
  ordered_hold n p = ordered_links (numbered n) (held_by (APeer p)) (λ r. refl)

  pub ordered_path : (n : ℕ) (p : Pair) (v : Proven) → Ordered (with_links (path n p v t.links) t)
  unfolding path
  ordered_path n p v = ordered_links (numbered n) (with_path p v) (λ r. refl)

  pub ordered_release : (n : ℕ) (p : Pair) → Ordered (with_links (released n p t.links) t)
  unfolding released
  ordered_release n p = ordered_links (numbered n) (without_path p) (λ r. refl)

  pub ordered_legs : (test : Leg → Bool) (f : Leg → Leg) → ((g : Leg) → (f g).link ≡ g.link) → Ordered (with_legs (alter test f t.legs) t)
  ordered_legs test f e = record {
    links = k.links;
    legs = ascending_alter earlier_leg test f t.legs (λ a b h. rw (e a) h) (λ a b h. rw (e a) h) k.legs;
    held = k.held;
    gates = k.gates;
    below = k.below;
  }

  ordered_held : (test : Held → Bool) (f : Held → Held) (m : List Memory) → ((h : Held) → (f h).peer ≡ h.peer) → Ascending earlier_memory m
      → Ordered (with_gates m (with_held (alter test f t.held) t))
  ordered_held test f m e x = record {
    links = k.links;
    legs = k.legs;
    held = ascending_alter earlier_held test f t.held (λ a b h. rw (e a) h) (λ a b h. rw (e a) h) k.held;
    gates = x;
    below = k.below;
  }

  pub ordered_restarted : (p : Bytes) (epoch : ℕ) → Ordered (restarted p epoch t).table
  unfolding restarted
  ordered_restarted p epoch = option_by (λ (s : Step). Ordered s.table) (held_at p t) (λ e. k) (λ h e. ordered_held (named p) (with_epoch epoch) t.gates (λ j. refl) k.gates)

  pub ordered_heard : (now : ℕ) (p : Bytes) (from : Pair) → Ordered (heard now p from t).table
  unfolding heard
  ordered_heard now p from = option_by (λ (s : Step). Ordered s.table) (held_at p t) (λ e. k) (λ h e. ordered_held (named p) (heard_from now from) _ (λ j. refl) (store_ordered _ t.gates k.gates))

  ordered_installs : (g : Leg) (h : Held) (m : List Memory) → All (λ j. same h.peer j.peer ≡ false) t.held → Ascending earlier_memory m
      → Ordered (with_gates m (installs g h t))
  ordered_installs g h m n x =
      let y = ordered_hold g.link h.peer in
      record {
        links = y.links;
        legs = ascending_without earlier_leg (on_link g.link) t.legs k.legs;
        held = key_insert (λ j. j.peer) h t.held n k.held;
        gates = x;
        below = y.below;
      }

  pub ordered_promote : (now : ℕ) (p : Bytes) (a : Answered) (g : Leg) (r : LinkRec) → All (λ j. same p j.peer ≡ false) t.held
      → Ordered (promote now p a g r t).table
  unfolding promote
  ordered_promote now p a g r n = ordered_installs g _ _ n (store_ordered _ t.gates k.gates)

  pub ordered_dialed : (now : ℕ) (p : Bytes) (g : Leg) (epoch : ℕ) (from : Pair) (how : Transition) → All (λ j. same p j.peer ≡ false) t.held
      → Ordered (dialed now p g epoch from how t).table
  unfolding dialed
  ordered_dialed now p g epoch from how n = ordered_installs g _ t.gates n k.gates

  pub ordered_moveto : (p : Bytes) (g : Leg) (h : Held) (from : Pair) → Ordered (moveto p g h from t).table
  unfolding moveto
  ordered_moveto p g h from =
      let s : List LinkRec = hold g.link (APeer p) t.links in
      let y = ordered_hold g.link p in
      record {
        links = ascending_without earlier_link (numbered h.link) s y.links;
        legs = ascending_without earlier_leg (on_link g.link) t.legs k.legs;
        held = ascending_alter earlier_held (named p) (moved_to g.link from) t.held (λ a b e. e) (λ a b e. e) k.held;
        gates = k.gates;
        below = all_without (λ r. r.no < t.next) (numbered h.link) s y.below;
      }

  pub ordered_close_legs : Ordered (close_legs t).table
  unfolding close_legs
  ordered_close_legs = record {
    links = retireds_ordered _ t.links k.links;
    legs = tt;
    held = k.held;
    gates = k.gates;
    below = all_retireds (λ r. r.no < t.next) _ t.links k.below;
  }
