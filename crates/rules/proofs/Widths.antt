-- Every number and every row of bytes of the table stays within its width: what each kind of change keeps.
use Rattle.std.specs.Prelude.{if◌then◌else◌, None, Option, Some}
use mathlib.Core.Path.{◌≡◌, subst}
use mathlib.Core.Bool.{Bool, true, false, not, ◌&&◌}
use mathlib.Core.List.{List, [], ◌∷◌, ◌++◌}
use Prim.Native.Nat.{ℕ, ◌+◌, ◌^◌, ◌≤◌, ◌<◌}
use native.Mathlib.Omega.{arith}
use borrow.Author.Tests.{leb-false}
use lib.Dec.{leb, ltb}
use lib.ListN.{length}
use Rattle.rules.specs.Base.{Bytes, alter, any, All}
use Rattle.rules.specs.Std.{saturating_add}
use Rattle.rules.specs.Time.{Params}
use Rattle.rules.specs.Data.{Pair, Dir, APeer, Proven, PathRec, LinkRec, Answered, Kind, Leg, Held, Memory, Table, Hello, Why, Transition, Inbound, Outbound}
use Rattle.rules.specs.Links.{numbered, path_at, opened, held_by, hold, set_path, with_path, path, without_path, released}
use Rattle.rules.specs.Legs.{on_link, answered, sent_kind, unsent_kind, dial_leg, answer_leg, resent, mark_sent, mark_unsent}
use Rattle.rules.specs.Gates.{memory, store, clear}
use Rattle.rules.specs.Settle.{with_links, with_legs, with_held, with_gates, joined, leg_at, link_at, held_at, named, earlier_held, installs, dial, ends, parted, removed, answer, stamp, promote, dialed, moved_to, moveto, with_epoch, heard_from, heard, close_legs, crowded}
use Rattle.rules.specs.Bounds.{Word, Exactly, AtMost, IfAny, PairFits, LinkFits, AnsweredFits, KindFits, LegFits, HeldFits, MemoryFits, Widths}
use Rattle.rules.proofs.Lists.{if_by, all_append}
use Rattle.rules.proofs.Order.{contra, all_find, all_without, all_kept, all_alter, all_alter_found, all_insert, all_retireds, length_keep, length_alter, length_snoc}
use Rattle.rules.proofs.CallFits.{HelloFits}
use Rattle.rules.proofs.Time.{deadline_word}
use Rattle.rules.proofs.Gating.{counter_word, sizes_memory, store_fits, stamped_sizes, clear_sizes, promoted_sizes, ended_sizes}

-- ---- links

opened_fits : (n : ℕ) (p : Pair) (d : Dir) → Word n → PairFits p → LinkFits (opened n p d)
unfolding opened
opened_fits n p d w f = record { no = w; setup = f; holder = tt; four = omega arith; paths = tt }

pub hold_fits : (n : ℕ) (p : Bytes) (s : List LinkRec) → Exactly 16 p → All LinkFits s → All LinkFits (hold n (APeer p) s)
unfolding hold
hold_fits n p s f k = all_alter LinkFits (numbered n) (held_by (APeer p)) s (λ r x. record { no = x.no; setup = x.setup; holder = f; four = x.four; paths = x.paths }) k

-- refusal 7 keeps a link to four paths
set_path_four : (p : Pair) (v : Proven) (s : List PathRec) → not (any (path_at p) s) && leb 4 (length s) ≡ false → length s ≤ 4 → length (set_path p v s) ≤ 4
unfolding set_path
set_path_four p v s c k = go (any (path_at p) s) c
  where
    w : PathRec
    w = record { pair = p; state = v }

    go : (b : Bool) → not b && leb 4 (length s) ≡ false → length (if b then alter (path_at p) (λ w. record { pair = w.pair; state = v }) s else s ++ (w ∷ [])) ≤ 4
    go true e = omega (arith, length_alter (path_at p) (λ w. record { pair = w.pair; state = v }) s)
    go false e = omega (arith, length_snoc s w, leb-false 4 (length s) e)

set_path_fits : (p : Pair) (v : Proven) (s : List PathRec) → PairFits p → All (λ w. PairFits w.pair) s → All (λ w. PairFits w.pair) (set_path p v s)
unfolding set_path
set_path_fits p v s f k =
    let P : PathRec → Type 0 = λ w. PairFits w.pair in
    if_by (All P) (any (path_at p) s) (λ e. all_alter P (path_at p) (λ w. record { pair = w.pair; state = v }) s (λ w x. x) k) (λ e. all_append P s (record { pair = p; state = v } ∷ []) k (f, tt))

path_fits : (n : ℕ) (p : Pair) (v : Proven) (t : Table) → PairFits p → crowded n p t ≡ false → All LinkFits t.links → All LinkFits (path n p v t.links)
unfolding path crowded
path_fits n p v t f c k = all_alter_found LinkFits (numbered n) (with_path p v) t.links
    (λ r e x. record {
      no = x.no;
      setup = x.setup;
      holder = x.holder;
      four = set_path_four p v r.paths (rw e at c) x.four;
      paths = set_path_fits p v r.paths f x.paths;
    }) k

released_fits : (n : ℕ) (p : Pair) (s : List LinkRec) → All LinkFits s → All LinkFits (released n p s)
unfolding released
released_fits n p s k = all_alter LinkFits (numbered n) (without_path p) s
    (λ r x. record {
      no = x.no;
      setup = x.setup;
      holder = x.holder;
      four = omega (arith, x.four, length_keep (λ w. not (path_at p w)) r.paths);
      paths = all_kept (λ w. PairFits w.pair) (λ w. not (path_at p w)) r.paths x.paths;
    }) k

-- ---- legs

module _ (c : Params) (now : ℕ) (w : Word now) where
  pub dial_leg_fits : (n : ℕ) (p m : Bytes) (l : ℕ) → Word n → Exactly 16 p → AtMost 128 m → l < 2 ^ 32 → LegFits (dial_leg c now n p m l)
  unfolding dial_leg
  dial_leg_fits n p m l a b d e = record {
    link = a;
    peer = b;
    kind = tt;
    msg1 = d;
    sent = omega arith;
    next = if_by (IfAny Word) (ltb 0 c.resends) (λ z. deadline_word now _) (λ z. tt);
    deadline = deadline_word now _;
    lease = e;
  }

  pub answer_leg_fits : (n : ℕ) (x : Hello) (f : Bool) → Word n → HelloFits x → LegFits (answer_leg c now n x f)
  unfolding answer_leg
  answer_leg_fits n x f a h = record {
    link = a;
    peer = h.peer;
    kind = record { msg2 = h.msg2; ephemeral = h.ephemeral; epoch = h.epoch };
    msg1 = h.bytes;
    sent = omega arith;
    next = tt;
    deadline = deadline_word now _;
    lease = h.lease;
  }

  pub resent_fits : (g : Leg) → LegFits g → LegFits (resent c now g)
  unfolding resent
  resent_fits g x = record {
    link = x.link;
    peer = x.peer;
    kind = x.kind;
    msg1 = x.msg1;
    sent = counter_word g.sent;
    next = if_by (IfAny Word) (ltb (saturating_add g.sent 1) c.resends) (λ z. deadline_word now _) (λ z. tt);
    deadline = x.deadline;
    lease = x.lease;
  }

-- a leg with another kind
kind_fits : (f : Kind → Kind) (g : Leg) → ((k : Kind) → KindFits k → KindFits (f k)) → LegFits g
    → LegFits (record { link = g.link; peer = g.peer; kind = f g.kind; msg1 = g.msg1; sent = g.sent; next = g.next; deadline = g.deadline; lease = g.lease })
kind_fits f g h x = record { link = x.link; peer = x.peer; kind = h g.kind x.kind; msg1 = x.msg1; sent = x.sent; next = x.next; deadline = x.deadline; lease = x.lease }

pub sent_fits : (g : Leg) → LegFits g → LegFits (mark_sent g)
sent_fits g x = kind_fits sent_kind g each x
  where
    each : (k : Kind) → KindFits k → KindFits (sent_kind k)
    each Kind.Dial h = tt
    each (Kind.Answer a) h = record { msg2 = h.msg2; ephemeral = h.ephemeral; epoch = h.epoch }

pub unsent_fits : (g : Leg) → LegFits g → LegFits (mark_unsent g)
unsent_fits g x = kind_fits unsent_kind g each x
  where
    each : (k : Kind) → KindFits k → KindFits (unsent_kind k)
    each Kind.Dial h = tt
    each (Kind.Answer a) h = record { msg2 = h.msg2; ephemeral = h.ephemeral; epoch = h.epoch }

pub answered_fits : (k : Kind) (a : Answered) → answered k ≡ Some a → KindFits k → AnsweredFits a
answered_fits Kind.Dial a e x = contra (cc)
answered_fits (Kind.Answer b) a e x = let z : b ≡ a = cc in subst AnsweredFits z x

pub if_any : {A : Type 0} (P : A → Type 0) (o : Option A) (a : A) → o ≡ Some a → IfAny P o → P a
if_any P None a e x = contra (cc)
if_any P (Some b) a e x = let z : b ≡ a = cc in subst P z x

-- ---- the table

module _ (t : Table) (k : Widths t) where
  pub leg_fits : (n : ℕ) (g : Leg) → leg_at n t ≡ Some g → LegFits g
  leg_fits n g e = all_find LegFits (on_link n) t.legs g e k.legs

  pub held_fits : (p : Bytes) (h : Held) → held_at p t ≡ Some h → HeldFits h
  held_fits p h e = all_find HeldFits (named p) t.held h e k.held

  pub link_fits : (n : ℕ) (r : LinkRec) → link_at n t ≡ Some r → LinkFits r
  link_fits n r e = all_find LinkFits (numbered n) t.links r e k.links

  widths_gates : (s : List Memory) → All (MemoryFits t.params) s → Widths (with_gates s t)
  widths_gates s x = record { me = k.me; params = k.params; next = k.next; links = k.links; legs = k.legs; held = k.held; gates = x }

  pub widths_links : (s : List LinkRec) → All LinkFits s → Widths (with_links s t)
  widths_links s x = record { me = k.me; params = k.params; next = k.next; links = x; legs = k.legs; held = k.held; gates = k.gates }

  pub widths_legs : (test : Leg → Bool) (f : Leg → Leg) → ((g : Leg) → LegFits g → LegFits (f g)) → Widths (with_legs (alter test f t.legs) t)
  widths_legs test f h = record { me = k.me; params = k.params; next = k.next; links = k.links; legs = all_alter LegFits test f t.legs h k.legs; held = k.held; gates = k.gates }

  widths_joined : (r : LinkRec) (g : Leg) → Word (t.next + 1) → LinkFits r → LegFits g → Widths (joined r g t)
  widths_joined r g w x y = record {
    me = k.me;
    params = k.params;
    next = w;
    links = all_append LinkFits t.links (r ∷ []) k.links (x, tt);
    legs = all_append LegFits t.legs (g ∷ []) k.legs (y, tt);
    held = k.held;
    gates = k.gates;
  }

  pub widths_dial : (now : ℕ) (p : Bytes) (to : Pair) (m : Bytes) (l : ℕ) → Word now → Word (t.next + 1) → Exactly 16 p → PairFits to → AtMost 128 m
      → l < 2 ^ 32 → Widths (dial now p to m l t).table
  unfolding dial
  widths_dial now p to m l w v a b d e = widths_joined _ _ v (opened_fits t.next to Outbound k.next b) (dial_leg_fits t.params now w t.next p m l k.next a d e)

  pub widths_answer : (now : ℕ) (x : Hello) (f : Bool) → Word now → Word (t.next + 1) → HelloFits x → Widths (answer now x f t).table
  unfolding answer
  widths_answer now x f w v h = widths_joined _ _ v (opened_fits t.next x.from Inbound k.next h.from) (answer_leg_fits t.params now w t.next x f k.next h)

  pub widths_ends : (g : Leg) → Widths (ends g t).table
  unfolding ends
  widths_ends g = record {
    me = k.me;
    params = k.params;
    next = k.next;
    links = all_without LinkFits (numbered g.link) t.links k.links;
    legs = all_without LegFits (on_link g.link) t.legs k.legs;
    held = k.held;
    gates = k.gates;
  }

  parted_fits : (now : ℕ) (h : Held) → Word now → HeldFits h → All (MemoryFits t.params) (parted now h t)
  unfolding parted
  parted_fits now h w x = if_by (All (MemoryFits t.params)) h.heard (λ z. k.gates)
      (λ z.
      let y = sizes_memory t.params h.peer t.gates x.peer k.gates in
      store_fits t.params _ t.gates (ended_sizes t.params now w k.params (Some h.epoch) h.setup _ x.epoch x.setup y) k.gates)

  pub widths_removed : (now : ℕ) (p : Bytes) (why : Why) (h : Held) → Word now → held_at p t ≡ Some h → Widths (removed now p why h t).table
  unfolding removed
  widths_removed now p why h w e = record {
    me = k.me;
    params = k.params;
    next = k.next;
    links = all_without LinkFits (numbered h.link) t.links k.links;
    legs = k.legs;
    held = all_without HeldFits (named p) t.held k.held;
    gates = parted_fits now h w (held_fits p h e);
  }

  pub widths_stamp : (now : ℕ) (p : Bytes) (h : Held) → Word now → held_at p t ≡ Some h → Widths (stamp now h t)
  unfolding stamp
  widths_stamp now p h w e =
      let x = held_fits p h e in
      widths_gates _ (if_by (All (MemoryFits t.params)) h.heard
      (λ z. store_fits t.params _ t.gates (stamped_sizes t.params now _ w (sizes_memory t.params h.peer t.gates x.peer k.gates)) k.gates) (λ z. k.gates))

  widths_installs : (g : Leg) (h : Held) (m : List Memory) → HeldFits h → All (MemoryFits t.params) m → Widths (with_gates m (installs g h t))
  widths_installs g h m x y = record {
    me = k.me;
    params = k.params;
    next = k.next;
    links = hold_fits g.link h.peer t.links x.peer k.links;
    legs = all_without LegFits (on_link g.link) t.legs k.legs;
    held = all_insert earlier_held HeldFits h t.held x k.held;
    gates = y;
  }

  pub widths_promote : (now : ℕ) (p : Bytes) (a : Answered) (g : Leg) (r : LinkRec) → Word now → LegFits g → g.peer ≡ Some p → answered g.kind ≡ Some a
      → LinkFits r → Widths (promote now p a g r t).table
  unfolding promote
  widths_promote now p a g r w x e f y =
      let q : Exactly 16 p = if_any (Exactly 16) g.peer p e x.peer in
      let z : AnsweredFits a = answered_fits g.kind a f x.kind in
      widths_installs g _ _ (record { peer = q; link = x.link; epoch = z.epoch; current = y.setup; installed = w; last = tt; setup = z.ephemeral })
      (store_fits t.params _ t.gates (promoted_sizes t.params now a.ephemeral _ w z.ephemeral (sizes_memory t.params p t.gates q k.gates)) k.gates)

  pub widths_dialed : (now : ℕ) (p : Bytes) (g : Leg) (epoch : ℕ) (from : Pair) (how : Transition) → Word now → LegFits g → Exactly 16 p → Word epoch
      → PairFits from → Widths (dialed now p g epoch from how t).table
  unfolding dialed
  widths_dialed now p g epoch from how w x e v f = widths_installs g _ t.gates (record { peer = e; link = x.link; epoch = v; current = f; installed = w; last = tt; setup = tt }) k.gates

  pub widths_moveto : (p : Bytes) (g : Leg) (h : Held) (from : Pair) → LegFits g → Exactly 16 p → PairFits from → Widths (moveto p g h from t).table
  unfolding moveto
  widths_moveto p g h from x e f = record {
    me = k.me;
    params = k.params;
    next = k.next;
    links = all_without LinkFits (numbered h.link) (hold g.link (APeer p) t.links) (hold_fits g.link p t.links e k.links);
    legs = all_without LegFits (on_link g.link) t.legs k.legs;
    held = all_alter HeldFits (named p) (moved_to g.link from) t.held
        (λ j y. record { peer = y.peer; link = x.link; epoch = y.epoch; current = f; installed = y.installed; last = y.last; setup = y.setup }) k.held;
    gates = k.gates;
  }

  widths_held : (test : Held → Bool) (f : Held → Held) (m : List Memory) → ((h : Held) → HeldFits h → HeldFits (f h)) → All (MemoryFits t.params) m
      → Widths (with_gates m (with_held (alter test f t.held) t))
  widths_held test f m h x = record { me = k.me; params = k.params; next = k.next; links = k.links; legs = k.legs; held = all_alter HeldFits test f t.held h k.held; gates = x }

  pub widths_renewed : (p : Bytes) (epoch : ℕ) → Word epoch → Widths (with_held (alter (named p) (with_epoch epoch) t.held) t)
  widths_renewed p epoch v = widths_held (named p) (with_epoch epoch) t.gates
      (λ j y. record { peer = y.peer; link = y.link; epoch = v; current = y.current; installed = y.installed; last = y.last; setup = y.setup }) k.gates

  pub widths_heard : (now : ℕ) (p : Bytes) (from : Pair) → Word now → Exactly 16 p → PairFits from
      → Widths (with_gates (store (clear (memory p t.gates)) t.gates) (with_held (alter (named p) (heard_from now from) t.held) t))
  widths_heard now p from w q f = widths_held (named p) (heard_from now from) _
      (λ j y. record { peer = y.peer; link = y.link; epoch = y.epoch; current = f; installed = y.installed; last = w; setup = y.setup })
      (store_fits t.params _ t.gates (clear_sizes t.params _ (sizes_memory t.params p t.gates q k.gates)) k.gates)

  pub widths_close_legs : Widths (close_legs t).table
  unfolding close_legs
  widths_close_legs = record { me = k.me; params = k.params; next = k.next; links = all_retireds LinkFits _ t.links k.links; legs = tt; held = k.held; gates = k.gates }

  pub widths_path : (n : ℕ) (p : Pair) (v : Proven) → PairFits p → crowded n p t ≡ false → Widths (with_links (path n p v t.links) t)
  widths_path n p v f c = widths_links _ (path_fits n p v t f c k.links)

  pub widths_release : (n : ℕ) (p : Pair) → Widths (with_links (released n p t.links) t)
  widths_release n p = widths_links _ (released_fits n p t.links k.links)
