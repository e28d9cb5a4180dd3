-- What was sent: a resend counted, an answer marked, or a peer held by an answer.
use Rattle.std.specs.Prelude.{◌≡◌, refl, Bool, true, false, List, [], ◌∷◌, ℕ, ◌+◌, ◌≤◌, ◌<◌, length, replicate, set, if◌then◌else◌, Option, None, Some, option_map, is_some, IsSome}
use Rattle.std.proofs.Math.Path.{sym, ap}
use Rattle.std.proofs.Common.{◌∙◌, subst}
use Rattle.rules.specs.Base.{is, Bytes, alter}
use Rattle.rules.specs.Time.{Params}
use Rattle.rules.specs.Data.{Pair, LinkRec, Leg, Held, Memory, Table, Transition, Promote, Replace, Fresh, Installed, Install, Reset, Step}
use Rattle.rules.specs.Links.{numbered}
use Rattle.rules.specs.Legs.{on_link, answered, answers, resent, mark_sent}
use Rattle.rules.specs.Gates.{memory, store, promoted}
use Rattle.rules.specs.Output.{output_record}
use Rattle.rules.specs.Settle.{with_legs, with_gates, writes, still, link_at, leg_at, named, held_at, promote, sent}
use Rattle.rules.proofs.Good.{own_link}
use Rattle.lib_laws.specs.Splice.{Wrote}
use Rattle.lib_laws.specs.Buffer.{kept_length}
use Rattle.lib_laws.specs.Cell.{or_blank}
use Rattle.lib_laws.specs.Scan.{scan}
use Rattle.lib_laws.specs.Place.{find_at, find_nowhere, alter_at}
use Rattle.node_addr.specs.declared.Fixed.{Fixed}
use Rattle.node_addr.proofs.Filled.{kept_padded}
use Rattle.node_addr.specs.declared.LinkNo as linkno
use Rattle.node_addr.specs.declared.Pair as pair
use Rattle.node_addr.specs.View.{view_pair}
use Rattle.links.specs.View.{no_link}
use Rattle.legs.specs.View.{no_leg}
use Rattle.legs.specs.At.{there, absent, named_peer, no_answer, answer_of}
use Rattle.held.specs.declared.record.Held as held
use Rattle.held.specs.View.{view_rec, no_held}
use Rattle.gates.specs.Order.{Room}
use Rattle.output_record.specs.Write.{puts_one}
use Rattle.table_layout.specs.View.{view_table, FitTable, Told, nth_leg, nth_link}
use Rattle.table_layout.proofs.Told.{told_is, told_then}
use Rattle.call_contract.specs.Did.{Space, Did, space_is, did_is, space_tail, puts_cons, puts_end, did_still}
use Rattle.call_contract.specs.Sound.{Sound, leg_memory, held_room}
use Rattle.call_sent.specs.Install.{install_fits, reset_fits, seated}

-- ---- the peer that a leg names, where it names one
pub names_one : {A B : Type 0} (f : A → B) (o : Option A) {p : Option B} → option_map f o ≡ p → is p ≡ true → IsSome o
names_one f None e a = let z : false ≡ true = ap is e ∙ a in cc
names_one f (Some x) e a = refl

named_is : (g : Leg) {p : Bytes} → g.peer ≡ Some p → named_peer g ≡ p
named_is g f = ap (λ (o : Option Bytes). or_blank (replicate 16 0) o) f

-- ---- the holder that an answer g becomes on its link r
abbrev shown : ℕ → ℕ → Bytes → ℕ → Bytes → Pair → Held
shown now n p e d w = record { peer = p; link = n; epoch = e; current = w; heard = false; installed = now; last = None; setup = Some d }

abbrev pub unheard_of : ℕ → Bytes → Leg → LinkRec → Held
unheard_of now p g r = shown now g.link p (answer_of g).epoch (answer_of g).ephemeral r.setup

pub record Unheard (h : held.Held) (now : ℕ) (p : Bytes) (g : Leg) (r : LinkRec) : Type 0 where
  pub size : length p ≡ 16
  pub shows : view_rec h ≡ unheard_of now p g r

pub unheard_is : {now : ℕ} {g : Leg} {r : LinkRec} {n : linkno.LinkNo} {p : Fixed 16} {e : ℕ} {d : Fixed 32} {w : pair.Pair}
    → n.0 ≡ g.link → e ≡ (answer_of g).epoch → d.0 ≡ (answer_of g).ephemeral → view_pair w ≡ r.setup → length p.0 ≡ 16
    → Unheard (record { peer = p; link = n; epoch = e; installed = now; heard = false; last = None; setup = Some d; current = w }) now p.0 g r
unheard_is {now} {g} {r} {n} {p} {e} {d} {w} a c f s k = record {
  size = k;
  shows =
      ap (λ (i : ℕ). shown now i p.0 e d.0 (view_pair w)) a
      ∙ ap (λ (i : ℕ). shown now g.link p.0 i d.0 (view_pair w)) c
      ∙ ap (λ (i : Bytes). shown now g.link p.0 (answer_of g).epoch i (view_pair w)) f
      ∙ ap (λ (i : Pair). shown now g.link p.0 (answer_of g).epoch (answer_of g).ephemeral i) s;
}

-- ---- the peer is held, unheard
abbrev promoting : Bytes → Held → Bytes → ℕ → Params → Transition → ℕ → Table → Step
promoting p k d l c how now x =
    let i : Installed = record { peer = p; link = k.link; pair = k.current; build = Fresh; initiator = false; lease = l } in
    writes (Install i ∷ Reset p how ∷ []) (with_gates (store (promoted c now d (memory p x.gates)) x.gates) (seated k x))

module _ (now : ℕ) (p : Bytes) (g : Leg) (r : LinkRec) (t : Bytes) {h : held.Held} {d : Bytes} {l : ℕ} {c : Params} {b : Bool} {how : Transition}
    (n : g.peer ≡ Some p) (u : Unheard h now p g r) (m : d ≡ (answer_of g).ephemeral) (q : l ≡ g.lease) (v : c ≡ (view_table t).params) (y : b ≡ (answer_of g).replaces) (z : how ≡ (if b then Replace else Promote)) where
  abbrev given : Installed
  given = record { peer = p; link = h.link.0; pair = view_pair h.current; build = Fresh; initiator = false; lease = l }

  promote_is : promote now (named_peer g) (answer_of g) g r (view_table t) ≡ promoting p (view_rec h) d l c how now (view_table t)
  unfolding promote
  promote_is =
      let x : Table = view_table t in
      let k : Held = unheard_of now p g r in
      let f : Bytes = (answer_of g).ephemeral in
      sym
      (ap (λ (k : Held). promoting p k d l c how now x) u.shows
      ∙ ap (λ (d : Bytes). promoting p k d l c how now x) m
      ∙ ap (λ (i : ℕ). promoting p k f i c how now x) q
      ∙ ap (λ (s : Params). promoting p k f g.lease s how now x) v
      ∙ ap (λ (w : Transition). promoting p k f g.lease x.params w now x) (z ∙ ap (λ (a : Bool). if a then Replace else Promote) y)
      ∙ ap (λ (q : Bytes). promote now q (answer_of g) g r x) (sym (named_is g n)))

  module _ {o : Bytes} {at : ℕ} (s : Space o at (promote now (named_peer g) (answer_of g) g r (view_table t)).outs) where
    pub promote_install : at + (39 + h.current.addr.len) ≤ length o
    promote_install = install_fits given (space_is s promote_is) u.size (kept_length (kept_padded h.current.addr))

    pub promote_reset : {k : ℕ} {o₁ : Bytes} {a : ℕ} → Wrote o at k (output_record (Install given)) o₁ a → a + 21 ≤ length o₁
    promote_reset w = reset_fits p how (space_tail (Install given) (space_is s promote_is) w) u.size

  pub promote_did : {o : Bytes} {at k : ℕ} {o₁ : Bytes} {a j : ℕ} {o₂ : Bytes} {e : ℕ} {t₁ t₂ : Bytes} → Wrote o at k (output_record (Install given)) o₁ a
      → Wrote o₁ a j (output_record (Reset p how)) o₂ e
      → Told t₁ (with_gates (store (promoted c now d (memory p (view_table t).gates)) (view_table t).gates) (view_table t))
      → Told t₂ (seated (view_rec h) (view_table t₁)) → Did o at t₂ o₂ e (promote now (named_peer g) (answer_of g) g r (view_table t))
  promote_did w z a i = did_is (record { table = told_then (seated (view_rec h)) a i; puts = puts_cons (Install given) w (puts_one (Reset p how) z) }) (sym promote_is)

-- room for the peer's memory, and for the holder once that is written
module _ (t : Bytes) (s : Sound (view_table t)) (g : Leg) (e : leg_at g.link (view_table t) ≡ Some g) where
  pub promote_memory : {p : Bytes} → g.peer ≡ Some p → Room p (view_table t).gates (length (view_table t).gates)
  promote_memory {p} f = leg_memory s p g.link g e f

  pub promote_room : {t₁ : Bytes} {m : List Memory} → Told t₁ (with_gates m (view_table t)) → length (view_table t₁).held < 32
  promote_room a = subst (λ (x : Table). length x.held < 32) (sym a.shows) (held_room s g.link g e)

-- ---- what `sent` is, by the leg on the link
module _ (now n : ℕ) (x : Table) where
  sent_none : leg_at n x ≡ None → sent now n x ≡ still x
  unfolding sent
  sent_none e = rw e

  module _ (g : Leg) (e : leg_at n x ≡ Some g) where
    sent_dial : answers g ≡ false → sent now n x ≡ still (with_legs (alter (on_link n) (resent x.params now) x.legs) x)
    unfolding sent
    sent_dial a = rw (e, absent (answered g.kind) a)

    module _ (a : answers g ≡ true) where
      sent_nameless : g.peer ≡ None → sent now n x ≡ still x
      unfolding sent
      sent_nameless f = rw (e, there no_answer (answered g.kind) a, f)

      module _ {p : Bytes} (f : g.peer ≡ Some p) where
        sent_held : {h : Held} → held_at p x ≡ Some h → sent now n x ≡ still (with_legs (alter (on_link n) mark_sent x.legs) x)
        unfolding sent
        sent_held q = rw (e, there no_answer (answered g.kind) a, f, q)

        sent_lost : held_at p x ≡ None → link_at n x ≡ None → sent now n x ≡ still x
        unfolding sent
        sent_lost q w = rw (e, there no_answer (answered g.kind) a, f, q, w)

        sent_made : {r : LinkRec} → held_at p x ≡ None → link_at n x ≡ Some r → sent now n x ≡ promote now (named_peer g) (answer_of g) g r x
        unfolding sent
        sent_made q w = rw (e, there no_answer (answered g.kind) a, f, q, w)

-- ---- what was done, by the places found
none_by : (o : Option ℕ) → is_some o ≡ false → o ≡ None
none_by None a = refl
none_by (Some k) a = cc

module _ (now n : ℕ) (t : Bytes) {o : Bytes} {at : ℕ} (s : Space o at (sent now n (view_table t)).outs) where
  nothing : FitTable t → sent now n (view_table t) ≡ still (view_table t) → Did o at t o at (sent now n (view_table t))
  nothing f q = did_is (did_still f (space_is s q)) (sym q)

  changed : {u : Bytes} (y : List Leg) → sent now n (view_table t) ≡ still (with_legs y (view_table t)) → Told u (with_legs y (view_table t)) → Did o at u o at (sent now n (view_table t))
  changed y q a = did_is (record { table = a; puts = puts_end (space_is s q) }) (sym q)

  pub sent_nowhere : FitTable t → scan (on_link n) 0 (view_table t).legs ≡ None → Did o at t o at (sent now n (view_table t))
  sent_nowhere f e = nothing f (sent_none now n (view_table t) (find_nowhere (on_link n) (view_table t).legs e))

  module _ (i : ℕ) (e : scan (on_link n) 0 (view_table t).legs ≡ Some i) where
    abbrev g : Leg
    g = nth_leg (view_table t) i

    at_leg : leg_at n (view_table t) ≡ Some g
    at_leg = find_at (on_link n) (view_table t).legs i e no_leg

    altered : (f : Leg → Leg) → alter (on_link n) f (view_table t).legs ≡ set (view_table t).legs i (f g)
    altered f = alter_at (on_link n) (view_table t).legs i e f no_leg

    pub sent_counted : {u : Bytes} {b : Bool} {c : Params} → b ≡ answers g → b ≡ false → c ≡ (view_table t).params → Told u (with_legs (set (view_table t).legs i (resent c now g)) (view_table t))
        → Did o at u o at (sent now n (view_table t))
    sent_counted v w q a =
        changed _ (sent_dial now n (view_table t) g at_leg (sym v ∙ w))
        (told_is a (ap (λ (c : Params). with_legs (set (view_table t).legs i (resent c now g)) (view_table t)) q ∙ ap (λ (y : List Leg). with_legs y (view_table t)) (sym (altered (resent (view_table t).params now)))))

    module _ (a : answers g ≡ true) where
      pub sent_unnamed : FitTable t → g.peer ≡ None → Did o at t o at (sent now n (view_table t))
      sent_unnamed f q = nothing f (sent_nameless now n (view_table t) g at_leg a q)

      module _ {p : Bytes} (f : g.peer ≡ Some p) where
        pub sent_marked : {u : Bytes} {q : Option ℕ} → q ≡ scan (named p) 0 (view_table t).held → is_some q ≡ true → Told u (with_legs (set (view_table t).legs i (mark_sent g)) (view_table t)) → Did o at u o at (sent now n (view_table t))
        sent_marked {q = None} v w m = cc
        sent_marked {q = Some k} v w m =
            changed _ (sent_held now n (view_table t) g at_leg a f (find_at (named p) (view_table t).held k (sym v) no_held))
            (told_is m (ap (λ (y : List Leg). with_legs y (view_table t)) (sym (altered mark_sent))))

        module _ {q : Option ℕ} (v : q ≡ scan (named p) 0 (view_table t).held) (w : is_some q ≡ false) where
          not_held : held_at p (view_table t) ≡ None
          not_held = find_nowhere (named p) (view_table t).held (sym v ∙ none_by q w)

          pub sent_linkless : FitTable t → scan (numbered n) 0 (view_table t).links ≡ None → Did o at t o at (sent now n (view_table t))
          sent_linkless d y = nothing d (sent_lost now n (view_table t) g at_leg a f not_held (find_nowhere (numbered n) (view_table t).links y))

          pub sent_promotes : (j : ℕ) → scan (numbered n) 0 (view_table t).links ≡ Some j → sent now n (view_table t) ≡ promote now (named_peer g) (answer_of g) g (nth_link (view_table t) j) (view_table t)
          sent_promotes j y = sent_made now n (view_table t) g at_leg a f not_held (find_at (numbered n) (view_table t).links j y no_link)

-- the leg at its place is the one on its link
pub leg_own : (t : Bytes) (n i : ℕ) → scan (on_link n) 0 (view_table t).legs ≡ Some i → leg_at (nth_leg (view_table t) i).link (view_table t) ≡ Some (nth_leg (view_table t) i)
leg_own t n i e = own_link (view_table t) n (nth_leg (view_table t) i) (find_at (on_link n) (view_table t).legs i e no_leg)
