-- A holder that goes: what is remembered of it, room for what is written of it, and what the table then shows.
use Rattle.std.specs.Prelude.{◌≡◌, Bool, true, false, ℕ, ◌+◌, ◌≤◌, if◌then◌else◌, None, Option, Some}
use Rattle.std.proofs.Common.{sym, ◌∙◌}
use Rattle.std.proofs.Math.Path.{ap, subst}
use mathlib.Core.List.{List, [], ◌∷◌}
use Rattle.std.proofs.Math.ListN.{length}
use Rattle.rules.specs.Base.{option, Bytes, All, without}
use Rattle.rules.specs.Std.{Ascending}
use Rattle.rules.specs.Time.{Params}
use Rattle.rules.specs.Data.{Pair, Held, Table, Why, Output, Step, Retire, Retry}
use Rattle.rules.specs.Output.{output_record, pairs_bytes}
use Rattle.rules.specs.Links.{retired, retiring}
use Rattle.rules.specs.Gates.{earlier_memory, memory, store, ended}
use Rattle.rules.specs.Settle.{with_links, with_held, with_gates, writes, still, named, held_at, closes, retries, parted, removed, remove}
use Rattle.rules.proofs.Lists.{find_test}
use Rattle.rules.proofs.Peers.{same_sound}
use Rattle.lib_laws.specs.Scan.{scan}
use Rattle.lib_laws.specs.Place.{find_at, find_nowhere}
use Rattle.lib_laws.specs.Splice.{Wrote}
use Rattle.params.specs.declared.Params as params
use Rattle.params.specs.View.{view_params}
use Rattle.gates_types.specs.View.{FitParams, Within}
use Rattle.gates.specs.Order.{Room}
use Rattle.held.specs.View.{no_held}
use Rattle.output_record.specs.Write.{Puts, puts_one, puts_more}
use Rattle.table_layout.specs.View.{view_table, FitTable, Told, nth_held}
use Rattle.table_layout.proofs.Told.{told_same, told_is, told_then, fit_params}
use Rattle.call_contract.specs.Did.{Space, Did, space_is, did_is, space_head, space_tail, space_first, space_rest, puts_cons, puts_end}
use Rattle.call_contract.specs.Sound.{Ready, gates_ordered, gates_within, held_memory}

-- ---- what is remembered

-- the peer that was asked for is the holder's
peer_is : (p : Bytes) (h : Held) (x : Table) → held_at p x ≡ Some h → p ≡ h.peer
peer_is p h x e = same_sound p h.peer (find_test (named p) x.held h e)

-- a silence may be counted of a peer that is held
pub part_ready : {t : Bytes} (c : params.Params) (p : Bytes) (h : Held) → Ready t → view_params c ≡ (view_table t).params → held_at p (view_table t) ≡ Some h
    → FitTable t
    × (Ascending earlier_memory (view_table t).gates
    × (All (Within (view_params c)) (view_table t).gates × (FitParams c × Room p (view_table t).gates (length (view_table t).gates))))
part_ready {t} c p h r q e = (
  r.fit,
  (
    gates_ordered r.sound,
    (subst (λ (k : Params). All (Within k) (view_table t).gates) (sym q) (gates_within r.sound), (fit_params c r.fit q, held_memory r.sound p h e)),
  ),
)

module _ (clock : ℕ) (h : Held) where
  -- heard: nothing changes
  pub part_heard : {t : Bytes} {b : Bool} → FitTable t → b ≡ h.heard → b ≡ true → Told t (with_gates (parted clock h (view_table t)) (view_table t))
  unfolding parted
  part_heard {t} f q w =
      let x : Table = view_table t in
      told_is (told_same f)
      (ap (λ (b : Bool). with_gates (if b then x.gates else store (ended x.params clock (Some h.epoch) h.setup (memory h.peer x.gates)) x.gates) x) (sym w ∙ q))

  -- unheard: a silence is counted
  pub part_unheard : (x : Table) (p : Bytes) {b : Bool} {n : ℕ} {s : Option Bytes} {c : Params} {t : Bytes} → held_at p x ≡ Some h → b ≡ h.heard → b ≡ false
      → n ≡ h.epoch → s ≡ h.setup → c ≡ x.params
      → Told t (with_gates (store (ended c clock (Some n) s (memory p x.gates)) x.gates) x)
      → Told t (with_gates (parted clock h x) x)
  unfolding parted
  part_unheard x p {b} {n} {s} {c} e q w l m g u =
      told_is u
      (ap (λ (k : Params). with_gates (store (ended k clock (Some n) s (memory p x.gates)) x.gates) x) g
      ∙ ap (λ (k : ℕ). with_gates (store (ended x.params clock (Some k) s (memory p x.gates)) x.gates) x) l
      ∙ ap (λ (k : Option Bytes). with_gates (store (ended x.params clock (Some h.epoch) k (memory p x.gates)) x.gates) x) m
      ∙ ap (λ (k : Bytes). with_gates (store (ended x.params clock (Some h.epoch) h.setup (memory k x.gates)) x.gates) x) (peer_is p h x e)
      ∙ ap (λ (k : Bool). with_gates (if k then x.gates else store (ended x.params clock (Some h.epoch) h.setup (memory h.peer x.gates)) x.gates) x) (sym w ∙ q))

-- ---- its link

-- link n goes, with what is to close or without
unfoldable pub retires : ℕ → Bool → Table → Step
retires n lists x = writes (Retire n (if lists then retiring n x.links else []) ∷ []) (with_links (retired n x.links) x)

module _ {lists : Bool} {cs ps : List Pair} where
  pub all_listed : lists ≡ true → cs ≡ ps → cs ≡ (if lists then ps else [])
  all_listed w e = e ∙ ap (λ (b : Bool). if b then ps else []) (sym w)

module _ {lists : Bool} {cs : List Pair} (ps : List Pair) where
  pub none_listed : lists ≡ false → cs ≡ [] → cs ≡ (if lists then ps else [])
  none_listed w e = e ∙ ap (λ (b : Bool). if b then ps else []) (sym w)

module _ (n : ℕ) (lists : Bool) (x : Table) {cs : List Pair} (e : cs ≡ (if lists then retiring n x.links else [])) where
  pub retires_room : {o : Bytes} {at : ℕ} → Space o at (retires n lists x).outs → at + (13 + length (pairs_bytes cs)) ≤ length o
  unfolding retires
  retires_room {o} {at} a =
      subst (λ (c : List Pair). at + (13 + length (pairs_bytes c)) ≤ length o) (sym e) (space_head (Retire n (if lists then retiring n x.links else [])) a)

  pub retires_did : {t o : Bytes} {at k : ℕ} {o₁ : Bytes} {r : ℕ} → Told t (with_links (retired n x.links) x) → Wrote o at k (output_record (Retire n cs)) o₁ r
      → Did o at t o₁ r (retires n lists x)
  unfolding retires
  retires_did {o = o} {at} {k} {o₁} {r} u w =
      record { table = u; puts = puts_one (Retire n (if lists then retiring n x.links else [])) (subst (λ (c : List Pair). Wrote o at k (output_record (Retire n c)) o₁ r) e w) }

-- ---- all of it
module _ (clock : ℕ) (p : Bytes) (why : Why) (h : Held) (x : Table) where
  -- the table once the holder is gone
  abbrev gone : Table
  gone = with_held (without (named p) x.held) (with_gates (parted clock h x) x)

  abbrev retried : List Output
  retried = if retries why then Retry p ∷ [] else []

  pub remove_room : {o : Bytes} {at : ℕ} → length p ≡ 16 → Space o at (removed clock p why h x).outs → at + 21 ≤ length o
  unfolding removed
  remove_room {o} {at} l a = subst (λ (k : ℕ). at + (5 + k) ≤ length o) l (space_head (Output.Remove p why) a)

  module _ {n : ℕ} {lists : Bool} (e : n ≡ h.link) (q : lists ≡ closes why) {t₁ t₂ o : Bytes} {at k : ℕ} {o₁ : Bytes} {a : ℕ}
      (u : Told t₁ (with_gates (parted clock h x) x)) (v : Told t₂ (with_held (without (named p) (view_table t₁).held) (view_table t₁)))
      (s : Space o at (removed clock p why h x).outs) (w : Wrote o at k (output_record (Output.Remove p why)) o₁ a) where
    shows : view_table t₂ ≡ gone
    shows = (told_then (λ (y : Table). with_held (without (named p) y.held) y) u v).shows

    same_link : retires n lists (view_table t₂) ≡ retires h.link (closes why) gone
    same_link =
        ap (λ (m : ℕ). retires m lists (view_table t₂)) e
        ∙ ap (λ (b : Bool). retires h.link b (view_table t₂)) q
        ∙ ap (λ (y : Table). retires h.link (closes why) y) shows

    rest : Space o₁ a (Retire h.link (if closes why then retiring h.link x.links else []) ∷ retried)
    unfolding removed
    rest = space_tail (Output.Remove p why) s w

    pub retire_room : Space o₁ a (retires n lists (view_table t₂)).outs
    unfolding retires
    retire_room = space_is (space_first (retires h.link (closes why) gone).outs retried rest) (sym same_link)

    module _ {t₃ o₂ : Bytes} {r : ℕ} (d : Did o₁ a t₃ o₂ r (retires n lists (view_table t₂))) {again : Bool} (z : again ≡ retries why) where
      link_goes : Did o₁ a t₃ o₂ r (retires h.link (closes why) gone)
      link_goes = did_is d same_link

      left : Space o₂ r retried
      unfolding retires
      left = space_rest retried rest link_goes.puts

      whole : {o₃ : Bytes} {r' : ℕ} → Puts o₂ r retried o₃ r' → Did o at t₃ o₃ r' (removed clock p why h x)
      unfolding removed retires
      whole b = record { table = link_goes.table; puts = puts_cons (Output.Remove p why) w (puts_more link_goes.puts b) }

      retry_yes : again ≡ true → retried ≡ Retry p ∷ []
      retry_yes g = ap (λ (b : Bool). if b then Retry p ∷ [] else []) (sym z ∙ g)

      retry_no : again ≡ false → retried ≡ []
      retry_no g = ap (λ (b : Bool). if b then Retry p ∷ [] else []) (sym z ∙ g)

      pub retry_room : length p ≡ 16 → again ≡ true → r + 20 ≤ length o₂
      retry_room l g = subst (λ (m : ℕ). r + (4 + m) ≤ length o₂) l (space_head (Retry p) (subst (λ (c : List Output). Space o₂ r c) (retry_yes g) left))

      pub removed_retry : {j : ℕ} {o₃ : Bytes} {r' : ℕ} → again ≡ true → Wrote o₂ r j (output_record (Retry p)) o₃ r' → Did o at t₃ o₃ r' (removed clock p why h x)
      removed_retry {o₃ = o₃} {r'} g b = whole (subst (λ (c : List Output). Puts o₂ r c o₃ r') (sym (retry_yes g)) (puts_one (Retry p) b))

      pub removed_once : again ≡ false → Did o at t₃ o₂ r (removed clock p why h x)
      removed_once g = whole (subst (λ (c : List Output). Puts o₂ r c o₂ r) (sym (retry_no g)) (puts_end (subst (λ (c : List Output). Space o₂ r c) (retry_no g) left)))

-- ---- the peer goes, if it is held
module _ (clock : ℕ) (p : Bytes) (why : Why) (x : Table) where
  pub remove_at : (i : ℕ) → scan (named p) 0 x.held ≡ Some i → remove clock p why x ≡ removed clock p why (nth_held x i) x
  unfolding remove
  remove_at i e = ap (λ (o : Option Held). option o (still x) λ h. removed clock p why h x) (find_at (named p) x.held i e no_held)

  pub remove_none : scan (named p) 0 x.held ≡ None → remove clock p why x ≡ still x
  unfolding remove
  remove_none e = ap (λ (o : Option Held). option o (still x) λ h. removed clock p why h x) (find_nowhere (named p) x.held e)
