-- What the places found say of the rules' questions: a stored msg2, whose link a peer's is, whose pair.
use Rattle.std.specs.Prelude.{◌≡◌, refl, Bool, true, ◌||◌, ℕ, ◌<◌, leb, length, None, Option, Some}
use Rattle.std.proofs.Math.Path.{sym, ap}
use Rattle.std.proofs.Common.{◌∙◌}
use Rattle.std.proofs.Math.Bool.{false}
use Rattle.rules.specs.Base.{Bytes, option, find, any}
use Rattle.rules.specs.Data.{Pair, same_pair, LinkRec, Held, Table}
use Rattle.rules.specs.Links.{numbered, proven_at}
use Rattle.rules.specs.Legs as rule
use Rattle.rules.specs.Settle.{Stored, outbound, own, attributed, full}
use Rattle.lib_laws.specs.Scan.{scan}
use Rattle.lib_laws.specs.Place.{find_at, find_nowhere}
use Rattle.lib_laws.specs.Store.{entries_count}
use Rattle.links.specs.View.{no_link}
use Rattle.legs.specs.View.{leg_of}
use Rattle.legs.specs.At.{answer_of}
use Rattle.legs.specs.Stored.{Tells}
use Rattle.table_layout.specs.View.{legs_in, view_table, FitTable, nth_link, nth_leg}

-- ---- a stored msg2, by the place of its leg
abbrev pub stored_at : Option ℕ → Table → Option Stored
stored_at (Some i) x = Some (record { link = (nth_leg x i).link; msg2 = (answer_of (nth_leg x i)).msg2 })
stored_at None x = None

abbrev pub Within : Option ℕ → ℕ → Type 0
Within (Some i) n = i < n
Within None n = Unit {0}

-- the answer r, a place of a leg, says o
pub record Yields (r : Option ℕ) (x : Table) (o : Option Stored) : Type 0 where
  pub within : Within r (length x.legs)
  pub is : o ≡ stored_at r x

pub yields_whole : {t : Bytes} {o : Option Stored} (r : Option ℕ) → FitTable t → Tells r (legs_in t) o → Yields r (view_table t) o
unfolding view_table
yields_whole (Some i) f e = record { within = rw (entries_count leg_of f.legs) e.within; is = e.is }
yields_whole None f e = record { within = tt; is = e.is }

-- ---- the link of a held peer
module _ (h : Held) (x : Table) {k : ℕ} (q : k ≡ h.link) where
  pub own_at : {j : ℕ} {b : Bool} → scan (numbered k) 0 x.links ≡ Some j → b ≡ outbound (nth_link x j).dir → b ≡ own h x
  unfolding own
  own_at {j} e v =
      v
      ∙ sym (ap (λ (o : Option LinkRec). option o false λ r. outbound r.dir) (find_at (numbered k) x.links j e no_link))
      ∙ ap (λ (m : ℕ). option (find (numbered m) x.links) false λ r. outbound r.dir) q

  pub own_none : scan (numbered k) 0 x.links ≡ None → false ≡ own h x
  unfolding own
  own_none e =
      sym (ap (λ (o : Option LinkRec). option o false λ r. outbound r.dir) (find_nowhere (numbered k) x.links e))
      ∙ ap (λ (m : ℕ). option (find (numbered m) x.links) false λ r. outbound r.dir) q

  module _ (p : Pair) where
    abbrev of_link : LinkRec → Bool
    of_link r = same_pair p r.setup || same_pair p h.current || any (proven_at p) r.paths

    there : {j : ℕ} → scan (numbered k) 0 x.links ≡ Some j → of_link (nth_link x j) ≡ attributed h p x
    unfolding attributed
    there {j} e =
        sym (ap (λ (o : Option LinkRec). option o false of_link) (find_at (numbered k) x.links j e no_link))
        ∙ ap (λ (m : ℕ). option (find (numbered m) x.links) false of_link) q

    pub not_attributed : scan (numbered k) 0 x.links ≡ None → false ≡ attributed h p x
    unfolding attributed
    not_attributed e =
        sym (ap (λ (o : Option LinkRec). option o false of_link) (find_nowhere (numbered k) x.links e))
        ∙ ap (λ (m : ℕ). option (find (numbered m) x.links) false of_link) q

    pub by_setup : {j : ℕ} {a : Bool} → scan (numbered k) 0 x.links ≡ Some j → a ≡ same_pair p (nth_link x j).setup → a ≡ true → true ≡ attributed h p x
    by_setup {j} e v w = sym (ap (λ (y : Bool). y || same_pair p h.current || any (proven_at p) (nth_link x j).paths) (sym v ∙ w)) ∙ there e

    either : (y a b : Bool) → a ≡ true → true ≡ y || a || b
    either true a b w = refl
    either false a b w = rw w

    pub by_current : {j : ℕ} {a : Bool} → scan (numbered k) 0 x.links ≡ Some j → a ≡ same_pair p h.current → a ≡ true → true ≡ attributed h p x
    by_current {j} e v w = either (same_pair p (nth_link x j).setup) (same_pair p h.current) (any (proven_at p) (nth_link x j).paths) (sym v ∙ w) ∙ there e

    pub by_path : {j : ℕ} {a b c : Bool} → scan (numbered k) 0 x.links ≡ Some j → a ≡ same_pair p (nth_link x j).setup → a ≡ false → b ≡ same_pair p h.current → b ≡ false
        → c ≡ any (proven_at p) (nth_link x j).paths → c ≡ attributed h p x
    by_path {j} e v w m n g =
        g
        ∙ sym (ap (λ (y : Bool). y || any (proven_at p) (nth_link x j).paths) (sym m ∙ n))
        ∙ sym (ap (λ (y : Bool). y || same_pair p h.current || any (proven_at p) (nth_link x j).paths) (sym v ∙ w))
        ∙ there e

-- ---- answers against the settings' pending
pub full_is : (x : Table) {m n : ℕ} {b : Bool} → m ≡ x.params.pending → n ≡ rule.answering x.legs → b ≡ leb m n → b ≡ full x
unfolding full
full_is x e q v = v ∙ rw (e, q)
