-- Zeroed memory has no legs; and regions that fit and show the same are the same bytes.
use Rattle.std.specs.Prelude.{◌≡◌, refl, Bool, true, false, [], map, ℕ, length, take, drop, replicate, if◌then◌else◌}
use Rattle.std.proofs.Common.{sym, ap, ◌∙◌, arith, lit≤}
use Rattle.std.proofs.lemmas.List.{get_or-replicate}
use Rattle.rules.specs.Base.{Bytes, All}
use Rattle.rules.specs.Bounds.{IsByte}
use Rattle.rules.specs.Data.{Answered, Kind, Leg}
use Rattle.lib_laws.specs.Cell.{flag_of, flag_same, text_same, option_num_same, option_bytes_same}
use Rattle.lib_laws.specs.Chunk.{chunks}
use Rattle.lib_laws.specs.Fields.{cuts, sum}
use Rattle.lib_laws.specs.Store.{store_zeros, same_view}
use Rattle.lib_laws.specs.Same.{cell_bytes, num_cells, cells_same, with_bytes}
use Rattle.legs_entry.specs.View.{answer_from, kind_from, leg_of, FitLegCell, view_legs, FitLegs, fit_zeros}
use Rattle.legs_entry.specs.Layout.{at_leg_count, leg_cap, leg_width, legs_len, at_epoch, leg_ws, at_next_resend, at_answer, at_sent, at_answer_sent, at_msg2, at_replaces, at_msg2_bytes, at_digest, at_lease}

-- ---- new memory
pub fit_new : FitLegs (replicate legs_len 0)
fit_new = store_zeros FitLegCell leg_width leg_cap fit_zeros

pub shows_none : view_legs (replicate legs_len 0) ≡ []
shows_none = ap (λ (n : ℕ). map leg_of (take n (chunks leg_width leg_cap (replicate legs_len 0)))) (get_or-replicate legs_len at_leg_count 0 0 (lit≤ tt))

-- ---- equal contents are equal bytes
-- the cells that tell dials and answers apart, and those of an answer
module _ (c d : Bytes) where
  pub record Alike : Type 0 where
    pub answer : take 1 (drop at_answer c) ≡ take 1 (drop at_answer d)
    pub answer_sent : take 1 (drop at_answer_sent c) ≡ take 1 (drop at_answer_sent d)
    pub replaces : take 1 (drop at_replaces c) ≡ take 1 (drop at_replaces d)
    pub epoch : take 8 (drop at_epoch c) ≡ take 8 (drop at_epoch d)
    pub digest : take 32 (drop at_digest c) ≡ take 32 (drop at_digest d)
    pub len2 : take 1 (drop at_msg2 c) ≡ take 1 (drop at_msg2 d)
    pub msg2 : take 128 (drop at_msg2_bytes c) ≡ take 128 (drop at_msg2_bytes d)

module _ (c d : Bytes) (f : FitLegCell c) (g : FitLegCell d) (h : length c ≡ leg_width) (k : length d ≡ leg_width) (a : All IsByte c) (b : All IsByte d) where
  kinds_alike : kind_from (cuts 0 0 leg_ws c) ≡ kind_from (cuts 0 0 leg_ws d) → Alike c d
  kinds_alike e = go (flag_of (take 1 (drop at_answer c))) (flag_of (take 1 (drop at_answer d))) refl refl e
    where
      go : (x y : Bool) → flag_of (take 1 (drop at_answer c)) ≡ x → flag_of (take 1 (drop at_answer d)) ≡ y
          → (if x then Kind.Answer (answer_from (cuts 0 0 leg_ws c)) else Kind.Dial) ≡ (if y then Kind.Answer (answer_from (cuts 0 0 leg_ws d)) else Kind.Dial) → Alike c d
      go true true p q z =
          let w : answer_from (cuts 0 0 leg_ws c) ≡ answer_from (cuts 0 0 leg_ws d) = cc in
          let m = text_same f.msg2 g.msg2 (ap (λ (r : Answered). r.msg2) w) in
          record {
            answer = flag_same f.answer g.answer (p ∙ sym q);
            answer_sent = flag_same f.answer_sent g.answer_sent (ap (λ (r : Answered). r.sent) w);
            replaces = flag_same f.replaces g.replaces (ap (λ (r : Answered). r.replaces) w);
            epoch = num_cells 8 at_epoch c d (omega arith) (omega arith) a b (ap (λ (r : Answered). r.epoch) w);
            digest = ap (λ (r : Answered). r.ephemeral) w;
            len2 = m.0;
            msg2 = m.1;
          }
      go true false p q z = let n : ◌≡◌ {A = ℕ} 0 1 = cc in absurd (omega arith)
      go false true p q z = let n : ◌≡◌ {A = ℕ} 0 1 = cc in absurd (omega arith)
      go false false p q z =
          let u = f.dial p in
          let v = g.dial q in
          record {
            answer = flag_same f.answer g.answer (p ∙ sym q);
            answer_sent = u.answer_sent ∙ sym v.answer_sent;
            replaces = u.replaces ∙ sym v.replaces;
            epoch = u.epoch ∙ sym v.epoch;
            digest = u.digest ∙ sym v.digest;
            len2 = u.len2 ∙ sym v.len2;
            msg2 = u.msg2 ∙ sym v.msg2;
          }

  entry_same : leg_of c ≡ leg_of d → c ≡ d
  unfolding sum
  entry_same e =
      let m = kinds_alike (ap (λ (g : Leg). g.kind) e) in
      let n = option_num_same f.next g.next (cell_bytes 8 at_next_resend c a) (cell_bytes 8 at_next_resend d b) (ap (λ (g : Leg). g.next) e) in
      let p = option_bytes_same f.peer g.peer (ap (λ (g : Leg). g.peer) e) in
      let t = text_same f.msg1 g.msg1 (ap (λ (g : Leg). g.msg1) e) in
      cells_same 0 leg_ws c d h k
      (rw (
        num_cells 8 0 c d (omega arith) (omega arith) a b (ap (λ (g : Leg). g.link) e),
        num_cells 8 8 c d (omega arith) (omega arith) a b (ap (λ (g : Leg). g.deadline) e),
        n.0,
        n.1,
        num_cells 4 at_sent c d (omega arith) (omega arith) a b (ap (λ (g : Leg). g.sent) e),
        num_cells 4 at_lease c d (omega arith) (omega arith) a b (ap (λ (g : Leg). g.lease) e),
        m.answer,
        p.0,
        p.1,
        m.answer_sent,
        m.replaces,
        m.epoch,
        m.digest,
        t.0,
        t.1,
        m.len2,
        m.msg2,
      ))

pub same_legs : {s u : Bytes} → FitLegs s → FitLegs u → All IsByte s → All IsByte u → view_legs s ≡ view_legs u → s ≡ u
same_legs f g a b e = same_view leg_of (with_bytes f a) (with_bytes g b) (λ c d p q. entry_same c d p.0.0 q.0.0 p.1 q.1 p.0.1 q.0.1) e
