-- The loop of `run`: what is left of the tape makes the whole.
use Rattle.std.specs.Prelude.{◌≡◌, refl, true, false, ℕ, ◌+◌, ◌-◌, ◌≤◌, ◌<◌, length, take, drop}
use Rattle.std.proofs.Common.{sym, ap, ◌∙◌, subst, arith, take_at, drop_at, drop-drop, length-append, drop_of_length-le}
use mathlib.Core.List.{List, [], ◌∷◌, ◌++◌, append_assoc, append-nil}
use borrow.Rule.Slice.PartMut.{put_mid, same_len_mid}
use Rattle.std.proofs.Math.ListN.{length-drop}
use Rattle.rules.specs.Base.{Bytes, empty}
use Rattle.rules.specs.Tape.{extent}
use Rattle.lib_laws.specs.Parse.{rest_of_lem}
use Rattle.settle.specs.Contract.{Left}
use Rattle.tape.specs.Layout.{out_len}
use Rattle.tape.specs.Session.{State, Before, next}
use Rattle.tape.specs.Cut.{records_of, ends, records_first, records_none}
use Rattle.tape.specs.Within.{behind, within}
use Rattle.tape.proofs.Within.{within_full, within_next}
use Rattle.tape.specs.Step.{state_of, Steps, step_fits, before_not}
use Rattle.tape.proofs.Step.{stays}
use Rattle.tape.specs.declared.session.Phase.{Phase}
use Rattle.tape.specs.declared.session.Phase.TheVariants as phase
use Rattle.tape.specs.Run.{ran_in, Runs}

pub record Going (s t₀ o₀ : Bytes) (p : Phase) (at len : ℕ) (t o : Bytes) : Type 0 where
  pub place : at ≤ length s
  pub table : length t ≡ length t₀
  pub out : length o ≡ length o₀
  pub written : Bytes
  pub size : len ≡ length written
  pub room : len ≤ length o₀
  pub bytes : o ≡ written ++ drop len o₀
  pub goes : ran_in s o₀ ≡ behind written (within (length o₀ - len) (records_of (drop at s)) (state_of p t))
  pub left : p ≡ phase.Running → Left t
  pub kept : (p ≡ phase.Running → ⊥) → t ≡ t₀

pub going_start : (s t o : Bytes) → Going s t o phase.Before 0 0 t o
going_start s t o = record {
  place = omega arith;
  table = refl;
  out = refl;
  written = [];
  size = refl;
  room = omega arith;
  bytes = refl;
  goes = let e : length o ≡ length o - 0 = omega arith in ap (λ (k : ℕ). within k (records_of s) Before) e;
  left = λ z. absurd (before_not z);
  kept = λ z. refl;
}

-- the part of the buffer behind what is written
abbrev pub rest_of : Bytes → ℕ → Bytes
rest_of o len = take (length o - len) (drop len o)

-- the record that is next
abbrev pub next_of : Bytes → ℕ → Bytes
next_of s at = take (extent (drop at s)) (drop at s)

module _ {s t₀ o₀ : Bytes} {p : Phase} {at len : ℕ} {t o : Bytes} (g : Going s t₀ o₀ p at len t o) where
  left_more : at < length s → records_of (drop at s) ≡ next_of s at ∷ records_of (drop (at + extent (drop at s)) s)
  left_more h =
      records_first (drop at s) (omega (arith, length-drop at s))
      ∙ ap (λ (d : Bytes). next_of s at ∷ records_of d) (drop-drop (extent (drop at s)) at s)

  module _ {m : ℕ} (e : m ≡ extent (take (length s - at) (drop at s))) where
    next_size : m ≡ extent (drop at s)
    next_size = e ∙ ap extent (rest_of_lem at s)

    -- the next record ends within the tape, and has a byte
    pub next_end : at + m ≤ length s
    next_end = omega (arith, next_size, (ends (drop at s)).within, length-drop at s, g.place)

    pub next_some : at < length s → 0 < m
    next_some h =
        let d : 0 < length (drop at s) = omega (arith, length-drop at s, h) in
        omega (arith, next_size, (ends (drop at s)).some d)

    next_is : take (at + m - at) (drop at s) ≡ next_of s at
    next_is = let f : at + m - at ≡ extent (drop at s) = omega (arith, next_size) in ap (λ (k : ℕ). take k (drop at s)) f

  pub rest_size : length (rest_of o len) ≡ length o - len
  rest_size = ap length (rest_of_lem len o) ∙ length-drop len o

  front_is : take len o ≡ g.written
  front_is = ap (λ (x : Bytes). take len x) g.bytes ∙ take_at g.written (drop len o₀) len (sym g.size)

  rest_is : rest_of o len ≡ drop len o₀
  rest_is = rest_of_lem len o ∙ ap (λ (x : Bytes). drop len x) g.bytes ∙ drop_at g.written (drop len o₀) len (sym g.size)

  module _ {r t' b : Bytes} {q : Phase} {n : ℕ} (a : Steps p t r (rest_of o len) t' b q n) (k : length b ≡ length (rest_of o len)) where
    pub step_size : n ≤ length o - len
    step_size = omega (arith, k, rest_size, step_fits a)

    left_next : r ≡ next_of s at → at < length s → out_len ≤ length o - len
        → within (length o₀ - len) (records_of (drop at s)) (state_of p t) ≡ behind (next r (state_of p t)).0 (within (length o₀ - (len + n)) (records_of (drop (at + extent (drop at s)) s)) (state_of q t'))
    left_next e h m =
        let x : State = state_of p t in
        let l : List Bytes = records_of (drop (at + extent (drop at s)) s) in
        let room : length o₀ - len - length (next r x).0 ≡ length o₀ - (len + n) = omega (arith, a.size) in
        let enough : out_len ≤ length o₀ - len = omega (arith, g.out, m) in
        ap (λ (l : List Bytes). within (length o₀ - len) l x) (left_more h ∙ ap (λ (z : Bytes). z ∷ l) (sym e))
        ∙ within_next r l x enough
        ∙ ap (λ (k : ℕ). behind (next r x).0 (within k l (next r x).1)) room
        ∙ ap (λ (y : State). behind (next r x).0 (within (length o₀ - (len + n)) l y)) (sym a.state)

    step_bytes : put_mid len (length o - len) o b ≡ g.written ++ (next r (state_of p t)).0 ++ drop (len + n) o₀
    step_bytes =
        let w : Bytes = (next r (state_of p t)).0 in
        let none : drop (length o - len) (drop len o) ≡ [] = drop_of_length-le (drop len o) {i = length o - len} (omega (arith, length-drop len o)) in
        ap (λ (z : Bytes). z ++ (b ++ drop (length o - len) (drop len o))) front_is
        ∙ ap (λ (z : Bytes). g.written ++ z) (ap (λ (z : Bytes). b ++ z) none ∙ append-nil b ∙ a.bytes ∙ ap (λ (z : Bytes). w ++ drop n z) rest_is ∙ ap (λ (z : Bytes). w ++ z) (drop-drop n len o₀))
        ∙ sym (append_assoc g.written w (drop (len + n) o₀))

    going_turn : r ≡ next_of s at → at < length s → out_len ≤ length o - len → length t' ≡ length t → Going s t₀ o₀ q (at + extent (drop at s)) (len + n) t' (put_mid len (length o - len) o b)
    going_turn e h m l =
        let w : Bytes = (next r (state_of p t)).0 in
        let u : Bytes × List Bytes × State = within (length o₀ - (len + n)) (records_of (drop (at + extent (drop at s)) s)) (state_of q t') in
        record {
          place = omega (arith, (ends (drop at s)).within, length-drop at s, h);
          table = l ∙ g.table;
          out = same_len_mid len (length o - len) o b k ∙ g.out;
          written = g.written ++ w;
          size = omega (arith, g.size, a.size, length-append g.written w);
          room = omega (arith, step_size, g.out, g.room);
          bytes = step_bytes;
          goes =
              g.goes
              ∙ ap (λ (y : Bytes × List Bytes × State). behind g.written y) (left_next e h m)
              ∙ ap (λ (z : Bytes). (z, u.1, u.2)) (sym (append_assoc g.written w u.0));
          left = a.left;
          kept = λ z. a.kept z ∙ g.kept (λ y. z (stays a y));
        }

  -- a turn: the record of m bytes that is next
  pub going_step : {m : ℕ} {t' b : Bytes} {q : Phase} {n : ℕ} → m ≡ extent (take (length s - at) (drop at s)) → at < length s → out_len ≤ length o - len
      → Steps p t (take (at + m - at) (drop at s)) (rest_of o len) t' b q n → length b ≡ length (rest_of o len) → length t' ≡ length t
      → Going s t₀ o₀ q (at + m) (len + n) t' (put_mid len (length o - len) o b)
  going_step {m} {t'} {b} {q} {n} e h f a k l =
      subst (λ (i : ℕ). Going s t₀ o₀ q (at + i) (len + n) t' (put_mid len (length o - len) o b)) (sym (next_size e)) (going_turn a k (next_is e) h f l)

  -- nothing more is written, and the records l are left
  ran : (l : List Bytes) → within (length o₀ - len) (records_of (drop at s)) (state_of p t) ≡ ([], l, state_of p t) → Runs s t₀ o₀ t o p len (empty l)
  ran l e =
      let f : ran_in s o₀ ≡ (g.written, l, state_of p t) =
      g.goes ∙ ap (λ (y : Bytes × List Bytes × State). behind g.written y) e ∙ ap (λ (z : Bytes). (z, l, state_of p t)) (append-nil g.written) in
      record {
        bytes = g.bytes ∙ sym (ap (λ (y : Bytes × List Bytes × State). y.0 ++ drop len o₀) f);
        size = g.size ∙ sym (ap (λ (y : Bytes × List Bytes × State). length y.0) f);
        whole = sym (ap (λ (y : Bytes × List Bytes × State). empty y.1) f);
        state = sym (ap (λ (y : Bytes × List Bytes × State). y.2) f);
        left = g.left;
        kept = g.kept;
      }

  -- too little room for the next record
  pub going_full : at < length s → length o - len < out_len → Runs s t₀ o₀ t o p len false
  going_full h m =
      let l : List Bytes = records_of (drop (at + extent (drop at s)) s) in
      let few : length o₀ - len < out_len = omega (arith, g.out, m) in
      ran (next_of s at ∷ l) (ap (λ (l : List Bytes). within (length o₀ - len) l (state_of p t)) (left_more h) ∙ within_full (next_of s at) l (state_of p t) few)

  -- no record is left
  pub going_end : length s ≤ at → Runs s t₀ o₀ t o p len true
  unfolding within
  going_end h = ran [] (ap (λ (l : List Bytes). within (length o₀ - len) l (state_of p t)) (records_none (drop at s) (omega (arith, length-drop at s, h))))
