-- What a field's reader accepts fits its width and is the only spelling of it, and what is spelt reads back.
use Rattle.std.specs.Prelude.{if◌then◌else◌, None, Option, Some, slice_get}
use mathlib.Core.Path.{◌≡◌, refl, sym, ap, subst, ◌∙◌}
use mathlib.Core.Bool.{Bool, true, false}
use mathlib.Core.List.{List, [], ◌∷◌, ◌++◌, append_assoc, append-nil}
use Prim.Native.Nat.{ℕ, zero, suc, ◌+◌, ◌*◌, ◌/◌, ◌%◌, ◌^◌, ◌<◌}
use native.Mathlib.Nat.{pow-suc, div-lt_iff_lt-mul}
use native.Mathlib.Omega.{arith}
use borrow.Author.Tests.{leb-true, le-leb}
use lib.Arith.{digits_lt}
use lib.Dec.{leb, lit<}
use lib.Seq.{take_at, drop_at, length-take-le}
use lib.ListN.{length, take, drop, length-append, take-append-drop}
use Rattle.rules.specs.Base.{option, one, Bytes, All}
use Rattle.rules.specs.Data.{Live, Acked, Probing, Why, Ended, Orphaned, Disconnect, Dead, Admin, Closed, OwnRestart}
use Rattle.rules.specs.Field.{Reader, give, fail, bind, more, digits, bytes, number, up_to, code, flags, flag, whys, states, why_code, state_code, pair, message, pair_bytes, message_bytes}
use Rattle.rules.specs.Bounds.{IsByte, Exactly, AtMost, PairFits}

-- ---- a reader for the values that P holds of, spelt by w

-- a stands at the front of s, and r is left
pub record Taken {A : Type 0} (P : A → Type 0) (w : A → Bytes) (s : Bytes) (a : A) (r : Bytes) : Type 0 where
  pub fits : P a
  pub spelt : s ≡ w a ++ r
  pub rest : All IsByte r

pub record Reads {A : Type 0} (p : Reader A) (P : A → Type 0) (w : A → Bytes) : Type 0 where
  pub takes : (s : Bytes) (a : A) (r : Bytes) → All IsByte s → p s ≡ Some (a, r) → Taken P w s a r
  pub back : (a : A) (r : Bytes) → P a → p (w a ++ r) ≡ Some (a, r)

-- what q reads, it reads from bytes u that R relates to the value
pub record Used {B : Type 0} (R : B → Bytes → Type 0) (s : Bytes) (b : B) (r : Bytes) : Type 0 where
  pub front : Bytes
  pub split : s ≡ front ++ r
  pub means : R b front
  pub rest : All IsByte r

pub record Yields {B : Type 0} (q : Reader B) (R : B → Bytes → Type 0) : Type 0 where
  pub used : (s : Bytes) (b : B) (r : Bytes) → All IsByte s → q s ≡ Some (b, r) → Used R s b r

-- q reads b from u, whatever follows
pub record Speaks {B : Type 0} (q : Reader B) (u : Bytes) (b : B) : Type 0 where
  pub said : (r : Bytes) → q (u ++ r) ≡ Some (b, r)

-- ---- sequences

pub not_some : {A C : Type 0} {a : A} → None ≡ Some a → C
not_some e = absurd (let z : ◌≡◌ {A = ℕ} 0 1 = cc in omega arith)

module _ {B : Type 0} where
  pub give_yields : {c : B} {R : B → Bytes → Type 0} → R c [] → Yields (give c) R
  give_yields {c} {R} m = record { used = λ s b r h e. let z : ◌≡◌ {A = B × Bytes} (c, s) (b, r) = cc in go s b r h z }
    where
      go : (s : Bytes) (b : B) (r : Bytes) → All IsByte s → ◌≡◌ {A = B × Bytes} (c, s) (b, r) → Used R s b r
      go s b r h e =
          let f : s ≡ r = ap (λ (x : B × Bytes). x.1) e in
          record { front = []; split = f; means = rw (ap (λ (x : B × Bytes). x.0) e) at m; rest = rw f at h }

  pub yields_so : {q : Reader B} {Q R : B → Bytes → Type 0} → Yields q Q → ((b : B) (u : Bytes) → Q b u → R b u) → Yields q R
  yields_so y g = record { used = λ s b r h e. let u = y.used s b r h e in record { front = u.front; split = u.split; means = g b u.front u.means; rest = u.rest } }

  pub fail_yields : {R : B → Bytes → Type 0} → Yields fail R
  fail_yields = record { used = λ s b r h e. not_some e }

  pub give_speaks : {c : B} → Speaks (give c) [] c
  give_speaks = record { said = λ r. refl }

  -- the bytes written otherwise
  pub so_speaks : {q : Reader B} {u v : Bytes} {b : B} → Speaks q u b → u ≡ v → Speaks q v b
  so_speaks h e = rw (← e) h

pub record Bound {A B : Type 0} (p : Reader A) (k : A → Reader B) (s : Bytes) (x : B × Bytes) : Type 0 where
  pub value : A
  pub left : Bytes
  pub first : p s ≡ Some (value, left)
  pub second : k value left ≡ Some x

module _ {A B : Type 0} (p : Reader A) (k : A → Reader B) where
  pub bound : (s : Bytes) (x : B × Bytes) → bind p k s ≡ Some x → Bound p k s x
  unfolding bind
  bound s x e = go (p s) refl e
    where
      go : (o : Option (A × Bytes)) → p s ≡ o → option o None (λ r. k r.0 r.1) ≡ Some x → Bound p k s x
      go None f h = not_some h
      go (Some y) f h = record { value = y.0; left = y.1; first = f; second = h }

  pub bind_at : (s : Bytes) (a : A) (r : Bytes) → p s ≡ Some (a, r) → bind p k s ≡ k a r
  unfolding bind
  bind_at s a r e = rw e

pub bind_yields : {A B : Type 0} {p : Reader A} {k : A → Reader B} {Q : A → Bytes → Type 0} {R : B → Bytes → Type 0}
    → Yields p Q → ((a : A) (u : Bytes) → Q a u → Yields (k a) (λ b v. R b (u ++ v))) → Yields (bind p k) R
bind_yields {A} {B} {p} {k} {Q} {R} f g = record { used = λ s b r h e. go s b r (bound p k s (b, r) e) h }
  where
    go : (s : Bytes) (b : B) (r : Bytes) → Bound p k s (b, r) → All IsByte s → Used R s b r
    go s b r x h =
        let t = f.used s x.value x.left h x.first in
        let u = (g x.value t.front t.means).used x.left b r t.rest x.second in
        record {
          front = t.front ++ u.front;
          split = t.split ∙ ap (λ (v : Bytes). t.front ++ v) u.split ∙ sym (append_assoc t.front u.front r);
          means = u.means;
          rest = u.rest;
        }

pub bind_speaks : {A B : Type 0} (p : Reader A) (k : A → Reader B) {a : A} {u v : Bytes} {b : B} → Speaks p u a → Speaks (k a) v b → Speaks (bind p k) (u ++ v) b
bind_speaks p k {a} {u} {v} f g = record { said = λ r. rw append_assoc (bind_at p k (u ++ (v ++ r)) a (v ++ r) (f.said (v ++ r)) ∙ g.said r) }

module _ {A : Type 0} {p : Reader A} {P : A → Type 0} {w : A → Bytes} (f : Reads p P w) where
  -- p alone
  pub last_yields : {R : A → Bytes → Type 0} → ((a : A) → P a → R a (w a)) → Yields p R
  last_yields {R} g = record { used = λ s a r h e. let t = f.takes s a r h e in record { front = w a; split = t.spelt; means = g a t.fits; rest = t.rest } }

  pub last_speaks : {a : A} → P a → Speaks p (w a) a
  last_speaks {a} h = record { said = λ r. f.back a r h }

module _ {A B : Type 0} {p : Reader A} {P : A → Type 0} {w : A → Bytes} (f : Reads p P w) where
  -- p, then the rest
  pub then_yields : {k : A → Reader B} {R : B → Bytes → Type 0} → ((a : A) → P a → Yields (k a) (λ b v. R b (w a ++ v))) → Yields (bind p k) R
  then_yields {k} {R} g = bind_yields {Q = λ a u. P a × (u ≡ w a)} (last_yields f λ a h. (h, refl)) λ a u q. rw q.1 (g a q.0)

  pub then_speaks : (k : A → Reader B) {a : A} {v : Bytes} {b : B} → P a → Speaks (k a) v b → Speaks (bind p k) (w a ++ v) b
  then_speaks k h g = bind_speaks p k (last_speaks f h) g

-- ---- numbers and bytes

all_append : (P : ℕ → Type 0) (s t : Bytes) → All P (s ++ t) → All P s × All P t
all_append P [] t h = (tt, h)
all_append P (a ∷ s) t h = let k = all_append P s t h.1 in ((h.0, k.0), k.1)

-- v and the bytes, of the number that they spell
digits_more : (m n v : ℕ) (s : Bytes) → length s + n ≡ m → All IsByte s → digits m (more v s) ≡ digits n v ++ s
unfolding more digits
digits_more m n v [] e h = let f : m ≡ n = omega arith in rw f (sym (append-nil (digits n v)))
digits_more m n v (b ∷ s) e h =
    let small : b < 256 = h.0 in
    let q : (v * 256 + b) / 256 ≡ v = omega arith in
    let r : (v * 256 + b) % 256 ≡ b = omega arith in
    digits_more m (suc n) (v * 256 + b) s (omega arith) h.1 ∙ rw (q, r) (append_assoc (digits n v) (b ∷ []) s)

more_small : (m n v : ℕ) (s : Bytes) → length s + n ≡ m → All IsByte s → v < 256 ^ n → more v s < 256 ^ m
unfolding more
more_small m n v [] e h k = let f : m ≡ n = omega arith in rw f k
more_small m n v (b ∷ s) e h k = more_small m (suc n) (v * 256 + b) s (omega arith) h.1 (rw pow-suc (digits_lt k h.0))

more_snoc : (v : ℕ) (s : Bytes) (b : ℕ) → more v (s ++ (b ∷ [])) ≡ more v s * 256 + b
unfolding more
more_snoc v [] b = refl
more_snoc v (a ∷ s) b = more_snoc (v * 256 + a) s b

more_digits : (n v : ℕ) → v < 256 ^ n → more 0 (digits n v) ≡ v
unfolding more digits
more_digits zero v h = omega arith
more_digits (suc n) v h =
    let q : v < 256 ^ n * 256 = rw pow-suc at h in
    rw (more_snoc 0 (digits n (v / 256)) (v % 256), more_digits n (v / 256) ((div-lt_iff_lt-mul (lit< tt)).1 q)) (omega arith)

pub length_digits : (n v : ℕ) → length (digits n v) ≡ n
unfolding digits
length_digits zero v = refl
length_digits (suc n) v = rw (length-append, length_digits n (v / 256)) (omega arith)

-- ---- fields of a set size

-- a is f of the first n bytes of s, and r the others
record Cut {A : Type 0} (f : Bytes → A) (n : ℕ) (s : Bytes) (a : A) (r : Bytes) : Type 0 where
  front : Bytes
  value : f front ≡ a
  fits : Exactly n front
  whole : s ≡ front ++ r
  rest : All IsByte r

module _ {A : Type 0} (f : Bytes → A) (n : ℕ) where
  abbrev cut_if : Bool → Bytes → Option (A × Bytes)
  cut_if b s = if b then Some (f (take n s), drop n s) else None

  cut : (s : Bytes) (a : A) (r : Bytes) → All IsByte s → cut_if (leb n (length s)) s ≡ Some (a, r) → Cut f n s a r
  cut s a r h e = go (leb n (length s)) refl e
    where
      go : (b : Bool) → leb n (length s) ≡ b → cut_if b s ≡ Some (a, r) → Cut f n s a r
      go false c e = not_some e
      go true c e =
          let z : ◌≡◌ {A = A × Bytes} (f (take n s), drop n s) (a, r) = cc in
          let k = all_append IsByte (take n s) (drop n s) (rw (take-append-drop n s) h) in
          let d : drop n s ≡ r = ap (λ (x : A × Bytes). x.1) z in
          record {
            front = take n s;
            value = ap (λ (x : A × Bytes). x.0) z;
            fits = record { size = length-take-le n s (leb-true n (length s) c); each = k.0 };
            whole = sym (take-append-drop n s) ∙ ap (λ (x : Bytes). take n s ++ x) d;
            rest = rw d at k.1;
          }

  cut_back : (s r : Bytes) → length s ≡ n → cut_if (leb n (length (s ++ r))) (s ++ r) ≡ Some (f s, r)
  cut_back s r e = rw (le-leb n (length (s ++ r)) (simp length-append (omega arith)), take_at s r n e, drop_at s r n e)

pub bytes_reads : (n : ℕ) → Reads (bytes n) (Exactly n) (λ s. s)
unfolding bytes
bytes_reads n = record {
  takes = λ s a r h e. go s a r (cut (λ x. x) n s a r h e);
  back = λ a r h. cut_back (λ x. x) n a r h.size;
}
  where
    go : (s a r : Bytes) → Cut (λ x. x) n s a r → Taken (Exactly n) (λ x. x) s a r
    go s a r c = record { fits = rw c.value at c.fits; spelt = rw c.value at c.whole; rest = c.rest }

pub number_reads : (n : ℕ) → Reads (number n) (λ v. v < 256 ^ n) (digits n)
unfolding number digits
number_reads n = record {
  takes = λ s a r h e. go s a r (cut (more 0) n s a r h e);
  back = λ a r h. cut_back (more 0) n (digits n a) r (length_digits n a) ∙ rw (more_digits n a h);
}
  where
    go : (s : Bytes) (a : ℕ) (r : Bytes) → Cut (more 0) n s a r → Taken (λ v. v < 256 ^ n) (digits n) s a r
    go s a r c =
        let e : length c.front + 0 ≡ n = omega (arith, c.fits.size) in
        record {
          fits = rw c.value at (more_small n 0 0 c.front e c.fits.each (lit< tt));
          spelt = c.whole ∙ ap (λ (x : Bytes). x ++ r) (sym (rw c.value at (digits_more n 0 0 c.front e c.fits.each)));
          rest = c.rest;
        }

-- ---- fields of a told size

-- at most so many bytes, their number told before
pub record Sized (limit n : ℕ) (s : Bytes) : Type 0 where
  pub told : length s ≡ n
  pub fits : AtMost limit s

pub up_to_reads : (limit n : ℕ) → Reads (up_to limit n) (Sized limit n) (λ s. s)
unfolding up_to
up_to_reads limit n = record {
  takes = λ s a r h e. go s a r h (leb n limit) refl e;
  back = λ a r h. rw (le-leb n limit (omega (arith, h.told, h.fits.size))) ((bytes_reads n).back a r (record { size = h.told; each = h.fits.each }));
}
  where
    go : (s a r : Bytes) → All IsByte s → (b : Bool) → leb n limit ≡ b → (if b then bytes n s else None) ≡ Some (a, r) → Taken (Sized limit n) (λ x. x) s a r
    go s a r h false c e = not_some e
    go s a r h true c e =
        let t = (bytes_reads n).takes s a r h e in
        record {
          fits = record { told = t.fits.size; fits = record { size = omega (arith, t.fits.size, leb-true n limit c); each = t.fits.each } };
          spelt = t.spelt;
          rest = t.rest;
        }

-- ---- codes

-- the place of each value in the table of what a code byte may say
pub record Codes {A : Type 0} (meanings : List A) (code_of : A → ℕ) : Type 0 where
  pub there : (a : A) → slice_get meanings (code_of a) ≡ Some a
  pub only : (k : ℕ) (a : A) → slice_get meanings k ≡ Some a → k ≡ code_of a
  pub small : (a : A) → code_of a < 256

-- what holds of each element and its place, counted from i
infixr 5 ◌&◌
pub data Each {A : Type 0} (P : ℕ → A → Type 0) : ℕ → List A → Type 0 where
  no_more : {i : ℕ} → Each P i []
  ◌&◌ : {i : ℕ} {a : A} {s : List A} → P i a → Each P (suc i) s → Each P i (a ∷ s)

each_from : {A : Type 0} {P : ℕ → A → Type 0} {i : ℕ} {s : List A} (k : ℕ) (a : A) → Each P i s → slice_get s k ≡ Some a → P (i + k) a
each_from k a no_more e = not_some e
each_from {P = P} {i = i} zero a (h & t) e =
    let g : i ≡ i + 0 = omega arith in
    rw (← g) (subst (P i) (cc) h)
each_from {i = i} (suc k) a (h & t) e =
    let g : suc i + k ≡ i + suc k = omega arith in
    rw g at (each_from k a t e)

pub each_at : {A : Type 0} {P : ℕ → A → Type 0} {s : List A} → Each P 0 s → (k : ℕ) (a : A) → slice_get s k ≡ Some a → P k a
each_at h k a e = let z : 0 + k ≡ k = omega arith in rw z at (each_from k a h e)

pub digit : (v : ℕ) → v < 256 → digits 1 v ≡ v ∷ []
unfolding digits
digit v h = let e : v % 256 ≡ v = omega arith in rw e

-- both directions make a reader
pub both_ways : {A : Type 0} {p : Reader A} {P : A → Type 0} {w : A → Bytes}
    → Yields p (λ a u. P a × (u ≡ w a)) → ((a : A) → P a → Speaks p (w a) a) → Reads p P w
both_ways {A} {p} {P} {w} y k = record { takes = λ s a r h e. go s a r (y.used s a r h e); back = λ a r h. (k a h).said r }
  where
    go : (s : Bytes) (a : A) (r : Bytes) → Used (λ a u. P a × (u ≡ w a)) s a r → Taken P w s a r
    go s a r u = record { fits = u.means.0; spelt = rw u.means.1 at u.split; rest = u.rest }

-- u is the code byte of a
pub record At {A : Type 0} (meanings : List A) (a : A) (u : Bytes) : Type 0 where
  pub place : ℕ
  pub there : slice_get meanings place ≡ Some a
  pub spelt : u ≡ place ∷ []

module _ {A : Type 0} (meanings : List A) where
  pub code_yields : Yields (code meanings) (At meanings)
  unfolding code
  code_yields = then_yields (number_reads 1) λ k h. yields k h (slice_get meanings k) refl
    where
      yields : (k : ℕ) → k < 256 → (o : Option A) → slice_get meanings k ≡ o → Yields (λ s. option o None λ a. Some (a, s)) (λ a u. At meanings a (digits 1 k ++ u))
      yields k h None e = fail_yields
      yields k h (Some a) e = give_yields (record { place = k; there = e; spelt = rw (digit k h) })

  pub code_speaks : (k : ℕ) (a : A) → k < 256 → slice_get meanings k ≡ Some a → Speaks (code meanings) (k ∷ []) a
  unfolding code
  code_speaks k a h e = so_speaks (then_speaks (number_reads 1) _ {v = []} h (record { said = λ r. rw e })) (rw (digit k h))

  pub code_reads : (code_of : A → ℕ) → Codes meanings code_of → Reads (code meanings) (λ a. Unit {0}) (λ a. code_of a ∷ [])
  code_reads code_of c = both_ways
      (yields_so code_yields λ a u t. (tt, t.spelt ∙ rw (c.only t.place a t.there)))
      (λ a h. code_speaks (code_of a) a (c.small a) (c.there a))

-- ---- code tables: each value has its place, and no other

pub flag_codes : Codes flags one
flag_codes = record {
  there = λ b. elim b as (λ k. slice_get flags (one k) ≡ Some k) [ true ↦ refl | false ↦ refl ];
  only = each_at (refl & refl & no_more);
  small = λ b. elim b as (λ k. one k < 256) [ true ↦ lit< tt | false ↦ lit< tt ];
}

pub state_codes : Codes states state_code
state_codes = record {
  there = λ v. elim v as (λ k. slice_get states (state_code k) ≡ Some k) [ Live ↦ refl | Acked ↦ refl | Probing ↦ refl ];
  only = each_at (refl & refl & refl & no_more);
  small = λ v. elim v as (λ k. state_code k < 256) [ Live ↦ lit< tt | Acked ↦ lit< tt | Probing ↦ lit< tt ];
}

pub why_codes : Codes whys why_code
why_codes = record { there = there; only = each_at (refl & refl & refl & refl & refl & refl & refl & refl & refl & no_more); small = small }
  where
    there : (w : Why) → slice_get whys (why_code w) ≡ Some w
    there w = elim w as (λ k. slice_get whys (why_code k) ≡ Some k) [
      | Why.Restart ↦ refl
      | Why.Replacement ↦ refl
      | OwnRestart ↦ refl
      | Ended ↦ refl
      | Orphaned ↦ refl
      | Disconnect ↦ refl
      | Dead ↦ refl
      | Admin ↦ refl
      | Closed ↦ refl
    ]

    small : (w : Why) → why_code w < 256
    small w = elim w as (λ k. why_code k < 256) [
      | Why.Restart ↦ lit< tt
      | Why.Replacement ↦ lit< tt
      | OwnRestart ↦ lit< tt
      | Ended ↦ lit< tt
      | Orphaned ↦ lit< tt
      | Disconnect ↦ lit< tt
      | Dead ↦ lit< tt
      | Admin ↦ lit< tt
      | Closed ↦ lit< tt
    ]

pub flag_reads : Reads flag (λ b. Unit {0}) (λ b. one b ∷ [])
flag_reads = code_reads flags one flag_codes

pub state_reads : Reads (code states) (λ v. Unit {0}) (λ v. state_code v ∷ [])
state_reads = code_reads states state_code state_codes

pub why_reads : Reads (code whys) (λ w. Unit {0}) (λ w. why_code w ∷ [])
why_reads = code_reads whys why_code why_codes

-- ---- pairs and messages

pub pair_reads : Reads pair PairFits pair_bytes
unfolding pair pair_bytes
pair_reads = both_ways
    (then_yields (number_reads 4) λ t ht. then_yields (number_reads 1) λ n hn. then_yields (up_to_reads 48 n) λ a ha.
    give_yields (record { transport = ht; addr = ha.fits }, rw ha.told (simp (append_assoc, append-nil))))
    (λ p h. so_speaks
    (then_speaks (number_reads 4) _ h.transport (then_speaks (number_reads 1) _ (omega (arith, h.addr.size))
    (then_speaks (up_to_reads 48 (length p.addr)) _ (record { told = refl; fits = h.addr }) give_speaks)))
    (simp (append_assoc, append-nil)))

pub message_reads : Reads message (AtMost 128) message_bytes
unfolding message message_bytes
message_reads = both_ways
    (then_yields (number_reads 2) λ n hn. last_yields (up_to_reads 128 n) λ m hm. (hm.fits, rw hm.told))
    (λ m h. then_speaks (number_reads 2) _ (omega (arith, h.size)) (last_speaks (up_to_reads 128 (length m)) (record { told = refl; fits = h })))
