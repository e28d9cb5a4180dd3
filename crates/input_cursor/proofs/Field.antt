-- What each reader of a cursor takes.
use Rattle.std.specs.Prelude.{◌≡◌, refl, ℕ, zero, suc, ◌-◌, ◌≤◌, ◌<◌, Bool, true, false, List, [], ◌∷◌, eqb, ltb, length, take, drop, get_or, if◌then◌else◌, None, Option, Some, option_map, slice_get}
use Rattle.std.proofs.Common.{sym, ◌∙◌, arith, drop-drop, length-drop, leb, leb-true, leb-false}
use borrow.Author.Tests.{lt-ltb, le-ltb, ltb-true, ltb-false}
use Rattle.rules.specs.Base.{option, Bytes}
use Rattle.rules.specs.Field.{Reader, bind, number, up_to, code, flags, flag, pair, message, more}
use Rattle.lib_laws.specs.Parse.{rest_of_lem, number_yes, number_no, up_to_yes, up_to_no, up_to_big, byte_is}
use Rattle.node_addr.specs.Place.{pair_here}
use Rattle.input_cursor.specs.declared.Cursor.{Cursor}
use Rattle.input_cursor.specs.Took.{Took, Skipped, below, left_at}

-- ---- n bytes, read in the rest of the record
module _ {A : Type 0} {p : Reader A} {n : ℕ} {c c' : Cursor} where
  pub took_none : Skipped n c None c' → ((s : Bytes) → length s < n → p s ≡ None) → Took p c None c'
  took_none k f = record { rec = k.rec; is = f (drop c.at c.rec.now) (rw length-drop k.place.0); lost = k.place.1 }

  pub took_some : {i : ℕ} {v : A} {w : Bytes → A} → Skipped n c (Some i) c' → ((s : Bytes) → n ≤ length s → p s ≡ Some (w s, drop n s)) → v ≡ w (take (length c'.rec.now - i) (drop i c'.rec.now)) → Took p c (Some v) c'
  took_some {i} {v} {w} k f e =
      let h : c'.at ≤ length c.rec.now = rw k.rec at c'.within in
      let q : n ≤ length (drop c.at c.rec.now) = rw length-drop (omega (arith, h, k.place.0, k.place.1)) in
      record { rec = k.rec; is = f (drop c.at c.rec.now) q ∙ rw (e, rest_of_lem i c'.rec.now, k.rec, k.place.1, k.place.0, drop-drop n c.at c.rec.now); lost = tt }

-- a number of one byte
pub byte_yes : (s : Bytes) → 1 ≤ length s → number 1 s ≡ Some (get_or s 0 0, drop 1 s)
byte_yes s h = number_yes 1 s h ∙ rw (byte_is s 0 (omega arith))

-- ---- one reader after another
module _ {A B : Type 0} {p : Reader A} {c c' : Cursor} (f : A → Reader B) where
  pub bound_none : Took p c None c' → Took (bind p f) c None c'
  unfolding bind
  bound_none t = record { rec = t.rec; is = rw t.is; lost = t.lost }

  pub bound : {v : A} {o : Option B} {c″ : Cursor} → Took p c (Some v) c' → Took (f v) c' o c″ → Took (bind p f) c o c″
  unfolding bind
  bound {c″ = c″} t u = record { rec = u.rec ∙ t.rec; is = rw (t.is, ← t.rec) u.is; lost = u.lost }

-- ---- a byte below k, and the code that has k meanings
module _ (k : ℕ) {c c' : Cursor} where
  pub below_none : Took (number 1) c None c' → Took (below k) c None c'
  unfolding below bind
  below_none t = record { rec = t.rec; is = rw t.is; lost = t.lost }

  module _ {v : ℕ} (t : Took (number 1) c (Some v) c') where
    pub below_over : {c″ : Cursor} → k ≤ v → c″.rec.now ≡ c'.rec.now → c″.at ≡ 0 → Took (below k) c None c″
    unfolding below bind
    below_over h e z = record { rec = e ∙ t.rec; is = rw (t.is, le-ltb v k h); lost = z }

    pub below_read : v < k → Took (below k) c (Some v) c'
    unfolding below bind
    below_read h = record { rec = t.rec; is = rw (t.is, lt-ltb v k h); lost = tt }

-- the meaning of a byte below the count of meanings
found : {A : Type 0} (ms : List A) (d : A) (k : ℕ) → k < length ms → slice_get ms k ≡ Some (get_or ms k d)
found [] d k h = absurd (omega arith)
found (m ∷ ms) d zero h = refl
found (m ∷ ms) d (suc k) h = found ms d k (omega arith)

pub lost : {A : Type 0} (ms : List A) (k : ℕ) → length ms ≤ k → slice_get ms k ≡ None
lost [] k h = refl
lost (m ∷ ms) zero h = absurd (omega arith)
lost (m ∷ ms) (suc k) h = lost ms k (omega arith)

meant : {A : Type 0} → List A → A → ℕ × Bytes → A × Bytes
meant ms d x = (get_or ms x.0 d, x.1)

code_is : {A : Type 0} (ms : List A) (d : A) (s : Bytes) → code ms s ≡ option_map (meant ms d) (below (length ms) s)
unfolding code below bind meant
code_is {A} ms d s = go (number 1 s)
  where
    at_byte : (v : ℕ) (r : Bytes) (b : Bool) → ltb v (length ms) ≡ b → option (slice_get ms v) None (λ a. Some (a, r)) ≡ option_map (meant ms d) (if b then Some (v, r) else None)
    at_byte v r true e = rw (found ms d v (ltb-true v (length ms) e))
    at_byte v r false e = rw (lost ms v (ltb-false v (length ms) e))

    go : (o : Option (ℕ × Bytes))
        → option o None (λ r. option (slice_get ms r.0) None (λ a. Some (a, r.1)))
        ≡ option_map (meant ms d) (option o None (λ r. if ltb r.0 (length ms) then Some (r.0, r.1) else None))
    go None = refl
    go (Some x) = at_byte x.0 x.1 (ltb x.0 (length ms)) refl

pub coded : {A : Type 0} (ms : List A) (d : A) {c c' : Cursor} {o : Option ℕ} → Took (below (length ms)) c o c' → Took (code ms) c (option_map (λ v. get_or ms v d) o) c'
unfolding meant
coded ms d {c} {c'} {o} t = record { rec = t.rec; is = code_is ms d (drop c.at c.rec.now) ∙ rw t.is (go o); lost = still o t.lost }
  where
    still : (o : Option ℕ) → left_at o c'.at → left_at (option_map (λ v. get_or ms v d) o) c'.at
    still None l = l
    still (Some v) l = tt

    go : (o : Option ℕ) → option_map (meant ms d) (option_map (λ v. (v, drop c'.at c.rec.now)) o) ≡ option_map (λ v. (v, drop c'.at c.rec.now)) (option_map (λ v. get_or ms v d) o)
    go None = refl
    go (Some v) = refl

-- ---- a flag, by its byte
truth : (v : ℕ) → v < 2 → get_or flags v false ≡ eqb v 1
truth zero h = refl
truth (suc zero) h = refl
truth (suc (suc v)) h = absurd (omega arith)

pub flag_read : {c c' : Cursor} {v : ℕ} → Took (below 2) c (Some v) c' → v < 2 → Took flag c (Some (eqb v 1)) c'
flag_read {v = v} t h = rw (truth v h) at (coded flags false t)

-- ---- n bytes, where n is within a limit
pub over : {limit n : ℕ} {c c' : Cursor} → limit < n → c'.rec.now ≡ c.rec.now → c'.at ≡ 0 → Took (up_to limit n) c None c'
over {limit} {n} {c} h e z = record { rec = e; is = up_to_big n (drop c.at c.rec.now) limit h; lost = z }

module _ {limit n : ℕ} {c c' : Cursor} (h : n ≤ limit) where
  pub within_none : Skipped n c None c' → Took (up_to limit n) c None c'
  within_none k = took_none k (λ s. up_to_no n s limit h)

  pub within : {i : ℕ} → Skipped n c (Some i) c' → Took (up_to limit n) c (Some (take n (drop c.at c.rec.now))) c'
  within {i} k = took_some k (λ s. up_to_yes n s limit h) (rw (rest_of_lem i c'.rec.now, k.rec, k.place.0))

-- ---- a message: length 2, bytes
module _ {n : ℕ} {c c' : Cursor} (t : Took (number 2) c (Some n) c') where
  pub message_off : {c″ : Cursor} → Took (up_to 128 n) c' None c″ → Took message c None c″
  unfolding message
  message_off = bound _ t

  pub message_on : {i : ℕ} {c″ : Cursor} → n ≤ 128 → Skipped n c' (Some i) c″ → Took message c (Some (take n (drop i c.rec.now))) c″
  unfolding message
  message_on {i} {c″} h k = bound _ t (rw e at (within h k))
    where
      e : take n (drop c'.at c'.rec.now) ≡ take n (drop i c.rec.now)
      e = rw (t.rec, k.place.0)

-- ---- a pair: transport 4, length 1, address
pair_no : (s : Bytes) → length s < 5 → pair s ≡ None
unfolding pair bind
pair_no s h = go (leb 4 (length s)) refl
  where
    go : (b : Bool) → leb 4 (length s) ≡ b → pair s ≡ None
    go true e = rw (number_yes 4 s (leb-true 4 (length s) e), number_no 1 (drop 4 s) (rw length-drop (omega arith)))
    go false e = rw (number_no 4 s (leb-false 4 (length s) e))

pub pair_none : {c c' : Cursor} → Skipped 5 c None c' → Took pair c None c'
pair_none k = took_none k pair_no

begun : (s : Bytes) → 5 ≤ length s → pair s ≡ option (up_to 48 (get_or s 4 0) (drop 5 s)) None (λ r. Some (record { transport = more 0 (take 4 s); addr = r.0 }, r.1))
unfolding pair bind
begun s h = rw (number_yes 4 s (omega arith), number_yes 1 (drop 4 s) (rw length-drop (omega arith)), byte_is s 4 (omega arith), drop-drop 1 4 s)

module _ {c c' : Cursor} {i n : ℕ} (k : Skipped 5 c (Some i) c') (e : n ≡ get_or (take (length c'.rec.now - i) (drop i c'.rec.now)) 4 0) where
  room : 5 ≤ length (drop c.at c.rec.now)
  room = let h : c'.at ≤ length c.rec.now = rw k.rec at c'.within in rw length-drop (omega (arith, h, k.place.0, k.place.1))

  size : get_or (drop c.at c.rec.now) 4 0 ≡ n
  size = sym (e ∙ rw (rest_of_lem i c'.rec.now, k.rec, k.place.0))

  addr : drop 5 (drop c.at c.rec.now) ≡ drop c'.at c.rec.now
  addr = drop-drop 5 c.at c.rec.now ∙ rw (k.place.1, k.place.0)

  pub pair_off : {c″ : Cursor} → Took (up_to 48 n) c' None c″ → Took pair c None c″
  pair_off t = record { rec = t.rec ∙ k.rec; is = begun (drop c.at c.rec.now) room ∙ rw (size, addr, rw k.rec at t.is); lost = t.lost }

  pub pair_on : {c″ : Cursor} → Took (up_to 48 n) c' (Some (take n (drop c'.at c'.rec.now))) c″ → Took pair c (Some (pair_here (drop i c.rec.now))) c″
  unfolding pair_here
  pair_on t = record { rec = t.rec ∙ k.rec; is = begun (drop c.at c.rec.now) room ∙ rw (size, addr, rw k.rec at t.is) (rw (k.place.0, size, addr)); lost = tt }
