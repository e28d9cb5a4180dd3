-- The frame of a record: length (of what follows), version 1, kind; and what the whole record says, by its fields.
use Rattle.std.specs.Prelude.{◌≡◌, Bool, ◌&&◌, [], ◌∷◌, ℕ, ◌+◌, ◌≤◌, eqb, length, drop, if◌then◌else◌, None, Option, Some, option_map, IfSome}
use Rattle.std.proofs.Math.Path.{refl}
use Rattle.std.proofs.Common.{ap, ◌∙◌}
use Rattle.std.proofs.Math.Bool.{true, false}
use Rattle.rules.specs.Base.{option, Bytes}
use Rattle.rules.specs.Data.{Call}
use Rattle.rules.specs.Field.{Reader, give, fail, bind, number, clock}
use Rattle.rules.specs.Record.{Timed, timed, finished, framed, read_call}
use Rattle.input_call.specs.Read.{kind_fields}
use Rattle.input_frame.specs.declared.Header as headers

-- the kind, where length and version are right
unfoldable pub heading : Reader ℕ
heading s = (bind (number 2) λ n. bind (number 1) λ v. bind (number 1) λ k. if eqb (n + 2) (length s) && eqb v 1 then give k else fail) s

-- what `framed` does after it
pub framed_is : {A : Type 0} (fields : ℕ → Reader A) (s : Bytes) → framed fields s ≡ finished (bind heading fields s)
unfolding framed heading bind
framed_is {A} fields s = ap (finished {A = A}) (one (number 2 s))
  where
    four : (b : Bool) (k : ℕ) (r : Bytes) → (if b then fields k else fail) r ≡ option ((if b then give k else fail) r) None (λ x. fields x.0 x.1)
    four true k r = refl
    four false k r = refl

    three : (b : Bool) (o : Option (ℕ × Bytes))
        → option o None (λ r. (if b then fields r.0 else fail) r.1)
        ≡ option (option o None (λ r. (if b then give r.0 else fail) r.1)) None (λ x. fields x.0 x.1)
    three b None = refl
    three b (Some x) = four b x.0 x.1

    two : (n : ℕ) (o : Option (ℕ × Bytes))
        → option o None (λ q. option (number 1 q.1) None (λ r. (if eqb (n + 2) (length s) && eqb q.0 1 then fields r.0 else fail) r.1))
        ≡ option (option o None (λ q. option (number 1 q.1) None (λ r. (if eqb (n + 2) (length s) && eqb q.0 1 then give r.0 else fail) r.1))) None (λ x. fields x.0 x.1)
    two n None = refl
    two n (Some y) = three (eqb (n + 2) (length s) && eqb y.0 1) (number 1 y.1)

    one : (o : Option (ℕ × Bytes))
        → option o None (λ p. option (number 1 p.1) None (λ q. option (number 1 q.1) None (λ r. (if eqb (p.0 + 2) (length s) && eqb q.0 1 then fields r.0 else fail) r.1)))
        ≡ option (option o None (λ p. option (number 1 p.1) None (λ q. option (number 1 q.1) None (λ r. (if eqb (p.0 + 2) (length s) && eqb q.0 1 then give r.0 else fail) r.1)))) None (λ x. fields x.0 x.1)
    one None = refl
    one (Some z) = two z.0 (number 1 z.1)

-- ---- the whole record

-- the clock beside what the fields say
stamped : (now : ℕ) (o : Option (Call × Bytes)) → finished {A = Timed} (option o None (λ r. Some (record { now = now; call = r.0 }, r.1))) ≡ option (finished o) None (λ c. Some (record { now = now; call = c }))
stamped now None = refl
stamped now (Some (a, [])) = refl
stamped now (Some (a, b ∷ s)) = refl

clocked : (now : ℕ) (fields : Reader Call) (s : Bytes) → finished {A = Timed} (bind fields (λ c. give (record { now = now; call = c })) s) ≡ option (finished (fields s)) None (λ c. Some (record { now = now; call = c }))
unfolding bind
clocked now fields s = stamped now (fields s)

-- kind and clock
unfoldable pub header : Reader (ℕ × ℕ)
header = bind heading λ k. bind clock λ now. give (k, now)

-- what follows them
fields : (ℕ × ℕ) × Bytes → Option (Timed × Bytes)
fields x = bind (kind_fields x.0.0) (λ c. give (record { now = x.0.1; call = c })) x.1

headed : (s : Bytes) → bind heading timed s ≡ option (header s) None fields
unfolding header timed fields bind
headed s = one (heading s)
  where
    two : (k : ℕ) (o : Option (ℕ × Bytes))
        → option {B = Option (Timed × Bytes)} o None (λ r. option (kind_fields k r.1) None (λ q. Some (record { now = r.0; call = q.0 }, q.1)))
        ≡ option (option {B = Option ((ℕ × ℕ) × Bytes)} o None (λ r. Some ((k, r.0), r.1))) None (λ x. option (kind_fields x.0.0 x.1) None (λ q. Some (record { now = x.0.1; call = q.0 }, q.1)))
    two k None = refl
    two k (Some x) = refl

    one : (o : Option (ℕ × Bytes))
        → option {B = Option (Timed × Bytes)} o None (λ p. option (clock p.1) None (λ r. option (kind_fields p.0 r.1) None (λ q. Some (record { now = r.0; call = q.0 }, q.1))))
        ≡ option (option {B = Option ((ℕ × ℕ) × Bytes)} o None (λ p. option (clock p.1) None (λ r. Some ((p.0, r.0), r.1)))) None (λ x. option (kind_fields x.0.0 x.1) None (λ q. Some (record { now = x.0.1; call = q.0 }, q.1)))
    one None = refl
    one (Some x) = two x.0 (clock x.1)

-- a record's call, where its header is o: none, or that of the fields from `at` on, of the header's kind, at its clock reading
abbrev pub opened : Bytes → Option headers.Header → Option Timed
opened s None = None
opened s (Some h) = option (finished (kind_fields h.kind (drop h.at s))) None (λ c. Some (record { now = h.now; call = c }))

pub record Opens (s : Bytes) (o : Option headers.Header) : Type 0 where
  pub is : read_call s ≡ opened s o
  pub room : IfSome o (λ h. h.at ≤ length s)

pub opens : {s : Bytes} (o : Option headers.Header) → header s ≡ option_map (λ h. ((h.kind, h.now), drop h.at s)) o → IfSome o (λ h. h.at ≤ length s) → Opens s o
unfolding read_call fields
opens {s} o e r = record {
  is = framed_is timed s ∙ ap (finished {A = Timed}) (headed s) ∙ ap (λ (x : Option ((ℕ × ℕ) × Bytes)). finished {A = Timed} (option x None fields)) e ∙ go o;
  room = r;
}
  where
    go : (o : Option headers.Header) → finished {A = Timed} (option (option_map (λ h. ((h.kind, h.now), drop h.at s)) o) None fields) ≡ opened s o
    go (Some h) = clocked h.now (kind_fields h.kind) (drop h.at s)
    go None = refl
