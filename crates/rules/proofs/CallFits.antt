-- What the values of an accepted record keep to, and that it is their spelling.
use Rattle.std.specs.Prelude.{if◌then◌else◌, None, Option, Some, slice_get}
use mathlib.Core.Path.{◌≡◌, refl, ◌∙◌}
use mathlib.Core.Bool.{Bool, true, false, ◌&&◌, ◌||◌}
use mathlib.Core.List.{[], ◌∷◌, ◌++◌, append_assoc, append-nil}
use Prim.Native.Nat.{ℕ, ◌+◌, ◌^◌, ◌<◌}
use native.Mathlib.Omega.{arith}
use borrow.Author.Tests.{eqb-true, eqb-false, ltb-false}
use lib.Dec.{eqb, ltb, lit<}
use lib.ListN.{length, length-append}
use Rattle.rules.specs.Base.{option, Bytes, All}
use Rattle.rules.specs.Time.{Params, default, out_of_range}
use Rattle.rules.specs.Data.{Pair, Hello, Call}
use Rattle.rules.specs.Field.{Reader, give, fail, bind, number, digits, frame}
use Rattle.rules.specs.Record.{hello, hello_bytes, dial_fields, link_fields, arrived_fields, msg1_fields, replacement_fields, msg2_fields, restarted_fields, heard_fields, remove_fields, path_fields, release_fields, kinds, call_kind, call_bytes, Timed, timed, Begin, finished, framed, read_call, settings, settings_bytes, form, form_bytes, begin_fields, begin, read_new}
use Rattle.rules.specs.Bounds.{IsByte, Exactly, AtMost, IfAny, Word, PairFits, ParamsFit}
use Rattle.rules.proofs.Fields.{not_some, Reads, Used, Yields, Each, no_more, ◌&◌, each_at, bind_yields, then_yields, then_speaks, last_yields, give_yields, give_speaks, fail_yields, yields_so, so_speaks, both_ways, bytes_reads, number_reads, digit, length_digits, code_yields, flag_reads, state_reads, why_reads, pair_reads, message_reads}

-- ---- what values keep to

pub record HelloFits (x : Hello) : Type 0 where
  pub peer : Exactly 16 x.peer
  pub from : PairFits x.from
  pub bytes : AtMost 128 x.bytes
  pub ephemeral : Exactly 32 x.ephemeral
  pub epoch : Word x.epoch
  pub msg2 : AtMost 128 x.msg2
  pub lease : x.lease < 2 ^ 32

pub record DialFits (p : Bytes) (to : Pair) (m : Bytes) (l : ℕ) : Type 0 where
  pub peer : Exactly 16 p
  pub pair : PairFits to
  pub msg1 : AtMost 128 m
  pub lease : l < 2 ^ 32

abbrev pub CallFits : Call → Type 0
CallFits (Call.Dial p to m l) = DialFits p to m l
CallFits (Call.Abandon n) = Word n
CallFits (Call.Arrived p m) = PairFits p × AtMost 128 m
CallFits (Call.Msg1 x f) = HelloFits x
CallFits (Call.Replacement x) = HelloFits x
CallFits (Call.Sent n) = Word n
CallFits (Call.Unsent n) = Word n
CallFits (Call.Msg2 n e p) = Word n × Word e × PairFits p
CallFits (Call.Restarted p e) = Exactly 16 p × Word e
CallFits (Call.Heard p f) = Exactly 16 p × PairFits f
CallFits (Call.Remove p w) = Exactly 16 p
CallFits Call.Poll = Unit {0}
CallFits Call.Close = Unit {0}
CallFits (Call.Path n p v) = Word n × PairFits p
CallFits (Call.Release n p k) = Word n × PairFits p
CallFits Call.Wake = Unit {0}

pub record TimedFits (x : Timed) : Type 0 where
  pub now : Word x.now
  pub call : CallFits x.call

-- the settings of a record of new, within the widths of their bytes
pub record SettingsFit (c : Params) : Type 0 where
  pub unheard : Word c.unheard
  pub interval : Word c.interval
  pub replays : c.replays < 256
  pub silent : c.silent < 2 ^ 32
  pub silentbase : Word c.silentbase
  pub silentcap : Word c.silentcap
  pub horizon : Word c.horizon
  pub counted : c.counted < 256
  pub handshake : Word c.handshake
  pub resend : Word c.resend
  pub resends : c.resends < 2 ^ 32
  pub pending : Word c.pending

pub record BeginFits (b : Begin) : Type 0 where
  pub now : Word b.now
  pub me : Exactly 16 b.me
  pub first : Word b.first
  pub params : SettingsFit b.params

-- ---- each kind of call

pub hello_reads : Reads hello HelloFits hello_bytes
unfolding hello hello_bytes
hello_reads = both_ways
    (then_yields (bytes_reads 16) λ p hp. then_yields pair_reads λ f hf. then_yields message_reads λ b hb. then_yields (bytes_reads 32) λ d hd.
    then_yields (number_reads 8) λ e he. then_yields message_reads λ m hm. then_yields (number_reads 4) λ l hl.
    give_yields (record { peer = hp; from = hf; bytes = hb; ephemeral = hd; epoch = he; msg2 = hm; lease = hl }, simp (append_assoc, append-nil)))
    (λ x h. so_speaks
    (then_speaks (bytes_reads 16) _ h.peer (then_speaks pair_reads _ h.from (then_speaks message_reads _ h.bytes (then_speaks (bytes_reads 32) _ h.ephemeral
    (then_speaks (number_reads 8) _ h.epoch (then_speaks message_reads _ h.msg2 (then_speaks (number_reads 4) _ h.lease give_speaks)))))))
    (simp (append_assoc, append-nil)))

-- kind k reads c from its bytes
record Kind (k : ℕ) (c : Call) (u : Bytes) : Type 0 where
  fits : CallFits c
  kind : k ≡ call_kind c
  spelt : u ≡ call_bytes c

abbrev ReadsKind : ℕ → Reader Call → Type 0
ReadsKind k q = Yields q (Kind k)

link_kind : (k : ℕ) (f : ℕ → Call) → ((n : ℕ) → Word n → Kind k (f n) (digits 8 n)) → ReadsKind k (link_fields f)
unfolding link_fields
link_kind k f g = then_yields (number_reads 8) λ n h. give_yields (rw (append-nil (digits 8 n)) (g n h))

plain : (k : ℕ) (c : Call) → CallFits c → k ≡ call_kind c → [] ≡ call_bytes c → ReadsKind k (give c)
plain k c h e f = give_yields (record { fits = h; kind = e; spelt = f })

dial_kind : ReadsKind 1 dial_fields
unfolding dial_fields call_bytes
dial_kind = then_yields (bytes_reads 16) λ p hp. then_yields pair_reads λ t ht. then_yields message_reads λ m hm. then_yields (number_reads 4) λ l hl.
    give_yields (record { fits = record { peer = hp; pair = ht; msg1 = hm; lease = hl }; kind = refl; spelt = simp (append_assoc, append-nil) })

arrived_kind : ReadsKind 3 arrived_fields
unfolding arrived_fields call_bytes
arrived_kind = then_yields pair_reads λ p hp. then_yields message_reads λ m hm.
    give_yields (record { fits = (hp, hm); kind = refl; spelt = simp append-nil })

msg1_kind : ReadsKind 4 msg1_fields
unfolding msg1_fields call_bytes
msg1_kind = then_yields hello_reads λ x hx. then_yields flag_reads λ f hf.
    give_yields (record { fits = hx; kind = refl; spelt = simp append-nil })

replacement_kind : ReadsKind 5 replacement_fields
unfolding replacement_fields call_bytes
replacement_kind = then_yields hello_reads λ x hx.
    give_yields (record { fits = hx; kind = refl; spelt = simp append-nil })

msg2_kind : ReadsKind 8 msg2_fields
unfolding msg2_fields call_bytes
msg2_kind = then_yields (number_reads 8) λ n hn. then_yields (number_reads 8) λ e he. then_yields pair_reads λ p hp.
    give_yields (record { fits = (hn, he, hp); kind = refl; spelt = simp (append_assoc, append-nil) })

restarted_kind : ReadsKind 9 restarted_fields
unfolding restarted_fields call_bytes
restarted_kind = then_yields (bytes_reads 16) λ p hp. then_yields (number_reads 8) λ e he.
    give_yields (record { fits = (hp, he); kind = refl; spelt = simp append-nil })

heard_kind : ReadsKind 10 heard_fields
unfolding heard_fields call_bytes
heard_kind = then_yields (bytes_reads 16) λ p hp. then_yields pair_reads λ f hf.
    give_yields (record { fits = (hp, hf); kind = refl; spelt = simp append-nil })

remove_kind : ReadsKind 11 remove_fields
unfolding remove_fields call_bytes
remove_kind = then_yields (bytes_reads 16) λ p hp. then_yields why_reads λ w hw.
    give_yields (record { fits = hp; kind = refl; spelt = simp append-nil })

path_kind : ReadsKind 14 path_fields
unfolding path_fields call_bytes
path_kind = then_yields (number_reads 8) λ n hn. then_yields pair_reads λ p hp. then_yields state_reads λ v hv.
    give_yields (record { fits = (hn, hp); kind = refl; spelt = simp (append_assoc, append-nil) })

release_kind : ReadsKind 15 release_fields
unfolding release_fields call_bytes
release_kind = then_yields (number_reads 8) λ n hn. then_yields pair_reads λ p hp. then_yields flag_reads λ k hk.
    give_yields (record { fits = (hn, hp); kind = refl; spelt = simp (append_assoc, append-nil) })

all_kinds : Each ReadsKind 0 kinds
unfolding kinds call_bytes
all_kinds =
    fail_yields & dial_kind & link_kind 2 Call.Abandon (λ n h. record { fits = h; kind = refl; spelt = refl }) & arrived_kind & msg1_kind & replacement_kind
    & link_kind 6 Call.Sent (λ n h. record { fits = h; kind = refl; spelt = refl }) & link_kind 7 Call.Unsent (λ n h. record { fits = h; kind = refl; spelt = refl })
    & msg2_kind & restarted_kind & heard_kind & remove_kind & plain 12 Call.Poll tt refl refl & plain 13 Call.Close tt refl refl
    & path_kind & release_kind & plain 16 Call.Wake tt refl refl & no_more

-- ---- whole records

-- w is a length told, version 1, a kind and fields
record Framed {A : Type 0} (R : ℕ → A → Bytes → Type 0) (m : ℕ) (x : A) (w : Bytes) : Type 0 where
  told : ℕ
  size : told + 2 ≡ m
  kind : ℕ
  body : Bytes
  means : R kind x body
  spelt : w ≡ digits 2 told ++ (1 ∷ kind ∷ body)

-- the record of kind k with these fields
pub record Whole {A : Type 0} (R : ℕ → A → Bytes → Type 0) (x : A) (s : Bytes) : Type 0 where
  pub kind : ℕ
  pub body : Bytes
  pub means : R kind x body
  pub spelt : s ≡ frame kind body

all_read : {A : Type 0} (o : Option (A × Bytes)) (x : A) → finished o ≡ Some x → o ≡ Some (x, [])
all_read None x e = not_some e
all_read (Some (a, [])) x e = let f : a ≡ x = cc in rw f
all_read (Some (a, b ∷ s)) x e = not_some e

module _ {A : Type 0} (fields : ℕ → Reader A) (R : ℕ → A → Bytes → Type 0) (g : (k : ℕ) → Yields (fields k) (R k)) where
  checked : (m n v k : ℕ) → k < 256 → (b c : Bool) → eqb (n + 2) m ≡ b → eqb v 1 ≡ c
      → Yields (if b && c then fields k else fail) (λ x u. Framed R m x (digits 2 n ++ (digits 1 v ++ (digits 1 k ++ u))))
  checked m n v k h false c e f = fail_yields
  checked m n v k h true false e f = fail_yields
  checked m n v k h true true e f = yields_so (g k) λ x u r.
      record { told = n; size = eqb-true (n + 2) m e; kind = k; body = u; means = r; spelt = rw (eqb-true v 1 f, digit 1 (lit< tt), digit k h) }

  head_yields : (m : ℕ) → Yields (bind (number 2) λ n. bind (number 1) λ v. bind (number 1) λ k. if eqb (n + 2) m && eqb v 1 then fields k else fail) (Framed R m)
  head_yields m = then_yields (number_reads 2) λ n hn. then_yields (number_reads 1) λ v hv. then_yields (number_reads 1) λ k hk.
      checked m n v k hk (eqb (n + 2) m) (eqb v 1) refl refl

  pub whole : (s : Bytes) (x : A) → All IsByte s → framed fields s ≡ Some x → Whole R x s
  unfolding framed frame
  whole s x h e = go ((head_yields (length s)).used s x [] h (all_read _ x e))
    where
      go : Used (Framed R (length s)) s x [] → Whole R x s
      go u =
          let f = u.means in
          let e : s ≡ digits 2 f.told ++ (1 ∷ f.kind ∷ f.body) = u.split ∙ append-nil u.front ∙ f.spelt in
          let n : length s ≡ length (digits 2 f.told) + (2 + length f.body) = rw e (rw length-append (omega arith)) in
          let t : f.told ≡ length f.body + 2 = omega (arith, f.size, length_digits 2 f.told) in
          record { kind = f.kind; body = f.body; means = f.means; spelt = rw t at e }

-- ---- calls

-- what is read as a call of kind k from these fields
pub record Said (k : ℕ) (x : Timed) (u : Bytes) : Type 0 where
  pub fits : TimedFits x
  pub kind : k ≡ call_kind x.call
  pub spelt : u ≡ digits 8 x.now ++ call_bytes x.call

timed_yields : (k : ℕ) → Yields (timed k) (Said k)
unfolding timed
timed_yields k = then_yields (number_reads 8) λ now h. bind_yields (kind_yields (slice_get kinds k) refl) λ c u q.
    give_yields (record { fits = record { now = h; call = q.fits }; kind = q.kind; spelt = rw (append-nil u, q.spelt) })
  where
    kind_yields : (o : Option (Reader Call)) → slice_get kinds k ≡ o → Yields (option o fail λ f. f) (Kind k)
    kind_yields None e = fail_yields
    kind_yields (Some q) e = each_at all_kinds k q e

pub said : (s : Bytes) (x : Timed) → All IsByte s → read_call s ≡ Some x → Whole Said x s
unfolding read_call
said = whole timed Said timed_yields

pub accepted_fits : (s : Bytes) (x : Timed) → All IsByte s → read_call s ≡ Some x → TimedFits x
accepted_fits s x h e = (said s x h e).means.fits

-- ---- new

pub settings_reads : Reads settings SettingsFit settings_bytes
unfolding settings settings_bytes
settings_reads = both_ways
    (then_yields (number_reads 8) λ a ha. then_yields (number_reads 8) λ b hb. then_yields (number_reads 8) λ c hc. then_yields (number_reads 8) λ d hd.
    then_yields (number_reads 8) λ e he. then_yields (number_reads 8) λ f hf. then_yields (number_reads 8) λ g hg. then_yields (number_reads 4) λ h hh.
    then_yields (number_reads 4) λ i hi. then_yields (number_reads 1) λ j hj. then_yields (number_reads 1) λ k hk. then_yields (number_reads 8) λ l hl.
    give_yields (
      record { unheard = ha; interval = hb; replays = hj; silent = hh; silentbase = hc; silentcap = hd; horizon = he; counted = hk; handshake = hf; resend = hg; resends = hi; pending = hl },
      simp (append_assoc, append-nil),
    ))
    (λ c h. so_speaks
    (then_speaks (number_reads 8) _ h.unheard (then_speaks (number_reads 8) _ h.interval (then_speaks (number_reads 8) _ h.silentbase
    (then_speaks (number_reads 8) _ h.silentcap (then_speaks (number_reads 8) _ h.horizon (then_speaks (number_reads 8) _ h.handshake
    (then_speaks (number_reads 8) _ h.resend (then_speaks (number_reads 4) _ h.silent (then_speaks (number_reads 4) _ h.resends
    (then_speaks (number_reads 1) _ h.replays (then_speaks (number_reads 1) _ h.counted (then_speaks (number_reads 8) _ h.pending give_speaks))))))))))))
    (simp (append_assoc, append-nil)))

default_fits : SettingsFit default
unfolding default
default_fits = record {
  unheard = lit< tt;
  interval = lit< tt;
  replays = lit< tt;
  silent = lit< tt;
  silentbase = lit< tt;
  silentcap = lit< tt;
  horizon = lit< tt;
  counted = lit< tt;
  handshake = lit< tt;
  resend = lit< tt;
  resends = lit< tt;
  pending = lit< tt;
}

-- the settings that a form stands for
abbrev pub meant : Option Params → Params
meant f = option f default λ c. c

-- the settings c, read from the bytes of a form
pub record Formed (c : Params) (u : Bytes) : Type 0 where
  pub given : Option Params
  pub value : meant given ≡ c
  pub fits : IfAny SettingsFit given
  pub spelt : u ≡ form_bytes given

pub meant_fits : (f : Option Params) → IfAny SettingsFit f → SettingsFit (meant f)
meant_fits None h = default_fits
meant_fits (Some c) h = h

-- form k reads the settings after its byte
abbrev ReadsForm : ℕ → Reader Params → Type 0
ReadsForm k q = Yields q (λ c v. Formed c (k ∷ v))

all_forms : Each ReadsForm 0 (give default ∷ settings ∷ [])
unfolding form_bytes
all_forms = none_given & last_yields settings_reads (λ c h. record { given = Some c; value = refl; fits = h; spelt = refl }) & no_more
  where
    none_given : ReadsForm 0 (give default)
    none_given = give_yields (record { given = None; value = refl; fits = tt; spelt = refl })

form_yields : Yields form Formed
unfolding form
form_yields = bind_yields (code_yields (give default ∷ settings ∷ [])) λ q u t. rw t.spelt (each_at all_forms t.place q t.there)

-- what is read as a new of kind k from these fields
pub record Begun (k : ℕ) (b : Begin) (u : Bytes) : Type 0 where
  pub fits : BeginFits b
  pub kind : k ≡ 17
  pub given : Option Params
  pub value : meant given ≡ b.params
  pub spelt : u ≡ digits 8 b.now ++ b.me ++ digits 8 b.first ++ form_bytes given

begin_yields : (k : ℕ) → Yields (begin k) (Begun k)
unfolding begin begin_fields
begin_yields k = go (eqb k 17) refl
  where
    go : (b : Bool) → eqb k 17 ≡ b → Yields (if b then begin_fields else fail) (Begun k)
    go false e = fail_yields
    go true e = then_yields (number_reads 8) λ now h. then_yields (bytes_reads 16) λ me hm. then_yields (number_reads 8) λ first hf.
        bind_yields form_yields λ c u q. give_yields (record {
          fits = record { now = h; me = hm; first = hf; params = rw q.value at (meant_fits q.given q.fits) };
          kind = eqb-true k 17 e;
          given = q.given;
          value = q.value;
          spelt = rw q.spelt (simp (append_assoc, append-nil));
        })

pub begun : (s : Bytes) (b : Begin) → All IsByte s → read_new s ≡ Some b → Whole Begun b s
unfolding read_new
begun = whole begin Begun begin_yields

pub begun_fits : (s : Bytes) (b : Begin) → All IsByte s → read_new s ≡ Some b → BeginFits b
begun_fits s b h e = (begun s b h e).means.fits

neither : (x y : Bool) → x || y ≡ false → (x ≡ false) × (y ≡ false)
neither true y e = absurd (let z : ◌≡◌ {A = ℕ} 0 1 = cc in omega arith)
neither false y e = (refl, e)

-- what refusal 1 lets pass
pub params_fit : (c : Params) → SettingsFit c → out_of_range c ≡ false → ParamsFit c
unfolding out_of_range
params_fit c h e =
    let a = neither (eqb c.counted 0 || ltb 8 c.counted) (ltb 8 c.replays) e in
    let b = neither (eqb c.counted 0) (ltb 8 c.counted) a.0 in
    record {
      unheard = h.unheard;
      interval = h.interval;
      replays = ltb-false 8 c.replays a.1;
      silent = h.silent;
      silentbase = h.silentbase;
      silentcap = h.silentcap;
      horizon = h.horizon;
      some_counted = omega (arith, eqb-false c.counted 0 b.0);
      counted = ltb-false 8 c.counted b.1;
      handshake = h.handshake;
      resend = h.resend;
      resends = h.resends;
      pending = h.pending;
    }
