-- A record that is accepted is the only spelling of what it says, and what is spelt reads back.
use Rattle.std.specs.Prelude.{if◌then◌else◌, None, Option, Some, slice_get}
use mathlib.Core.Path.{◌≡◌, refl, sym, ap}
use mathlib.Core.Logic.{◌⊎◌, inl, inr}
use mathlib.Core.Bool.{false, ◌&&◌}
use mathlib.Core.List.{[], ◌∷◌, ◌++◌, append_assoc, append-nil}
use Prim.Native.Nat.{ℕ, ◌+◌, ◌≤◌, ◌<◌}
use native.Mathlib.Omega.{arith}
use borrow.Author.Tests.{eq-eqb, le-ltb}
use lib.Dec.{eqb, lit<, lit≤}
use lib.ListN.{length, length-append}
use Rattle.rules.specs.Base.{option, Bytes, All}
use Rattle.rules.specs.Time.{Params, default, out_of_range}
use Rattle.rules.specs.Data.{Pair, Table, Hello, Call}
use Rattle.rules.specs.Field.{Reader, bind, number, fail, give, digits, pair_bytes, message_bytes, frame}
use Rattle.rules.specs.Record.{hello_bytes, dial_fields, link_fields, arrived_fields, msg1_fields, replacement_fields, msg2_fields, restarted_fields, heard_fields, remove_fields, path_fields, release_fields, kinds, call_kind, call_bytes, Timed, timed, Begin, finished, framed, read_call, spell_call, settings, settings_bytes, form, form_bytes, begin_fields, begin, read_new, spell_new}
use Rattle.rules.specs.Settle.{step}
use Rattle.rules.specs.Entry.{new_table, Made, new, call}
use Rattle.rules.specs.Bounds.{IsByte, Exactly, AtMost, IfAny, Word, PairFits}
use Rattle.rules.proofs.Fields.{Speaks, bind_speaks, then_speaks, last_speaks, give_speaks, so_speaks, bytes_reads, number_reads, digit, length_digits, code_speaks, flag_reads, state_reads, why_reads, pair_reads, message_reads}
use Rattle.rules.proofs.CallFits.{HelloFits, CallFits, TimedFits, SettingsFit, hello_reads, settings_reads, meant, said, begun}

-- ---- frames

module _ {A : Type 0} (fields : ℕ → Reader A) where
  pub framed_back : (k : ℕ) (u : Bytes) (x : A) → k < 256 → length u < 65_534 → Speaks (fields k) u x → framed fields (frame k u) ≡ Some x
  unfolding framed frame
  framed_back k u x h l f = ap finished (simp append-nil at (all.said []))
    where
      n : ℕ
      n = length u + 2

      s : Bytes
      s = digits 2 n ++ (1 ∷ k ∷ u)

      size : n + 2 ≡ length s
      size = rw (length-append, length_digits 2 n) (omega arith)

      checked : Speaks (if eqb (n + 2) (length s) && eqb 1 1 then fields k else fail) u x
      checked = rw (eq-eqb (n + 2) (length s) size) f

      all : Speaks (bind (number 2) λ n. bind (number 1) λ v. bind (number 1) λ k. if eqb (n + 2) (length s) && eqb v 1 then fields k else fail) s x
      all = so_speaks (then_speaks (number_reads 2) _ {a = n} (omega arith) (then_speaks (number_reads 1) _ {a = 1} (lit< tt) (then_speaks (number_reads 1) _ {a = k} h checked)))
          (rw (digit 1 (lit< tt), digit k h))

-- ---- calls

pub reads_spelt : (s : Bytes) (x : Timed) → All IsByte s → read_call s ≡ Some x → s ≡ spell_call x
unfolding spell_call
reads_spelt s x h e =
    let w = said s x h e in
    rw (w.means.kind, w.means.spelt) at w.spelt

pair_short : (p : Pair) → PairFits p → length (pair_bytes p) ≤ 53
unfolding pair_bytes
pair_short p h = simp (length-append, length_digits) (omega (arith, h.addr.size))

message_short : (m : Bytes) → AtMost 128 m → length (message_bytes m) ≤ 130
unfolding message_bytes
message_short m h = simp (length-append, length_digits) (omega (arith, h.size))

hello_short : (x : Hello) → HelloFits x → length (hello_bytes x) ≤ 373
unfolding hello_bytes
hello_short x h = simp (length-append, length_digits)
    (omega (arith, h.peer.size, pair_short x.from h.from, message_short x.bytes h.bytes, h.ephemeral.size, message_short x.msg2 h.msg2))

call_short : (c : Call) → CallFits c → length (call_bytes c) ≤ 374
unfolding call_bytes
call_short (Call.Dial p to m l) h = simp (length-append, length_digits) (omega (arith, h.peer.size, pair_short to h.pair, message_short m h.msg1))
call_short (Call.Abandon n) h = simp length_digits (omega arith)
call_short (Call.Arrived p m) h = simp length-append (omega (arith, pair_short p h.0, message_short m h.1))
call_short (Call.Msg1 x f) h = simp length-append (omega (arith, hello_short x h))
call_short (Call.Replacement x) h = omega (arith, hello_short x h)
call_short (Call.Sent n) h = simp length_digits (omega arith)
call_short (Call.Unsent n) h = simp length_digits (omega arith)
call_short (Call.Msg2 n e p) h = simp (length-append, length_digits) (omega (arith, pair_short p h.2))
call_short (Call.Restarted p e) h = simp (length-append, length_digits) (omega (arith, h.0.size))
call_short (Call.Heard p f) h = simp length-append (omega (arith, h.0.size, pair_short f h.1))
call_short (Call.Remove p w) h = simp length-append (omega (arith, h.size))
call_short Call.Poll h = omega arith
call_short Call.Close h = omega arith
call_short (Call.Path n p v) h = simp (length-append, length_digits) (omega (arith, pair_short p h.1))
call_short (Call.Release n p k) h = simp (length-append, length_digits) (omega (arith, pair_short p h.1))
call_short Call.Wake h = omega arith

kind_small : (c : Call) → call_kind c < 256
kind_small (Call.Dial p to m l) = lit< tt
kind_small (Call.Abandon n) = lit< tt
kind_small (Call.Arrived p m) = lit< tt
kind_small (Call.Msg1 x f) = lit< tt
kind_small (Call.Replacement x) = lit< tt
kind_small (Call.Sent n) = lit< tt
kind_small (Call.Unsent n) = lit< tt
kind_small (Call.Msg2 n e p) = lit< tt
kind_small (Call.Restarted p e) = lit< tt
kind_small (Call.Heard p f) = lit< tt
kind_small (Call.Remove p w) = lit< tt
kind_small Call.Poll = lit< tt
kind_small Call.Close = lit< tt
kind_small (Call.Path n p v) = lit< tt
kind_small (Call.Release n p k) = lit< tt
kind_small Call.Wake = lit< tt

call_speaks : (c : Call) → CallFits c → Speaks (option (slice_get kinds (call_kind c)) fail λ f. f) (call_bytes c) c
unfolding kinds call_bytes dial_fields link_fields arrived_fields msg1_fields replacement_fields msg2_fields restarted_fields heard_fields remove_fields path_fields release_fields
call_speaks (Call.Dial p to m l) h = so_speaks
    (then_speaks (bytes_reads 16) _ h.peer (then_speaks pair_reads _ h.pair (then_speaks message_reads _ h.msg1 (then_speaks (number_reads 4) _ h.lease give_speaks))))
    (simp (append_assoc, append-nil))
call_speaks (Call.Abandon n) h = so_speaks (then_speaks (number_reads 8) _ h give_speaks) (simp append-nil)
call_speaks (Call.Arrived p m) h = so_speaks (then_speaks pair_reads _ h.0 (then_speaks message_reads _ h.1 give_speaks)) (simp append-nil)
call_speaks (Call.Msg1 x f) h = so_speaks (then_speaks hello_reads _ h (then_speaks flag_reads _ tt give_speaks)) (simp append-nil)
call_speaks (Call.Replacement x) h = so_speaks (then_speaks hello_reads _ h give_speaks) (simp append-nil)
call_speaks (Call.Sent n) h = so_speaks (then_speaks (number_reads 8) _ h give_speaks) (simp append-nil)
call_speaks (Call.Unsent n) h = so_speaks (then_speaks (number_reads 8) _ h give_speaks) (simp append-nil)
call_speaks (Call.Msg2 n e p) h = so_speaks
    (then_speaks (number_reads 8) _ h.0 (then_speaks (number_reads 8) _ h.1 (then_speaks pair_reads _ h.2 give_speaks)))
    (simp (append_assoc, append-nil))
call_speaks (Call.Restarted p e) h = so_speaks (then_speaks (bytes_reads 16) _ h.0 (then_speaks (number_reads 8) _ h.1 give_speaks)) (simp append-nil)
call_speaks (Call.Heard p f) h = so_speaks (then_speaks (bytes_reads 16) _ h.0 (then_speaks pair_reads _ h.1 give_speaks)) (simp append-nil)
call_speaks (Call.Remove p w) h = so_speaks (then_speaks (bytes_reads 16) _ h (then_speaks why_reads _ tt give_speaks)) (simp append-nil)
call_speaks Call.Poll h = give_speaks
call_speaks Call.Close h = give_speaks
call_speaks (Call.Path n p v) h = so_speaks
    (then_speaks (number_reads 8) _ h.0 (then_speaks pair_reads _ h.1 (then_speaks state_reads _ tt give_speaks)))
    (simp (append_assoc, append-nil))
call_speaks (Call.Release n p k) h = so_speaks
    (then_speaks (number_reads 8) _ h.0 (then_speaks pair_reads _ h.1 (then_speaks flag_reads _ tt give_speaks)))
    (simp (append_assoc, append-nil))
call_speaks Call.Wake h = give_speaks

pub spelt_reads : (x : Timed) → TimedFits x → read_call (spell_call x) ≡ Some x
unfolding read_call spell_call timed
spelt_reads x h = framed_back timed (call_kind x.call) (digits 8 x.now ++ call_bytes x.call) x (kind_small x.call)
    (simp (length-append, length_digits) (omega (arith, call_short x.call h.call)))
    (then_speaks (number_reads 8) _ h.now (so_speaks (bind_speaks _ _ (call_speaks x.call h.call) give_speaks) (append-nil (call_bytes x.call))))

-- ---- new

settings_short : (c : Params) → length (settings_bytes c) ≡ 74
unfolding settings_bytes
settings_short c = simp (length-append, length_digits)

form_short : (f : Option Params) → length (form_bytes f) ≤ 75
unfolding form_bytes
form_short None = lit≤ tt
form_short (Some c) = omega (arith, settings_short c)

form_speaks : (f : Option Params) → IfAny SettingsFit f → Speaks form (form_bytes f) (meant f)
unfolding form form_bytes
form_speaks None h = bind_speaks _ _ (code_speaks (give default ∷ settings ∷ []) 0 (give default) (lit< tt) refl) give_speaks
form_speaks (Some c) h = bind_speaks _ _ (code_speaks (give default ∷ settings ∷ []) 1 settings (lit< tt) refl) (last_speaks settings_reads h)

-- what is spelt of either form is read, form 0 as the default
pub spelt_begins : (now : ℕ) (me : Bytes) (first : ℕ) (f : Option Params) → Word now → Exactly 16 me → Word first → IfAny SettingsFit f
    → read_new (spell_new now me first f) ≡ Some (record { now = now; me = me; first = first; params = meant f })
unfolding read_new spell_new begin begin_fields
spelt_begins now me first f h m l c =
    framed_back begin 17 (digits 8 now ++ me ++ digits 8 first ++ form_bytes f) (record { now = now; me = me; first = first; params = meant f }) (lit< tt)
    (simp (length-append, length_digits) (omega (arith, m.size, form_short f)))
    (so_speaks (then_speaks (number_reads 8) _ h (then_speaks (bytes_reads 16) _ m (then_speaks (number_reads 8) _ l (bind_speaks _ _ (form_speaks f c) give_speaks))))
    (simp (append_assoc, append-nil)))

-- an accepted new is form 0, with the default, or form 1 of what it says
pub begins_spelt : (s : Bytes) (b : Begin) → All IsByte s → read_new s ≡ Some b
    → ((b.params ≡ default) × (s ≡ spell_new b.now b.me b.first None)) ⊎ (s ≡ spell_new b.now b.me b.first (Some b.params))
unfolding spell_new
begins_spelt s b h e = let w = begun s b h e in go w.means.given w.means.value (rw (w.means.kind, w.means.spelt) at w.spelt)
  where
    go : (f : Option Params) → meant f ≡ b.params → s ≡ frame 17 (digits 8 b.now ++ b.me ++ digits 8 b.first ++ form_bytes f)
        → ((b.params ≡ default) × (s ≡ spell_new b.now b.me b.first None)) ⊎ (s ≡ spell_new b.now b.me b.first (Some b.params))
    go None v e = inl (sym v, e)
    go (Some c) v e = inr (rw v at e)

-- ---- the entries, on what is spelt

pub call_spelt : (x : Timed) → TimedFits x → (buffer : ℕ) → 10_240 ≤ buffer → (t : Table) → call (spell_call x) buffer t ≡ step x.now x.call t
unfolding call
call_spelt x h buffer b t = rw (le-ltb buffer 10_240 b, spelt_reads x h)

pub new_spelt : (now : ℕ) (me : Bytes) (first : ℕ) (f : Option Params) → Word now → Exactly 16 me → Word first → IfAny SettingsFit f → out_of_range (meant f) ≡ false
    → new (spell_new now me first f) ≡ Made (new_table me first (meant f))
unfolding new
new_spelt now me first f h m l c o = rw (spelt_begins now me first f h m l c, o)
