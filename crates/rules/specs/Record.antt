-- A record arrives: the bytes of new and of a call, as they are read and as they are spelt.
use Rattle.std.specs.Prelude.{◌&&◌, List, [], ◌∷◌, ◌++◌, ℕ, ◌+◌, eqb, length, if◌then◌else◌, None, Option, Some, slice_get}
use Rattle.rules.specs.Base.{option, Bytes}
use Rattle.rules.specs.Time.{Params, default}
use Rattle.rules.specs.Data.{Hello, Call}
use Rattle.rules.specs.Field.{Reader, give, fail, bind, number, code, clock, peer, link, lease, epoch, digest, flag, whys, states, pair, message, digits, flag_bytes, pair_bytes, message_bytes, why_code, state_code, frame}

-- ---- the fields of each call, after its clock

unfoldable pub hello : Reader Hello
hello =
    bind peer λ p. bind pair λ f. bind message λ b. bind digest λ d. bind epoch λ e. bind message λ m. bind lease λ l.
    give (record { peer = p; from = f; bytes = b; ephemeral = d; epoch = e; msg2 = m; lease = l })

unfoldable pub dial_fields : Reader Call
dial_fields = bind peer λ p. bind pair λ to. bind message λ m. bind lease λ l. give (Call.Dial p to m l)

unfoldable pub link_fields : (ℕ → Call) → Reader Call
link_fields f = bind link λ n. give (f n)

unfoldable pub arrived_fields : Reader Call
arrived_fields = bind pair λ p. bind message λ m. give (Call.Arrived p m)

unfoldable pub msg1_fields : Reader Call
msg1_fields = bind hello λ x. bind flag λ f. give (Call.Msg1 x f)

unfoldable pub replacement_fields : Reader Call
replacement_fields = bind hello λ x. give (Call.Replacement x)

unfoldable pub msg2_fields : Reader Call
msg2_fields = bind link λ n. bind epoch λ e. bind pair λ p. give (Call.Msg2 n e p)

unfoldable pub restarted_fields : Reader Call
restarted_fields = bind peer λ p. bind epoch λ e. give (Call.Restarted p e)

unfoldable pub heard_fields : Reader Call
heard_fields = bind peer λ p. bind pair λ f. give (Call.Heard p f)

unfoldable pub remove_fields : Reader Call
remove_fields = bind peer λ p. bind (code whys) λ w. give (Call.Remove p w)

unfoldable pub path_fields : Reader Call
path_fields = bind link λ n. bind pair λ p. bind (code states) λ v. give (Call.Path n p v)

unfoldable pub release_fields : Reader Call
release_fields = bind link λ n. bind pair λ p. bind flag λ k. give (Call.Release n p k)

-- kinds 0 to 16, of which 0 is none
unfoldable pub kinds : List (Reader Call)
kinds =
    fail ∷ dial_fields ∷ link_fields Call.Abandon ∷ arrived_fields ∷ msg1_fields ∷ replacement_fields
    ∷ link_fields Call.Sent ∷ link_fields Call.Unsent ∷ msg2_fields ∷ restarted_fields ∷ heard_fields ∷ remove_fields
    ∷ give Call.Poll ∷ give Call.Close ∷ path_fields ∷ release_fields ∷ give Call.Wake ∷ []

-- ---- whole records

-- a call with its clock
pub record Timed : Type 0 where
  pub now : ℕ
  pub call : Call

-- A call's first field is the clock.
unfoldable pub timed : ℕ → Reader Timed
timed k = bind clock λ now. bind (option (slice_get kinds k) fail (λ f. f)) λ c. give (record { now = now; call = c })

-- new: its clock, which nothing reads, me, first link number, settings
pub record Begin : Type 0 where
  pub now : ℕ
  pub me : Bytes
  pub first : ℕ
  pub params : Params

-- form 1: seven spans of 8 bytes, silent 4, resends 4, replays 1, counted 1, pending 8
unfoldable pub settings : Reader Params
settings =
    bind (number 8) λ unheard. bind (number 8) λ interval. bind (number 8) λ base. bind (number 8) λ cap. bind (number 8) λ horizon.
    bind (number 8) λ handshake. bind (number 8) λ resend. bind (number 4) λ silent. bind (number 4) λ resends.
    bind (number 1) λ replays. bind (number 1) λ counted. bind (number 8) λ pending.
    give (record {
      unheard = unheard;
      interval = interval;
      replays = replays;
      silent = silent;
      silentbase = base;
      silentcap = cap;
      horizon = horizon;
      counted = counted;
      handshake = handshake;
      resend = resend;
      resends = resends;
      pending = pending;
    })

-- form 0 takes the default
unfoldable pub form : Reader Params
form = bind (code (give default ∷ settings ∷ [])) λ p. p

unfoldable pub begin_fields : Reader Begin
begin_fields = bind clock λ now. bind peer λ me. bind link λ first. bind form λ c. give (record { now = now; me = me; first = first; params = c })

unfoldable pub begin : ℕ → Reader Begin
begin k = if eqb k 17 then begin_fields else fail

-- nothing left over
abbrev pub finished : {A : Type 0} → Option (A × Bytes) → Option A
finished None = None
finished (Some (a, [])) = Some a
finished (Some (a, b ∷ s)) = None

-- length (of what follows), version 1, kind, fields, and nothing more
unfoldable pub framed : {A : Type 0} → (ℕ → Reader A) → Bytes → Option A
framed fields s = finished
    ((bind (number 2) λ n. bind (number 1) λ v. bind (number 1) λ k. if eqb (n + 2) (length s) && eqb v 1 then fields k else fail) s)

unfoldable pub read_call : Bytes → Option Timed
read_call = framed timed

unfoldable pub read_new : Bytes → Option Begin
read_new = framed begin

-- ---- spelling

unfoldable pub hello_bytes : Hello → Bytes
hello_bytes x =
    x.peer ++ pair_bytes x.from ++ message_bytes x.bytes ++ x.ephemeral ++ digits 8 x.epoch ++ message_bytes x.msg2 ++ digits 4 x.lease

abbrev pub call_kind : Call → ℕ
call_kind (Call.Dial p to m l) = 1
call_kind (Call.Abandon n) = 2
call_kind (Call.Arrived p m) = 3
call_kind (Call.Msg1 x f) = 4
call_kind (Call.Replacement x) = 5
call_kind (Call.Sent n) = 6
call_kind (Call.Unsent n) = 7
call_kind (Call.Msg2 n e p) = 8
call_kind (Call.Restarted p e) = 9
call_kind (Call.Heard p f) = 10
call_kind (Call.Remove p w) = 11
call_kind Call.Poll = 12
call_kind Call.Close = 13
call_kind (Call.Path n p v) = 14
call_kind (Call.Release n p k) = 15
call_kind Call.Wake = 16

unfoldable pub call_bytes : Call → Bytes
call_bytes (Call.Dial p to m l) = p ++ pair_bytes to ++ message_bytes m ++ digits 4 l
call_bytes (Call.Abandon n) = digits 8 n
call_bytes (Call.Arrived p m) = pair_bytes p ++ message_bytes m
call_bytes (Call.Msg1 x f) = hello_bytes x ++ flag_bytes f
call_bytes (Call.Replacement x) = hello_bytes x
call_bytes (Call.Sent n) = digits 8 n
call_bytes (Call.Unsent n) = digits 8 n
call_bytes (Call.Msg2 n e p) = digits 8 n ++ digits 8 e ++ pair_bytes p
call_bytes (Call.Restarted p e) = p ++ digits 8 e
call_bytes (Call.Heard p f) = p ++ pair_bytes f
call_bytes (Call.Remove p w) = p ++ (why_code w ∷ [])
call_bytes Call.Poll = []
call_bytes Call.Close = []
call_bytes (Call.Path n p v) = digits 8 n ++ pair_bytes p ++ (state_code v ∷ [])
call_bytes (Call.Release n p k) = digits 8 n ++ pair_bytes p ++ flag_bytes k
call_bytes Call.Wake = []

unfoldable pub spell_call : Timed → Bytes
spell_call x = frame (call_kind x.call) (digits 8 x.now ++ call_bytes x.call)

unfoldable pub settings_bytes : Params → Bytes
settings_bytes c =
    digits 8 c.unheard ++ digits 8 c.interval ++ digits 8 c.silentbase ++ digits 8 c.silentcap ++ digits 8 c.horizon
    ++ digits 8 c.handshake ++ digits 8 c.resend ++ digits 4 c.silent ++ digits 4 c.resends
    ++ digits 1 c.replays ++ digits 1 c.counted ++ digits 8 c.pending

-- form 0 says nothing of the settings
unfoldable pub form_bytes : Option Params → Bytes
form_bytes None = 0 ∷ []
form_bytes (Some c) = 1 ∷ settings_bytes c

unfoldable pub spell_new : ℕ → Bytes → ℕ → Option Params → Bytes
spell_new now me first form = frame 17 (digits 8 now ++ me ++ digits 8 first ++ form_bytes form)
