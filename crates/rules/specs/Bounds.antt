-- What holds of every table that new or a call left: the limits of document 01, and each number within its width.
use Rattle.std.specs.Prelude.{◌≡◌, Bool, true, ◌&&◌, ℕ, ◌+◌, ◌^◌, ◌≤◌, ◌<◌, ltb, length, None, Option, Some}
use Rattle.rules.specs.Base.{Bytes, All, tally, one}
use Rattle.rules.specs.Std.{Ascending}
use Rattle.rules.specs.Time.{Params}
use Rattle.rules.specs.Data.{Pair, Holder, ALeg, APeer, LinkRec, Answered, Kind, Leg, Replay, Silence, Memory, Held, Table}
use Rattle.rules.specs.Links.{numbered, is_leg}
use Rattle.rules.specs.Gates.{remembers, earlier_memory}
use Rattle.rules.specs.Settle.{places, earlier_held}
use Rattle.rules.specs.Claim.{Owned, legs_on}

-- ---- widths

abbrev pub IsByte : ℕ → Type 0
IsByte b = b < 256

-- n bytes, or at most n
pub record Exactly (n : ℕ) (s : Bytes) : Type 0 where
  pub size : length s ≡ n
  pub each : All IsByte s

pub record AtMost (n : ℕ) (s : Bytes) : Type 0 where
  pub size : length s ≤ n
  pub each : All IsByte s

-- what holds of the value, if there is one
abbrev pub IfAny : {A : Type 0} → (A → Type 0) → Option A → Type 0
IfAny P None = Unit {0}
IfAny P (Some a) = P a

abbrev pub Word : ℕ → Type 0
Word v = v < 2 ^ 64

pub record PairFits (p : Pair) : Type 0 where
  pub transport : p.transport < 2 ^ 32
  pub addr : AtMost 48 p.addr

pub record ParamsFit (c : Params) : Type 0 where
  pub unheard : Word c.unheard
  pub interval : Word c.interval
  pub replays : c.replays ≤ 8
  pub silent : c.silent < 2 ^ 32
  pub silentbase : Word c.silentbase
  pub silentcap : Word c.silentcap
  pub horizon : Word c.horizon
  pub some_counted : 1 ≤ c.counted
  pub counted : c.counted ≤ 8
  pub handshake : Word c.handshake
  pub resend : Word c.resend
  pub resends : c.resends < 2 ^ 32
  pub pending : Word c.pending

abbrev pub HolderFits : Holder → Type 0
HolderFits ALeg = Unit {0}
HolderFits (APeer p) = Exactly 16 p

-- four paths at most
pub record LinkFits (r : LinkRec) : Type 0 where
  pub no : Word r.no
  pub setup : PairFits r.setup
  pub holder : HolderFits r.holder
  pub four : length r.paths ≤ 4
  pub paths : All (λ w. PairFits w.pair) r.paths

pub record AnsweredFits (a : Answered) : Type 0 where
  pub msg2 : AtMost 128 a.msg2
  pub ephemeral : Exactly 32 a.ephemeral
  pub epoch : Word a.epoch

abbrev pub KindFits : Kind → Type 0
KindFits Kind.Dial = Unit {0}
KindFits (Kind.Answer a) = AnsweredFits a

pub record LegFits (g : Leg) : Type 0 where
  pub link : Word g.link
  pub peer : IfAny (Exactly 16) g.peer
  pub kind : KindFits g.kind
  pub msg1 : AtMost 128 g.msg1
  pub sent : g.sent < 2 ^ 32
  pub next : IfAny Word g.next
  pub deadline : Word g.deadline
  pub lease : g.lease < 2 ^ 32

pub record HeldFits (h : Held) : Type 0 where
  pub peer : Exactly 16 h.peer
  pub link : Word h.link
  pub epoch : Word h.epoch
  pub current : PairFits h.current
  pub installed : Word h.installed
  pub last : IfAny Word h.last
  pub setup : IfAny (Exactly 32) h.setup

pub record ReplayFits (r : Replay) : Type 0 where
  pub ephemeral : Exactly 32 r.ephemeral
  pub seen : Word r.seen

-- counted digests within the settings
pub record SilenceFits (c : Params) (s : Silence) : Type 0 where
  pub epoch : IfAny Word s.epoch
  pub count : s.count < 2 ^ 32
  pub last : Word s.last
  pub until : IfAny Word s.until
  pub limit : length s.counted ≤ c.counted
  pub counted : All (Exactly 32) s.counted

-- replays within the settings; no blank memory is kept
pub record MemoryFits (c : Params) (m : Memory) : Type 0 where
  pub peer : Exactly 16 m.peer
  pub stamp : IfAny Word m.stamp
  pub limit : length m.replays ≤ c.replays
  pub replays : All ReplayFits m.replays
  pub silence : IfAny (SilenceFits c) m.silence
  pub remembers : remembers m ≡ true

pub record Widths (t : Table) : Type 0 where
  pub me : Exactly 16 t.me
  pub params : ParamsFit t.params
  pub next : Word t.next
  pub links : All LinkFits t.links
  pub legs : All LegFits t.legs
  pub held : All HeldFits t.held
  pub gates : All (MemoryFits t.params) t.gates

-- ---- order and limits

abbrev pub earlier_link : LinkRec → LinkRec → Bool
earlier_link r q = ltb r.no q.no

abbrev pub earlier_leg : Leg → Leg → Bool
earlier_leg g k = ltb g.link k.link

-- each map in ascending order of its keys, link numbers below next
pub record Ordered (t : Table) : Type 0 where
  pub links : Ascending earlier_link t.links
  pub legs : Ascending earlier_leg t.legs
  pub held : Ascending earlier_held t.held
  pub gates : Ascending earlier_memory t.gates
  pub below : All (λ r. r.no < t.next) t.links

-- 32 links and 32 places are enough, for each map
pub record Limits (t : Table) : Type 0 where
  pub links : length t.links ≤ 32
  pub owners : length t.links ≡ length t.legs + length t.held
  pub places : length (places t) ≤ 32
  pub gates : length t.gates ≤ 32

-- a record's holder says Leg exactly if a leg has the link
pub record Holders (t : Table) : Type 0 where
  pub by_leg : (n : ℕ) → tally (λ r. one (numbered n r && is_leg r.holder)) t.links ≡ legs_on n t

-- ---- all of it

pub record Bounds (t : Table) : Type 0 where
  pub owned : Owned t
  pub holders : Holders t
  pub ordered : Ordered t
  pub limits : Limits t
  pub widths : Widths t
