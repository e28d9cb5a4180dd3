-- The table's shapes, named as in the Rust: pairs, link records, legs, held peers, the gates' memories, calls and outputs.
use Rattle.std.specs.Prelude.{Bool, ◌&&◌, List, ℕ, eqb, Option}
use Rattle.rules.specs.Base.{Bytes, same}
use Rattle.rules.specs.Time.{Params}

-- Links, transports, leases, epochs (8 bytes, only compared) and readings are numbers.

pub record Pair : Type 0 where
  pub transport : ℕ
  pub addr : Bytes

abbrev pub same_pair : Pair → Pair → Bool
same_pair p q = eqb p.transport q.transport && same p.addr q.addr

-- ---- links.rs

pub data Dir : Type 0 where
  Inbound Outbound : Dir

pub data Holder : Type 0 where
  ALeg : Holder
  APeer : Bytes → Holder

pub data Proven : Type 0 where
  Live Acked Probing : Proven

pub record PathRec : Type 0 where
  pub pair : Pair
  pub state : Proven

pub record LinkRec : Type 0 where
  pub no : ℕ
  pub setup : Pair
  pub dir : Dir
  pub holder : Holder
  pub paths : List PathRec
  pub released : Bool

-- ---- legs.rs

-- an answer leg's msg2, and what its install needs (the Rust's `answered`, of which each answer leg has one)
pub record Answered : Type 0 where
  pub msg2 : Bytes
  pub ephemeral : Bytes
  pub epoch : ℕ
  pub replaces : Bool
  pub sent : Bool

pub data Kind : Type 0 where
  Dial : Kind
  Answer : Answered → Kind

pub record Leg : Type 0 where
  pub link : ℕ
  pub peer : Option Bytes
  pub kind : Kind
  pub msg1 : Bytes
  pub sent : ℕ
  pub next : Option ℕ
  pub deadline : ℕ
  pub lease : ℕ

-- ---- gates.rs

pub data Source : Type 0 where
  NotHeld Restart Replacement OwnMsg2 RekeyMsg2 : Source

pub data Refusal : Type 0 where
  Unheard Heard Dampened Replayed ReplayFull Silent : Refusal

pub record Replay : Type 0 where
  pub ephemeral : Bytes
  pub seen : ℕ

pub record Silence : Type 0 where
  pub epoch : Option ℕ
  pub count : ℕ
  pub last : ℕ
  pub until : Option ℕ
  pub counted : List Bytes

pub record Memory : Type 0 where
  pub peer : Bytes
  pub stamp : Option ℕ
  pub replays : List Replay
  pub silence : Option Silence

-- ---- table.rs

pub record Held : Type 0 where
  pub peer : Bytes
  pub link : ℕ
  pub epoch : ℕ
  pub current : Pair
  pub heard : Bool
  pub installed : ℕ
  pub last : Option ℕ
  pub setup : Option Bytes

-- each map is its list in key order; `next` is the next link number; the index is `derived`, not stored
pub record Table : Type 0 where
  pub me : Bytes
  pub params : Params
  pub next : ℕ
  pub links : List LinkRec
  pub legs : List Leg
  pub held : List Held
  pub gates : List Memory

-- ---- the calls 1 to 16 without their clock

pub record Hello : Type 0 where
  pub peer : Bytes
  pub from : Pair
  pub bytes : Bytes
  pub ephemeral : Bytes
  pub epoch : ℕ
  pub msg2 : Bytes
  pub lease : ℕ

pub data Why : Type 0 where
  Restart Replacement OwnRestart Ended Orphaned Disconnect Dead Admin Closed : Why

pub data Call : Type 0 where
  Dial : Bytes → Pair → Bytes → ℕ → Call
  Abandon : ℕ → Call
  Arrived : Pair → Bytes → Call
  Msg1 : Hello → Bool → Call
  Replacement : Hello → Call
  Sent Unsent : ℕ → Call
  Msg2 : ℕ → ℕ → Pair → Call
  Restarted : Bytes → ℕ → Call
  Heard : Bytes → Pair → Call
  Remove : Bytes → Why → Call
  Poll Close : Call
  Path : ℕ → Pair → Proven → Call
  Release : ℕ → Pair → Bool → Call
  Wake : Call

-- ---- the outputs 1 to 14

pub data Build : Type 0 where
  Fresh FromCarry : Build

pub data Transition : Type 0 where
  Promote Replace Move Keep Restarted Roam : Transition

pub data Denial : Type 0 where
  Full : Denial
  Gate : Refusal → Denial

pub record Installed : Type 0 where
  pub peer : Bytes
  pub link : ℕ
  pub pair : Pair
  pub build : Build
  pub initiator : Bool
  pub lease : ℕ

pub data Output : Type 0 where
  Opened : ℕ → Output
  Answer : ℕ → Bool → Bytes → Output
  Resend : ℕ → Bytes → Output
  Rekey : Bytes → Bool → Bool → Output
  Install : Installed → Output
  Reset : Bytes → Transition → Output
  Remove : Bytes → Why → Output
  Retire Release : ℕ → List Pair → Output
  Close : List Pair → Output
  Free : ℕ → Output
  Retry : Bytes → Output
  Reject : Option (Bytes × Source) → Denial → Output
  Wake : Option ℕ → Output

-- ---- what a call makes

-- the table after it, and its outputs in their order
pub record Step : Type 0 where
  pub table : Table
  pub outs : List Output

-- with its number: 0, or that of a refusal
pub record Result : Type 0 where
  pub number : ℕ
  pub step : Step
