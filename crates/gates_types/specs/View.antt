-- What a memory by value shows, when it is well formed, its blank values, and the meaning of each case.
use Rattle.std.specs.Prelude.{◌≡◌, List, [], map, ℕ, ◌≤◌, length, replicate, option_map, None, Ok, Err, Option, Result, Some}
use Rattle.std.proofs.Common.{Fits}
use Rattle.std.specs.Int.{w32, w64}
use Rattle.rules.specs.Base.{Bytes, All}
use Rattle.rules.specs.Data as rule
use Rattle.rules.specs.Time as time
use Rattle.rules.specs.Bounds.{IfAny}
use Rattle.lib_list.specs.ShortList.{ShortList}
use Rattle.node_addr.specs.declared.Fixed.{Fixed}
use Rattle.params.specs.declared.Params.{Params}
use Rattle.gates_types.specs.declared.Replay.{Replay}
use Rattle.gates_types.specs.declared.Silence.{Silence}
use Rattle.gates_types.specs.declared.Memory.{Memory}
use Rattle.gates_types.specs.declared.Liveness.{Liveness}
use Rattle.gates_types.specs.declared.Source.{Source}
use Rattle.gates_types.specs.declared.Source.TheVariants as source
use Rattle.gates_types.specs.declared.Refusal.{Refusal}
use Rattle.gates_types.specs.declared.Refusal.TheVariants as refusal
use Rattle.gates_types.specs.declared.Denial.{Denial}
use Rattle.gates_types.specs.declared.Denial.TheVariants as denial

-- ---- what they show
abbrev pub view_replay : Replay → rule.Replay
view_replay r = record { ephemeral = r.digest.0; seen = r.seen }

abbrev pub view_replays : ShortList Replay → List rule.Replay
view_replays r = map view_replay r.items

abbrev pub view_digest : Fixed 32 → Bytes
view_digest d = d.0

abbrev pub view_digests : ShortList (Fixed 32) → List Bytes
view_digests d = map view_digest d.items

abbrev pub view_silence : Silence → rule.Silence
view_silence s = record {
  epoch = s.epoch;
  count = s.count;
  last = s.last;
  until = s.until;
  counted = view_digests s.counted;
}

abbrev pub view_memory : Memory → rule.Memory
view_memory m = record {
  peer = m.peer.0;
  stamp = m.stamp;
  replays = view_replays m.replays;
  silence = option_map view_silence m.silence;
}

-- ---- blank values
abbrev pub blank_replay : Replay
blank_replay = record { digest = record { 0 = replicate 32 0 }; seen = 0 }

abbrev pub blank_replays : ShortList Replay
blank_replays = record { items = []; spare = replicate 8 blank_replay }

abbrev pub blank_memory : Fixed 16 → Memory
blank_memory p = record { peer = p; stamp = None; replays = blank_replays; silence = None }

-- ---- well formed: what the types say of arguments and results, they do not say of the elements of a list
pub record FitReplay (r : Replay) : Type 0 where
  pub digest : length r.digest.0 ≡ 32
  pub seen : Fits w64 r.seen

pub record FitDigest (d : Fixed 32) : Type 0 where
  pub size : length d.0 ≡ 32

-- at most eight, each of them well formed
pub record Few {A : Type 0} (P : A → Type 0) (v : ShortList A) : Type 0 where
  pub small : length v.items ≤ 8
  pub each : All P v.items

abbrev pub FitReplays : ShortList Replay → Type 0
FitReplays r = Few FitReplay r

abbrev pub FitDigests : ShortList (Fixed 32) → Type 0
FitDigests d = Few FitDigest d

-- each number is one of its type
pub record WideSilence (s : Silence) : Type 0 where
  pub epoch : IfAny (Fits w64) s.epoch
  pub count : Fits w32 s.count
  pub last : Fits w64 s.last
  pub until : IfAny (Fits w64) s.until

pub record FitSilence (s : Silence) : Type 0 where
  pub wide : WideSilence s
  pub counted : FitDigests s.counted

pub record FitMemory (m : Memory) : Type 0 where
  pub peer : length m.peer.0 ≡ 16
  pub replays : FitReplays m.replays
  pub silence : IfAny FitSilence m.silence

-- settings within range; a clause, since a record of new may bring others, which `in_range` refuses
pub record FitParams (c : Params) : Type 0 where
  pub replays : c.replays ≤ 8
  pub some_counted : 1 ≤ c.counted
  pub counted : c.counted ≤ 8

-- the digests that a silence counted are within the settings
abbrev pub Within : time.Params → rule.Memory → Type 0
Within c m = IfAny (λ (s : rule.Silence). length s.counted ≤ c.counted) m.silence

-- ---- the meaning of each case
abbrev pub source_of : Source → rule.Source
source_of source.NotHeld = rule.Source.NotHeld
source_of source.Restart = rule.Source.Restart
source_of source.Replacement = rule.Source.Replacement
source_of source.OwnMsg2 = rule.Source.OwnMsg2
source_of source.RekeyMsg2 = rule.Source.RekeyMsg2

abbrev pub refusal_of : Refusal → rule.Refusal
refusal_of refusal.Unheard = rule.Refusal.Unheard
refusal_of refusal.Heard = rule.Refusal.Heard
refusal_of refusal.Dampened = rule.Refusal.Dampened
refusal_of refusal.Replayed = rule.Refusal.Replayed
refusal_of refusal.ReplayFull = rule.Refusal.ReplayFull
refusal_of refusal.Silent = rule.Refusal.Silent

abbrev pub denial_of : Denial → rule.Denial
denial_of denial.Full = rule.Denial.Full
denial_of (denial.Gate r) = rule.Denial.Gate (refusal_of r)

-- what a judgement refuses for, if it does
abbrev pub refused_by : Result (Unit {0}) Refusal → Option rule.Refusal
refused_by (Ok u) = None
refused_by (Err r) = Some (refusal_of r)

-- ---- what is asked

-- settings of which only the interval is read
abbrev pub spanned : ℕ → time.Params
spanned i = record {
  unheard = 0;
  interval = i;
  replays = 0;
  silent = 0;
  silentbase = 0;
  silentcap = 0;
  horizon = 0;
  counted = 0;
  handshake = 0;
  resend = 0;
  resends = 0;
  pending = 0;
}

-- a holder of which only the liveness is read
abbrev pub held_of : Liveness → rule.Held
held_of l = record {
  peer = [];
  link = 0;
  epoch = 0;
  current = record { transport = 0; addr = [] };
  heard = l.heard;
  installed = l.installed;
  last = l.last;
  setup = None;
}

abbrev pub view_liveness : Option Liveness → Option rule.Held
view_liveness o = option_map held_of o
