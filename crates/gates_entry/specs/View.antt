-- What the bytes of an entry and of a region show, and their canonical form.
use Rattle.std.specs.Prelude.{◌≡◌, refl, false, List, [], ◌∷◌, ℕ, take, drop, get_or, replicate, if◌then◌else◌, None, Some}
use Rattle.std.proofs.Common.{lit<}
use Rattle.rules.specs.Base.{Bytes}
use Rattle.rules.specs.Data.{Replay, Silence, Memory}
use Rattle.lib_laws.specs.Cell.{num, flag_of, option_num, Code, Optional}
use Rattle.lib_laws.specs.Fields.{cuts}
use Rattle.lib_laws.specs.Store.{Store, entries, store_zeros}
use Rattle.node_addr.specs.Layout.{digest_len}
use Rattle.gates_entry.specs.Layout.{entry_ws, silence_ws, at_memory_count, digest_cap, memory_cap, memory_width, replay_cap, replay_width, silence_len}
use Rattle.gates_entry.specs.Rows.{AnyBytes}

-- the k-th cell
abbrev pub cell : List Bytes → ℕ → Bytes
cell fs k = get_or fs k []

-- ---- a replay, 40 bytes: digest, seen
abbrev pub replay_of : Bytes → Replay
replay_of c = record { ephemeral = take 32 c; seen = num (take 8 (drop 32 c)) }

abbrev pub digest_of : Bytes → Bytes
digest_of c = c

-- ---- a silence: has_epoch, epoch, count, last, has_until, until, the counted digests
abbrev pub silence_from : List Bytes → Silence
silence_from fs = record {
  epoch = option_num (cell fs 0) (cell fs 1);
  count = num (cell fs 2);
  last = num (cell fs 3);
  until = option_num (cell fs 4) (cell fs 5);
  counted = entries digest_of digest_len digest_cap (cell fs 6);
}

unfoldable pub silence_of : Bytes → Silence
silence_of c = silence_from (cuts 0 0 silence_ws c)

pub record SilenceCells (fs : List Bytes) : Type 0 where
  pub epoch : Optional 8 (cell fs 0) (cell fs 1)
  pub until : Optional 8 (cell fs 4) (cell fs 5)
  pub counted : Store AnyBytes digest_len digest_cap (cell fs 6)

-- the canonical form: flags 0 or 1, zeros past the count and for what is absent
pub record FitSilenceCell (c : Bytes) : Type 0 where
  pub cells : SilenceCells (cuts 0 0 silence_ws c)

-- ---- an entry: peer, has_stamp, stamp, has_silence, the silence, the replays
abbrev pub entry_from : List Bytes → Memory
entry_from fs = record {
  peer = cell fs 0;
  stamp = option_num (cell fs 1) (cell fs 2);
  replays = entries replay_of replay_width replay_cap (cell fs 5);
  silence = if flag_of (cell fs 3) then Some (silence_of (cell fs 4)) else None;
}

abbrev pub entry_of : Bytes → Memory
entry_of c = entry_from (cuts 0 0 entry_ws c)

pub record FitCells (fs : List Bytes) : Type 0 where
  pub stamp : Optional 8 (cell fs 1) (cell fs 2)
  pub has_silence : Code 2 (cell fs 3)
  pub silence : FitSilenceCell (cell fs 4)
  pub quiet : flag_of (cell fs 3) ≡ false → cell fs 4 ≡ replicate silence_len 0
  pub replays : Store AnyBytes replay_width replay_cap (cell fs 5)

abbrev pub FitEntry : Bytes → Type 0
FitEntry c = FitCells (cuts 0 0 entry_ws c)

-- ---- the region
abbrev pub view_gates : Bytes → List Memory
view_gates s = entries entry_of memory_width memory_cap s

-- a clause of each function that is lent the region: a struct that lends it would ask of each caller that the reference within keeps its name
abbrev pub FitGates : Bytes → Type 0
FitGates s = Store FitEntry memory_width memory_cap s

abbrev pub gate_count : Bytes → ℕ
gate_count s = get_or s at_memory_count 0

abbrev pub no_memory : Memory
no_memory = entry_of (replicate memory_width 0)

-- the i-th memory
abbrev pub memory_at : Bytes → ℕ → Memory
memory_at s i = get_or (view_gates s) i no_memory

-- ---- zeros
no_number : Optional 8 (0 ∷ []) (replicate 8 0)
no_number = record { flag = record { size = refl; low = lit< tt }; size = refl; blank = λ e. refl }

pub fit_zero_silence : FitSilenceCell (replicate silence_len 0)
fit_zero_silence = record { cells = record { epoch = no_number; until = no_number; counted = store_zeros AnyBytes digest_len digest_cap tt } }

pub fit_zeros : FitEntry (replicate memory_width 0)
fit_zeros = record {
  stamp = no_number;
  has_silence = record { size = refl; low = lit< tt };
  silence = fit_zero_silence;
  quiet = λ e. refl;
  replays = store_zeros AnyBytes replay_width replay_cap tt;
}
