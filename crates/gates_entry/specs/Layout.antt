-- A memory's entry and the region of them, as src/layout.rt has them.
use Rattle.std.specs.Prelude.{ℕ, ◌*◌, ◌≡◌, refl, List, [], ◌∷◌}
use Rattle.lib_laws.specs.Fields.{ends}
use Rattle.node_addr.specs.Layout.{node_len, digest_len}

-- ---- a replay: digest, seen. Eight of them, and their count
abbrev pub at_seen : ℕ
at_seen = 32

abbrev pub replay_width : ℕ
replay_width = 40

abbrev pub replay_cap : ℕ
replay_cap = 8

abbrev pub at_replay_count : ℕ
at_replay_count = 320

abbrev pub replays_len : ℕ
replays_len = 321

-- ---- counted digests: eight, and their count
abbrev pub digest_cap : ℕ
digest_cap = 8

abbrev pub at_digest_count : ℕ
at_digest_count = 256

abbrev pub digests_len : ℕ
digests_len = 257

-- ---- a silence: epoch behind its flag, count, last, until behind its flag, the counted digests
abbrev pub silence_ws : List ℕ
silence_ws = 1 ∷ 8 ∷ 4 ∷ 8 ∷ 1 ∷ 8 ∷ digests_len ∷ []

abbrev pub at_silence_epoch : ℕ
at_silence_epoch = 1

abbrev pub at_count : ℕ
at_count = 9

abbrev pub at_silence_last : ℕ
at_silence_last = 13

abbrev pub at_has_until : ℕ
at_has_until = 21

abbrev pub at_until : ℕ
at_until = 22

abbrev pub at_counted : ℕ
at_counted = 30

abbrev pub silence_len : ℕ
silence_len = 287

-- ---- a memory: peer, stamp behind its flag, silence behind its flag, replays
abbrev pub entry_ws : List ℕ
entry_ws = node_len ∷ 1 ∷ 8 ∷ 1 ∷ silence_len ∷ replays_len ∷ []

abbrev pub at_has_stamp : ℕ
at_has_stamp = 16

abbrev pub at_stamp : ℕ
at_stamp = 17

abbrev pub at_has_silence : ℕ
at_has_silence = 25

abbrev pub at_silence : ℕ
at_silence = 26

abbrev pub at_replays : ℕ
at_replays = 313

abbrev pub memory_width : ℕ
memory_width = 634

-- ---- the region: 32 entries, and their count
abbrev pub memory_cap : ℕ
memory_cap = 32

abbrev pub at_memory_count : ℕ
at_memory_count = 20288

abbrev pub gates_len : ℕ
gates_len = 20289

-- each cell begins where the one before it ends, and a count stands behind what it counts
pub replay_cells : ends 0 (digest_len ∷ 8 ∷ []) ≡ at_seen ∷ replay_width ∷ []
replay_cells = refl

pub silence_cells : ends 0 silence_ws ≡ at_silence_epoch ∷ at_count ∷ at_silence_last ∷ at_has_until ∷ at_until ∷ at_counted ∷ silence_len ∷ []
silence_cells = refl

pub memory_cells : ends 0 entry_ws ≡ at_has_stamp ∷ at_stamp ∷ at_has_silence ∷ at_silence ∷ at_replays ∷ memory_width ∷ []
memory_cells = refl

pub replay_count : ends 0 (replay_cap * replay_width ∷ 1 ∷ []) ≡ at_replay_count ∷ replays_len ∷ []
replay_count = refl

pub digest_count : ends 0 (digest_cap * digest_len ∷ 1 ∷ []) ≡ at_digest_count ∷ digests_len ∷ []
digest_count = refl

pub memory_count : ends 0 (memory_cap * memory_width ∷ 1 ∷ []) ≡ at_memory_count ∷ gates_len ∷ []
memory_count = refl
