-- A leg's entry and the region of them, as src/layout.rt has them.
use Rattle.std.specs.Prelude.{ℕ, ◌*◌, ◌≡◌, refl, List, [], ◌∷◌}
use Rattle.lib_laws.specs.Fields.{ends}
use Rattle.node_addr.specs.Layout.{node_len, digest_len, message_cap}

-- link, deadline, next behind its flag, sent, lease, answer; peer behind its flag; of an answer: sent, replaces, epoch, digest; msg1, msg2
abbrev pub leg_ws : List ℕ
leg_ws = 8 ∷ 8 ∷ 1 ∷ 8 ∷ 4 ∷ 4 ∷ 1 ∷ 1 ∷ node_len ∷ 1 ∷ 1 ∷ 8 ∷ digest_len ∷ 1 ∷ message_cap ∷ 1 ∷ message_cap ∷ []

abbrev pub at_deadline : ℕ
at_deadline = 8

abbrev pub at_has_next : ℕ
at_has_next = 16

abbrev pub at_next_resend : ℕ
at_next_resend = 17

abbrev pub at_sent : ℕ
at_sent = 25

abbrev pub at_lease : ℕ
at_lease = 29

abbrev pub at_answer : ℕ
at_answer = 33

abbrev pub at_has_peer : ℕ
at_has_peer = 34

abbrev pub at_peer : ℕ
at_peer = 35

abbrev pub at_answer_sent : ℕ
at_answer_sent = 51

abbrev pub at_replaces : ℕ
at_replaces = 52

abbrev pub at_epoch : ℕ
at_epoch = 53

abbrev pub at_digest : ℕ
at_digest = 61

abbrev pub at_msg1 : ℕ
at_msg1 = 93

abbrev pub at_msg1_bytes : ℕ
at_msg1_bytes = 94

abbrev pub at_msg2 : ℕ
at_msg2 = 222

abbrev pub at_msg2_bytes : ℕ
at_msg2_bytes = 223

abbrev pub leg_width : ℕ
leg_width = 351

-- ---- the region: 32 entries, and their count
abbrev pub leg_cap : ℕ
leg_cap = 32

abbrev pub at_leg_count : ℕ
at_leg_count = 11232

abbrev pub legs_len : ℕ
legs_len = 11233

-- each cell begins where the one before it ends, and the count stands behind the entries
pub leg_cells : ends 0 leg_ws
    ≡ at_deadline ∷ at_has_next ∷ at_next_resend ∷ at_sent ∷ at_lease ∷ at_answer ∷ at_has_peer ∷ at_peer ∷ at_answer_sent ∷ at_replaces ∷ at_epoch ∷ at_digest ∷ at_msg1 ∷ at_msg1_bytes ∷ at_msg2 ∷ at_msg2_bytes ∷ leg_width ∷ []
leg_cells = refl

pub leg_count : ends 0 (leg_cap * leg_width ∷ 1 ∷ []) ≡ at_leg_count ∷ legs_len ∷ []
leg_count = refl
