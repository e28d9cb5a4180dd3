-- The fields of records and outputs: how each is read, and how it is spelt. Integers are unsigned, big-endian.
use Rattle.std.specs.Prelude.{Bool, true, false, List, [], ◌∷◌, ◌++◌, ℕ, zero, suc, ◌+◌, ◌*◌, ◌/◌, ◌%◌, leb, length, take, drop, if◌then◌else◌, None, Option, Some, slice_get}
use Rattle.rules.specs.Base.{option, one, Bytes}
use Rattle.rules.specs.Data.{Pair, Proven, Live, Acked, Probing, Why, Ended, Orphaned, Disconnect, Dead, Admin, Closed, OwnRestart}

-- ---- numbers

-- the number that v and then the bytes spell
unfoldable pub more : ℕ → Bytes → ℕ
more v [] = v
more v (b ∷ s) = more (v * 256 + b) s

-- the n bytes of a number
unfoldable pub digits : ℕ → ℕ → Bytes
digits zero v = []
digits (suc n) v = digits n (v / 256) ++ (v % 256 ∷ [])

-- ---- readers: what stands at the front, and the rest; none where bytes are missing or wrong

abbrev pub Reader : Type 0 → Type 0
Reader A = Bytes → Option (A × Bytes)

abbrev pub give : {A : Type 0} → A → Reader A
give a s = Some (a, s)

abbrev pub fail : {A : Type 0} → Reader A
fail s = None

-- p, then what k makes of its value; each is handed the rest of the record from its first byte
unfoldable pub bind : {A B : Type 0} → Reader A → (A → Reader B) → Reader B
bind p k s = option (p s) None λ r. k r.0 r.1

unfoldable pub bytes : ℕ → Reader Bytes
bytes n s = if leb n (length s) then Some (take n s, drop n s) else None

unfoldable pub number : ℕ → Reader ℕ
number n s = if leb n (length s) then Some (more 0 (take n s), drop n s) else None

-- n bytes, where n is within the limit
unfoldable pub up_to : ℕ → ℕ → Reader Bytes
up_to limit n s = if leb n limit then bytes n s else None

-- a code byte: a place in the list of what it may say
unfoldable pub code : {A : Type 0} → List A → Reader A
code meanings = bind (number 1) λ k s. option (slice_get meanings k) None λ a. Some (a, s)

-- ---- fields

abbrev pub clock : Reader ℕ
clock = number 8

abbrev pub peer : Reader Bytes
peer = bytes 16

abbrev pub link : Reader ℕ
link = number 8

abbrev pub lease : Reader ℕ
lease = number 4

abbrev pub epoch : Reader ℕ
epoch = number 8

abbrev pub digest : Reader Bytes
digest = bytes 32

abbrev pub flags : List Bool
flags = false ∷ true ∷ []

abbrev pub flag : Reader Bool
flag = code flags

abbrev pub whys : List Why
whys = Why.Restart ∷ Why.Replacement ∷ OwnRestart ∷ Ended ∷ Orphaned ∷ Disconnect ∷ Dead ∷ Admin ∷ Closed ∷ []

abbrev pub states : List Proven
states = Live ∷ Acked ∷ Probing ∷ []

-- transport 4, address length 1, address (0 to 48 bytes)
unfoldable pub pair : Reader Pair
pair = bind (number 4) λ t. bind (number 1) λ n. bind (up_to 48 n) λ a. give (record { transport = t; addr = a })

-- length 2, then 0 to 128 bytes
unfoldable pub message : Reader Bytes
message = bind (number 2) λ n. up_to 128 n

-- ---- spelling

abbrev pub flag_bytes : Bool → Bytes
flag_bytes b = one b ∷ []

unfoldable pub pair_bytes : Pair → Bytes
pair_bytes p = digits 4 p.transport ++ digits 1 (length p.addr) ++ p.addr

unfoldable pub message_bytes : Bytes → Bytes
message_bytes m = digits 2 (length m) ++ m

-- 0 Restart, then Replacement, OwnRestart, Ended, Orphaned, Disconnect, Dead, Admin, 8 Closed
abbrev pub why_code : Why → ℕ
why_code Why.Restart = 0
why_code Why.Replacement = 1
why_code OwnRestart = 2
why_code Ended = 3
why_code Orphaned = 4
why_code Disconnect = 5
why_code Dead = 6
why_code Admin = 7
why_code Closed = 8

-- 0 Live, 1 Acked, 2 Probing
abbrev pub state_code : Proven → ℕ
state_code Live = 0
state_code Acked = 1
state_code Probing = 2

-- length (of what follows), version 1, kind, fields
unfoldable pub frame : ℕ → Bytes → Bytes
frame kind fields = digits 2 (length fields + 2) ++ (1 ∷ kind ∷ fields)
