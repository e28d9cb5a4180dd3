-- Demand 3: a lease is never lost and never doubled, each live link has one owner, and nothing in use is closed.
-- What that says of a list of calls, each a record with the length of the buffer lent with it.
use Rattle.std.specs.Prelude.{◌≡◌, false, List, [], ◌∷◌, ℕ, ◌+◌, ◌≤◌, eqb, if◌then◌else◌, None, Option, Some}
use Rattle.rules.specs.Base.{option, Bytes, tally, one, All}
use Rattle.rules.specs.Data.{Pair, LinkRec, Table, Call, Output, Step, Result, Opened, Resend, Rekey, Install, Reset, Retire, Free, Retry, Reject}
use Rattle.rules.specs.Links.{numbered, in_use}
use Rattle.rules.specs.Legs.{on_link}
use Rattle.rules.specs.Settle.{still, ◌▸◌}
use Rattle.rules.specs.Record.{read_call}
use Rattle.rules.specs.Entry.{Made, new, call}

pub record Fed : Type 0 where
  pub bytes : Bytes
  pub buffer : ℕ

abbrev pub answer : Fed → Table → Result
answer x t = call x.bytes x.buffer t

-- the calls one after another: the last table, and all that they wrote
unfoldable pub play : List Fed → Table → Step
play [] t = still t
play (x ∷ s) t = (answer x t).step ▸ play s

-- ---- (i) leases

-- the lease of a dial, a msg1 or a replacement
abbrev pub lease_of : Call → Option ℕ
lease_of (Call.Dial p to m l) = Some l
lease_of (Call.Msg1 x f) = Some x.lease
lease_of (Call.Replacement x) = Some x.lease
lease_of (Call.Abandon n) = None
lease_of (Call.Arrived p m) = None
lease_of (Call.Sent n) = None
lease_of (Call.Unsent n) = None
lease_of (Call.Msg2 n e p) = None
lease_of (Call.Restarted p e) = None
lease_of (Call.Heard p f) = None
lease_of (Call.Remove p w) = None
lease_of Call.Poll = None
lease_of Call.Close = None
lease_of (Call.Path n p v) = None
lease_of (Call.Release n p k) = None
lease_of Call.Wake = None

abbrev pub lease_in : Fed → Option ℕ
lease_in x = option (read_call x.bytes) None λ c. lease_of c.call

-- one, if it is the lease l
abbrev pub is_lease : ℕ → Option ℕ → ℕ
is_lease l o = option o 0 λ k. one (eqb l k)

-- A lease is accepted by a dial, msg1 or replacement not refused by number.
abbrev pub accepts : ℕ → Option ℕ → Result → ℕ
accepts l o d = if eqb d.number 0 then is_lease l o else 0

-- calls that accepted l
unfoldable pub accepted : ℕ → List Fed → Table → ℕ
accepted l [] t = 0
accepted l (x ∷ s) t = accepts l (lease_in x) (answer x t) + accepted l s (answer x t).step.table

-- live legs that hold l
abbrev pub holding : ℕ → Table → ℕ
holding l t = tally (λ g. one (eqb l g.lease)) t.legs

abbrev pub gives : ℕ → Output → ℕ
gives l (Free k) = one (eqb l k)
gives l (Install i) = one (eqb l i.lease)
gives l (Opened n) = 0
gives l (Output.Answer n b m) = 0
gives l (Resend n b) = 0
gives l (Rekey p a b) = 0
gives l (Reset p k) = 0
gives l (Output.Remove p w) = 0
gives l (Retire n ps) = 0
gives l (Output.Release n ps) = 0
gives l (Output.Close ps) = 0
gives l (Retry p) = 0
gives l (Reject a w) = 0
gives l (Output.Wake w) = 0

-- Free outputs of l, and Install outputs with it
abbrev pub given : ℕ → List Output → ℕ
given l os = tally (gives l) os

-- ---- (ii) owners

-- records, legs and held peers on link n
abbrev pub records_on : ℕ → Table → ℕ
records_on n t = tally (λ r. one (numbered n r)) t.links

abbrev pub legs_on : ℕ → Table → ℕ
legs_on n t = tally (λ g. one (on_link n g)) t.legs

abbrev pub held_on : ℕ → Table → ℕ
held_on n t = tally (λ h. one (eqb n h.link)) t.held

-- ---- (iii) what is closed

-- the pairs that an output lists
abbrev pub lists : Output → List Pair
lists (Retire n ps) = ps
lists (Output.Release n ps) = ps
lists (Output.Close ps) = ps
lists (Free k) = []
lists (Install i) = []
lists (Opened n) = []
lists (Output.Answer n b m) = []
lists (Resend n b) = []
lists (Rekey p a b) = []
lists (Reset p k) = []
lists (Output.Remove p w) = []
lists (Retry p) = []
lists (Reject a w) = []
lists (Output.Wake w) = []

-- no listed pair is used by a live link
abbrev pub Unused : List LinkRec → List Output → Type 0
Unused s os = All (λ o. All (λ p. in_use p s ≡ false) (lists o)) os

-- so it was for each call, when it ended
unfoldable pub UnusedAfter : List Fed → Table → Type 0
UnusedAfter [] t = Unit {0}
UnusedAfter (x ∷ s) t =
    let e : Step = (answer x t).step in
    Unused e.table.links e.outs × UnusedAfter s e.table

-- ---- the claim

-- (ii): a live link has one leg and no held peer, or no leg and one held peer; a link that is not live has none
pub record Owned (t : Table) : Type 0 where
  pub one_owner : (n : ℕ) → records_on n t ≡ legs_on n t + held_on n t
  pub one_record : (n : ℕ) → records_on n t ≤ 1

pub record Account (s : List Fed) (t : Table) : Type 0 where
  pub leases : (l : ℕ) → accepted l s t ≡ holding l (play s t).table + given l (play s t).outs
  pub owners : Owned (play s t).table
  pub closed : UnusedAfter s t

-- for every accepted record of new, and every list
abbrev pub Claim : Type 0
Claim = (r : Bytes) (t : Table) → new r ≡ Made t → (s : List Fed) → Account s t
