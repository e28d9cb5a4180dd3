-- The whole table in one run of bytes: its parts, what it shows, and when it fits.
use Rattle.std.specs.Prelude.{◌≡◌, ℕ, length, take, drop, get_or}
use Rattle.rules.specs.Base.{Bytes}
use Rattle.rules.specs.Time.{Params}
use Rattle.rules.specs.Data.{LinkRec, Leg, Held, Table}
use Rattle.params.specs.Head.{view_me, params_of, view_next, FitHead}
use Rattle.links.specs.View as links
use Rattle.legs.specs.View as legs
use Rattle.held.specs.View as held
use Rattle.gates.specs.View as gates
use Rattle.params.specs.Layout.{head_len}
use Rattle.links_entry.specs.Layout.{links_len}
use Rattle.legs_entry.specs.Layout.{legs_len}
use Rattle.held.specs.Layout.{held_len}
use Rattle.gates_entry.specs.Layout.{gates_len}
use Rattle.table_layout.specs.Layout.{at_gates, at_held, at_legs, at_links, table_len}

-- ---- the parts
abbrev pub head_in : Bytes → Bytes
head_in t = take head_len t

abbrev pub links_in : Bytes → Bytes
links_in t = take links_len (drop at_links t)

abbrev pub legs_in : Bytes → Bytes
legs_in t = take legs_len (drop at_legs t)

abbrev pub held_in : Bytes → Bytes
held_in t = take held_len (drop at_held t)

abbrev pub gates_in : Bytes → Bytes
gates_in t = take gates_len (drop at_gates t)

-- ---- the whole
unfoldable pub view_table : Bytes → Table
view_table t = record {
  me = view_me (head_in t);
  params = params_of (head_in t);
  next = view_next (head_in t);
  links = links.view_links (links_in t);
  legs = legs.view_legs (legs_in t);
  held = held.view_held (held_in t);
  gates = gates.view_gates (gates_in t);
}

-- a clause of each function that is lent the table: a struct that lends it would ask of each caller that the reference within keeps its name
pub record FitTable (t : Bytes) : Type 0 where
  pub size : length t ≡ table_len
  pub head : FitHead (head_in t)
  pub links : links.FitLinks (links_in t)
  pub legs : legs.FitLegs (legs_in t)
  pub held : held.FitHeld (held_in t)
  pub gates : gates.FitGates (gates_in t)

-- the bytes t are a table that shows as x
pub record Told (t : Bytes) (x : Table) : Type 0 where
  pub fit : FitTable t
  pub shows : view_table t ≡ x

-- ---- what stands at a place
abbrev pub nth_link : Table → ℕ → LinkRec
nth_link x i = get_or x.links i links.no_link

abbrev pub nth_leg : Table → ℕ → Leg
nth_leg x i = get_or x.legs i legs.no_leg

abbrev pub nth_held : Table → ℕ → Held
nth_held x i = get_or x.held i held.no_held

-- ---- another head
abbrev pub with_head : Bytes → Params → ℕ → Table → Table
with_head who c n x = record { me = who; params = c; next = n; links = x.links; legs = x.legs; held = x.held; gates = x.gates }

abbrev pub with_next : ℕ → Table → Table
with_next n x = with_head x.me x.params n x
