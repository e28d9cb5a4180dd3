-- A session in so much room: it stops before a record for which there may be too little.
use Rattle.std.specs.Prelude.{List, [], ◌∷◌, ◌++◌, ℕ, ◌-◌, ltb, length, if◌then◌else◌}
use Rattle.rules.specs.Base.{Bytes}
use Rattle.tape.specs.Layout.{out_len}
use Rattle.tape.specs.Session.{State, next}

-- w, and what comes behind it
abbrev pub behind : Bytes → Bytes × List Bytes × State → Bytes × List Bytes × State
behind w b = (w ++ b.0, b.1, b.2)

-- what is written, the records that were not run, where the session stands
unfoldable pub within : ℕ → List Bytes → State → Bytes × List Bytes × State
within room [] x = ([], [], x)
within room (r ∷ s) x = if ltb room out_len then ([], r ∷ s, x) else (let a = next r x in behind a.0 (within (room - length a.0) s a.1))
