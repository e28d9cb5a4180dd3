-- What `admit` comes to: refused, rejected, answered.
use Rattle.std.specs.Prelude.{◌≡◌, true, false, List, [], ◌∷◌, ℕ, None, Some}
use Rattle.rules.specs.Data.{Held, Table, Hello, Source, Denial, Output, Free, Reject}
use Rattle.rules.specs.Settle.{writes, ok, held_at, displaces, denied, answer, stamp, removed, ◌▸◌, entering, admitted, admit}

-- the Reject of a hello, and Free
abbrev pub rejected : Source → Hello → Denial → List Output
rejected k y why = Reject (Some (y.peer, k)) why ∷ Free y.lease ∷ []

module _ (now : ℕ) (y : Hello) (x : Table) where
  -- ---- of a peer not held
  module _ (e : held_at y.peer x ≡ None) where
    pub new_asked : (s : Source) → admit now s y x ≡ admit now Source.NotHeld y x
    unfolding admit
    new_asked s = rw e

    pub new_rejected : {why : Denial} → Some why ≡ denied now Source.NotHeld y x → admit now Source.NotHeld y x ≡ ok (writes (rejected Source.NotHeld y why) x)
    unfolding admit
    new_rejected q = rw (e, ← q)

    pub new_enters : None ≡ denied now Source.NotHeld y x → admit now Source.NotHeld y x ≡ entering y.peer x (ok (answer now y false x))
    unfolding admit admitted
    new_enters q = rw (e, ← q)

  -- ---- of a held one
  module _ (s : Source) {h : Held} (e : held_at y.peer x ≡ Some h) where
    pub held_rejected : {why : Denial} → Some why ≡ denied now s y x → admit now s y x ≡ ok (writes (rejected s y why) x)
    unfolding admit
    held_rejected q = rw (e, ← q)

    pub held_displaced : None ≡ denied now s y x → admit now s y x ≡ ok (removed now y.peer (displaces s) h (stamp now h x) ▸ answer now y true)
    unfolding admit admitted
    held_displaced q = rw (e, ← q)
