-- A link record of which each field is read.
use Rattle.std.specs.Prelude.{◌≡◌, Bool, List, ℕ}
use Rattle.rules.specs.Data.{Dir, Holder, LinkRec, Pair, PathRec}

pub link_loaded : (r : LinkRec) {n : ℕ} {p : Pair} {d : Dir} {h : Holder} {ws : List PathRec} {b : Bool} → n ≡ r.no → p ≡ r.setup → d ≡ r.dir → h ≡ r.holder → ws ≡ r.paths → b ≡ r.released
    → record { no = n; setup = p; dir = d; holder = h; paths = ws; released = b } ≡ r
link_loaded r en ep ed eh ew eb = rw (en, ep, ed, eh, ew, eb)
