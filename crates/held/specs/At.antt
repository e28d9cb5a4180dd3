-- What single cells of the i-th held peer show, where they stand.
use Rattle.std.specs.Prelude.{◌≡◌, Bool, ℕ, ◌+◌, ◌*◌, ◌<◌, take, drop}
use Rattle.std.proofs.Common.{sym, ap, ◌∙◌, add-zero, arith}
use Rattle.rules.specs.Base.{Bytes}
use Rattle.rules.specs.Std.{before}
use Rattle.rules.specs.Data.{Pair, same_pair, Held}
use Rattle.lib_laws.specs.Cell.{num, flag_of, option_num, option_bytes}
use Rattle.node_addr.specs.Place.{pair_of, PairCell}
use Rattle.node_addr.specs.Layout.{pair_width}
use Rattle.held.specs.Layout.{at_current, at_has_last, at_has_setup, at_heard, at_held_epoch, at_held_link, at_held_setup, at_installed, at_last, held_width}
use Rattle.held.specs.View.{FitHeld, held_count, nth_held}
use Rattle.held.specs.Entry.{fit_here, held_here}

-- p comes before it in the order of addresses
abbrev pub precedes : Bytes → Held → Bool
precedes p h = before p h.peer

module _ {s : Bytes} {i : ℕ} (f : FitHeld s) (h : i < held_count s) where
  pub peer_here : take 16 (drop (i * held_width) s) ≡ (nth_held s i).peer
  peer_here = ap (λ (a : ℕ). take 16 (drop a s)) (sym (add-zero (i * held_width))) ∙ ap (λ (k : Held). k.peer) (held_here s i f h)

  pub link_here : num (take 8 (drop (i * held_width + at_held_link) s)) ≡ (nth_held s i).link
  link_here = ap (λ (k : Held). k.link) (held_here s i f h)

  pub epoch_here : num (take 8 (drop (i * held_width + at_held_epoch) s)) ≡ (nth_held s i).epoch
  epoch_here = ap (λ (k : Held). k.epoch) (held_here s i f h)

  pub installed_here : num (take 8 (drop (i * held_width + at_installed) s)) ≡ (nth_held s i).installed
  installed_here = ap (λ (k : Held). k.installed) (held_here s i f h)

  pub heard_here : flag_of (take 1 (drop (i * held_width + at_heard) s)) ≡ (nth_held s i).heard
  heard_here = ap (λ (k : Held). k.heard) (held_here s i f h)

  pub last_here : option_num (take 1 (drop (i * held_width + at_has_last) s)) (take 8 (drop (i * held_width + at_has_last + 1) s)) ≡ (nth_held s i).last
  last_here = let e : i * held_width + at_has_last + 1 ≡ i * held_width + at_last = omega arith in rw e (ap (λ (k : Held). k.last) (held_here s i f h))

  pub setup_here : option_bytes (take 1 (drop (i * held_width + at_has_setup) s)) (take 32 (drop (i * held_width + at_has_setup + 1) s)) ≡ (nth_held s i).setup
  setup_here = let e : i * held_width + at_has_setup + 1 ≡ i * held_width + at_held_setup = omega arith in rw e (ap (λ (k : Held). k.setup) (held_here s i f h))

  pub current_here : pair_of (take pair_width (drop (i * held_width + at_current) s)) ≡ (nth_held s i).current
  current_here = ap (λ (k : Held). k.current) (held_here s i f h)

  pub current_beside : {r : Bool} (p : Pair) → r ≡ same_pair p (pair_of (take pair_width (drop (i * held_width + at_current) s))) → r ≡ same_pair p (nth_held s i).current
  current_beside p e = e ∙ ap (same_pair p) current_here

  pub current_cell : PairCell (take pair_width (drop (i * held_width + at_current) s))
  current_cell = (fit_here s i f h).current
