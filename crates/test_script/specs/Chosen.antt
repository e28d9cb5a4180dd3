-- Values by small numbers.
use Rattle.std.specs.Prelude.{ℕ, ◌%◌, [], ◌∷◌}
use Rattle.rules.specs.Time.{Params}
use Rattle.rules.specs.Data.{Pair}

-- an address of one byte
abbrev pub pair_of : ℕ → ℕ → Pair
pair_of t v = record { transport = t % 4_294_967_296; addr = v % 256 ∷ [] }

abbrev pub chosen : Params
chosen = record {
  unheard = 10;
  interval = 100;
  replays = 2;
  silent = 2;
  silentbase = 30;
  silentcap = 100;
  horizon = 500;
  counted = 2;
  handshake = 100;
  resend = 10;
  resends = 3;
  pending = 1000;
}
