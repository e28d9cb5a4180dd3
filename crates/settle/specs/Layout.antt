-- The buffer of a call, as src/layout.rt has it; the rules' `call` refuses a shorter one.
use Rattle.std.specs.Prelude.{ℕ}

abbrev pub buffer_len : ℕ
buffer_len = 10_240
