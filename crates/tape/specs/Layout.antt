-- The buffers of a tape, as src/layout.rt has them.
use Rattle.std.specs.Prelude.{◌≡◌, refl, ℕ, ◌+◌}
use Rattle.settle.specs.Layout.{buffer_len}

abbrev pub record_len : ℕ
record_len = 65_537

abbrev pub done_len : ℕ
done_len = 5

abbrev pub out_len : ℕ
out_len = 10_245

pub out_parts : buffer_len + done_len ≡ out_len
out_parts = refl
