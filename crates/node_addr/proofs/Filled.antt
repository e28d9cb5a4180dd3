-- Laws of up to so many bytes with zeros behind them.
use Rattle.std.specs.Prelude.{◌≡◌, List, ◌++◌, ℕ, ◌-◌, ◌≤◌, length, replicate}
use Rattle.std.proofs.Common.{arith, drop_at, length-append}
use Rattle.std.proofs.lemmas.List.{length-replicate}
use Rattle.lib_laws.specs.Shift.{Kept}
use Rattle.lib_laws.specs.Buffer.{Any, all_any}
use Rattle.node_addr.specs.declared.padded.Padded.{Padded}

pub kept_padded : {N : ℕ} (p : Padded N) → Kept Any 0 N p.len p.bytes
kept_padded p = record { small = p.small; size = p.size; rest = p.rest; each = all_any p.bytes }

-- such bytes are a value of the type
abbrev pub padded : {N n : ℕ} {b : List ℕ} → Kept Any 0 N n b → Padded N
padded {n = n} {b} k = record { len = n; bytes = b; small = k.small; size = k.size; rest = k.rest }

-- n bytes, and zeros behind them
pub kept_filled : (xs : List ℕ) (cap n : ℕ) (l : List ℕ) → length xs ≡ n → n ≤ cap → l ≡ xs ++ replicate (cap - n) 0 → Kept Any 0 cap n l
kept_filled xs cap n l h k e = record {
  small = k;
  size = rw e (simp (length-append, length-replicate) (omega arith));
  rest = rw (e, drop_at xs (replicate (cap - n) 0) n h);
  each = all_any l;
}
