-- An entry put over another, and a new one put between others.
use Rattle.std.specs.Prelude.{◌≡◌, ℕ, ◌*◌, ◌<◌, length, set}
use Rattle.std.proofs.Common.{sym, ◌∙◌, arith, Fits}
use Rattle.std.specs.Int.{w64}
use Rattle.rules.specs.Base.{Bytes}
use Rattle.rules.specs.Bounds.{IfAny}
use Rattle.rules.specs.Std as std
use Rattle.rules.specs.Gates.{earlier_memory}
use Rattle.lib_laws.specs.Shift.{replaced}
use Rattle.lib_laws.specs.Scan.{scan}
use Rattle.lib_laws.specs.Splice.{splice, length_splice, Wrote}
use Rattle.lib_laws.specs.Part.{get_d_past}
use Rattle.lib_laws.specs.Chunk.{chunks_whole}
use Rattle.lib_laws.specs.Store.{gapped, inserted_is}
use Rattle.node_addr.specs.Search.{Takes, takes_insert}
use Rattle.gates_types.specs.declared.Memory.{Memory}
use Rattle.gates_types.specs.View.{view_memory, FitMemory}
use Rattle.gates_entry.specs.View.{entry_of, view_gates, FitGates, gate_count}
use Rattle.gates_entry.specs.Entry.{memory_bytes, fit_memory, memory_shows}
use Rattle.gates_entry.specs.Layout.{at_memory_count, memory_cap, memory_width}
use Rattle.gates.specs.Walk.{after, count_is}

module _ (m : Memory) (f : FitMemory m) (b : IfAny (Fits w64) m.stamp) {s : Bytes} (g : FitGates s) where
  pub put_over : {l : Bytes} {q : ℕ} (i : ℕ) → i < gate_count s → Wrote s (i * memory_width) memory_width (memory_bytes m) l q → FitGates l × (view_gates l ≡ set (view_gates s) i (view_memory m))
  put_over {l} i h a =
      let n : length (memory_bytes m) ≡ memory_width = a.size in
      let size : length (splice s (i * memory_width) (memory_bytes m)) ≡ length s = length_splice s (i * memory_width) (memory_bytes m) (omega arith) in
      let y = get_d_past at_memory_count s (i * memory_width) (memory_bytes m) (omega arith) (omega arith) in
      let c = chunks_whole memory_width memory_cap s i (memory_bytes m) (omega arith) (omega arith) n in
      let k = replaced entry_of i (memory_bytes m) g.kept (fit_memory m f) h in
      rw a.is (record { size = omega arith; kept = rw (y, c) k.0 }, rw (y, c, ← memory_shows m f b) k.1)

  pub put_new : {l u : Bytes} {q r : ℕ} → gate_count s < 32 → Takes r (scan (after (view_memory m).peer) 0 (view_gates s)) (gate_count s) → l ≡ gapped memory_width memory_cap r s → Wrote l (r * memory_width) memory_width (memory_bytes m) u q
      → FitGates u × (view_gates u ≡ std.insert earlier_memory (view_memory m) (view_gates s))
  put_new h t e a =
      let k = inserted_is entry_of g t.within h e a (fit_memory m f) (memory_shows m f b) in
      (k.0, k.1 ∙ takes_insert earlier_memory (view_memory m) (view_gates s) t (sym (count_is g)))
