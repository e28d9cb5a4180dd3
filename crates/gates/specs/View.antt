-- What the bytes of the region show, as gates_entry says it.
pub use Rattle.gates_entry.specs.View.{entry_of, view_gates, FitGates, gate_count, no_memory, memory_at}
