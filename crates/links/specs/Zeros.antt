-- Zeroed memory, as links_entry says it.
pub use Rattle.links_entry.specs.Zeros.{links_new, links_none}
