-- What is read of a leg in place, as legs_entry says it.
pub use Rattle.legs_entry.specs.At.{there, absent, off, on, named_peer, no_answer, answer_of, resend_due, past_deadline, Stands}
