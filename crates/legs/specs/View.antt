-- What the bytes of the region show and what a leg shows, as legs_entry says it.
pub use Rattle.legs_entry.specs.View.{leg_of, view_legs, FitLegs, leg_count, no_leg, leg_at, view_leg}
