-- What each case of an enum means to the rules, and that a byte read gives the case that it was written for.
use Rattle.std.specs.Prelude.{◌≡◌, refl, ℕ, ◌≤◌, Some, slice_get, Result, MatchResult}
use Rattle.rules.specs.Data as rule
use Rattle.rules.specs.Field.{whys, why_code}
use Rattle.output_code.specs.declared.Why.{Why}
use Rattle.output_code.specs.declared.Why.TheVariants as why
use Rattle.output_code.specs.declared.UnknownWhy.{UnknownWhy}
use Rattle.output_code.specs.declared.kind.Kind.{Kind}
use Rattle.output_code.specs.declared.kind.Kind.TheVariants as kind
use Rattle.output_code.specs.declared.Build.{Build}
use Rattle.output_code.specs.declared.Build.TheVariants as build
use Rattle.output_code.specs.declared.Transition.{Transition}
use Rattle.output_code.specs.declared.Transition.TheVariants as transition

abbrev pub why_of : Why → rule.Why
why_of why.Restart = rule.Why.Restart
why_of why.Replacement = rule.Why.Replacement
why_of why.OwnRestart = rule.Why.OwnRestart
why_of why.Ended = rule.Why.Ended
why_of why.Orphaned = rule.Why.Orphaned
why_of why.Disconnect = rule.Why.Disconnect
why_of why.Dead = rule.Why.Dead
why_of why.Admin = rule.Why.Admin
why_of why.Closed = rule.Why.Closed

abbrev pub build_of : Build → rule.Build
build_of build.Fresh = rule.Build.Fresh
build_of build.FromCarry = rule.Build.FromCarry

abbrev pub transition_of : Transition → rule.Transition
transition_of transition.Promote = rule.Transition.Promote
transition_of transition.Replace = rule.Transition.Replace
transition_of transition.Move = rule.Transition.Move
transition_of transition.Keep = rule.Transition.Keep
transition_of transition.Restarted = rule.Transition.Restarted
transition_of transition.Roam = rule.Transition.Roam

-- the case that a code byte names is the one whose code it is
pub why_read : (w : rule.Why) → slice_get whys (why_code w) ≡ Some w
why_read rule.Why.Restart = refl
why_read rule.Why.Replacement = refl
why_read rule.Why.OwnRestart = refl
why_read rule.Why.Ended = refl
why_read rule.Why.Orphaned = refl
why_read rule.Why.Disconnect = refl
why_read rule.Why.Dead = refl
why_read rule.Why.Admin = refl
why_read rule.Why.Closed = refl

-- the result is the case with this code, or an error with a code that no case has
abbrev pub DecodesWhy : ℕ → Result Why UnknownWhy → Type 0
DecodesWhy code r = MatchResult r (λ w. why_code (why_of w) ≡ code) (λ e. (e.0 ≡ code) × (9 ≤ code))

-- the byte of each kind of output
abbrev pub kind_code : Kind → ℕ
kind_code kind.Done = 0
kind_code kind.Opened = 1
kind_code kind.Answer = 2
kind_code kind.Resend = 3
kind_code kind.Rekey = 4
kind_code kind.Install = 5
kind_code kind.Reset = 6
kind_code kind.Remove = 7
kind_code kind.Retire = 8
kind_code kind.Release = 9
kind_code kind.Close = 10
kind_code kind.Free = 11
kind_code kind.Retry = 12
kind_code kind.Reject = 13
kind_code kind.Wake = 14
