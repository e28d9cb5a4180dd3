-- `call_step::kind_step` meets its contract.
use Rattle.std.proofs.Common.{ap, ◌∙◌, lit≤}
use Rattle.rules.specs.Record.{kinds}
use Rattle.input_call.specs.Read.{kind_fields}
use Rattle.input_call.proofs.Read.{no_kind}
use Rattle.input_frame.specs.Kind.{code_of}
use Rattle.call_kinds.specs.Ask.{no_kind_answers}
use Rattle.call_step.proofs.Coded.{asked_as, answers_as}
use Rattle.call_step.proofs.kind_step.Goals as goal

pub dial_call-requires : goal.dial_call-requires
unfolding kinds
dial_call-requires c = asked_as (ap code_of c.in-Dial.is) c.requires

pub returns-in-Dial : goal.returns-in-Dial
unfolding kinds
returns-in-Dial c = answers_as (ap code_of c.in-Dial.is) c.dial_call.ensures

pub abandon_call-requires : goal.abandon_call-requires
unfolding kinds
abandon_call-requires c = asked_as (ap code_of c.in-Abandon.is) c.requires

pub returns-in-Abandon : goal.returns-in-Abandon
unfolding kinds
returns-in-Abandon c = answers_as (ap code_of c.in-Abandon.is) c.abandon_call.ensures

pub arrived_call-requires : goal.arrived_call-requires
unfolding kinds
arrived_call-requires c = asked_as (ap code_of c.in-Arrived.is) c.requires

pub returns-in-Arrived : goal.returns-in-Arrived
unfolding kinds
returns-in-Arrived c = answers_as (ap code_of c.in-Arrived.is) c.arrived_call.ensures

pub msg1_call-requires : goal.msg1_call-requires
unfolding kinds
msg1_call-requires c = asked_as (ap code_of c.in-Msg1.is) c.requires

pub returns-in-Msg1 : goal.returns-in-Msg1
unfolding kinds
returns-in-Msg1 c = answers_as (ap code_of c.in-Msg1.is) c.msg1_call.ensures

pub replacement_call-requires : goal.replacement_call-requires
unfolding kinds
replacement_call-requires c = asked_as (ap code_of c.in-Replacement.is) c.requires

pub returns-in-Replacement : goal.returns-in-Replacement
unfolding kinds
returns-in-Replacement c = answers_as (ap code_of c.in-Replacement.is) c.replacement_call.ensures

pub sent_call-requires : goal.sent_call-requires
unfolding kinds
sent_call-requires c = asked_as (ap code_of c.in-Sent.is) c.requires

pub returns-in-Sent : goal.returns-in-Sent
unfolding kinds
returns-in-Sent c = answers_as (ap code_of c.in-Sent.is) c.sent_call.ensures

pub unsent_call-requires : goal.unsent_call-requires
unfolding kinds
unsent_call-requires c = asked_as (ap code_of c.in-Unsent.is) c.requires

pub returns-in-Unsent : goal.returns-in-Unsent
unfolding kinds
returns-in-Unsent c = answers_as (ap code_of c.in-Unsent.is) c.unsent_call.ensures

pub msg2_call-requires : goal.msg2_call-requires
unfolding kinds
msg2_call-requires c = asked_as (ap code_of c.in-Msg2.is) c.requires

pub returns-in-Msg2 : goal.returns-in-Msg2
unfolding kinds
returns-in-Msg2 c = answers_as (ap code_of c.in-Msg2.is) c.msg2_call.ensures

pub restarted_call-requires : goal.restarted_call-requires
unfolding kinds
restarted_call-requires c = asked_as (ap code_of c.in-Restarted.is) c.requires

pub returns-in-Restarted : goal.returns-in-Restarted
unfolding kinds
returns-in-Restarted c = answers_as (ap code_of c.in-Restarted.is) c.restarted_call.ensures

pub heard_call-requires : goal.heard_call-requires
unfolding kinds
heard_call-requires c = asked_as (ap code_of c.in-Heard.is) c.requires

pub returns-in-Heard : goal.returns-in-Heard
unfolding kinds
returns-in-Heard c = answers_as (ap code_of c.in-Heard.is) c.heard_call.ensures

pub remove_call-requires : goal.remove_call-requires
unfolding kinds
remove_call-requires c = asked_as (ap code_of c.in-Remove.is) c.requires

pub returns-in-Remove : goal.returns-in-Remove
unfolding kinds
returns-in-Remove c = answers_as (ap code_of c.in-Remove.is) c.remove_call.ensures

pub poll_call-requires : goal.poll_call-requires
unfolding kinds
poll_call-requires c = asked_as (ap code_of c.in-Poll.is) c.requires

pub returns-in-Poll : goal.returns-in-Poll
unfolding kinds
returns-in-Poll c = answers_as (ap code_of c.in-Poll.is) c.poll_call.ensures

pub close_call-requires : goal.close_call-requires
unfolding kinds
close_call-requires c = asked_as (ap code_of c.in-Close.is) c.requires

pub returns-in-Close : goal.returns-in-Close
unfolding kinds
returns-in-Close c = answers_as (ap code_of c.in-Close.is) c.close_call.ensures

pub path_call-requires : goal.path_call-requires
unfolding kinds
path_call-requires c = asked_as (ap code_of c.in-Path.is) c.requires

pub returns-in-Path : goal.returns-in-Path
unfolding kinds
returns-in-Path c = answers_as (ap code_of c.in-Path.is) c.path_call.ensures

pub release_call-requires : goal.release_call-requires
unfolding kinds
release_call-requires c = asked_as (ap code_of c.in-Release.is) c.requires

pub returns-in-Release : goal.returns-in-Release
unfolding kinds
returns-in-Release c = answers_as (ap code_of c.in-Release.is) c.release_call.ensures

pub wake_call-requires : goal.wake_call-requires
unfolding kinds
wake_call-requires c = asked_as (ap code_of c.in-Wake.is) c.requires

pub returns-in-Wake : goal.returns-in-Wake
unfolding kinds
returns-in-Wake c = answers_as (ap code_of c.in-Wake.is) c.wake_call.ensures

pub returns-in-New : goal.returns-in-New
returns-in-New c = no_kind_answers _ (ap kind_fields (ap code_of c.in-New.is) ∙ no_kind 17 (lit≤ tt)) c.requires
