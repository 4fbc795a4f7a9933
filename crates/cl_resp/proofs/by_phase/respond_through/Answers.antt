use Rattle.std.proofs.Common.{◌-◌, sym, ◌∙◌}
use Rattle.cl_resp.proofs.{PhasedAnswers.short_if, PartAnswers.{numbered, same_response, behind_first, finishes_through, less_work, in_range_without, serves_without, suffices_without, answered_without}}
use Rattle.cl_resp.proofs.by_phase.respond_through.Goals as goal

pub time_behind-behind-requires-clause-task : goal.time_behind-behind-requires-clause-task
time_behind-behind-requires-clause-task c = numbered c.args.model.now c.args.task c.args.response c.requires.settled

pub widest_window-requires : goal.widest_window-requires
widest_window-requires c = numbered c.args.model.now c.args.task c.args.response c.requires.settled

pub ask_by_phase-requires : goal.ask_by_phase-requires
ask_by_phase-requires c = numbered c.args.model.now c.args.task c.args.response c.requires.settled

-- ---- with no time behind

pub returns-then-behind-eq0-clause-through : goal.returns-then-behind-eq0-clause-through
returns-then-behind-eq0-clause-through c =
    same_response c.args.model.now c.time_behind-behind.ensures.valid c.args.task c.args.response c.requires.settled c.args.place c.requires.place
    (sym c.time_behind-behind.ensures.time ∙ c.if-behind-eq0.true)

pub returns-then-behind-eq0-clause-finishing : goal.returns-then-behind-eq0-clause-finishing
returns-then-behind-eq0-clause-finishing c =
    finishes_through c.args.model.now c.time_behind-behind.ensures.valid c.args.task c.args.response c.requires.settled c.args.place c.requires.place c.args.response
    (same_response c.args.model.now c.time_behind-behind.ensures.valid c.args.task c.args.response c.requires.settled c.args.place c.requires.place
    (sym c.time_behind-behind.ensures.time ∙ c.if-behind-eq0.true))

-- ---- with some

pub overflow_sub-question : goal.overflow_sub-question
overflow_sub-question c =
    less_work c.args.model.now c.time_behind-behind.ensures.valid c.args.task c.args.response c.requires.settled c.args.place c.requires.place
    c.in_ok-question.question c.in_ok-question.ensures.question c.in_ok-question.ensures.time
    c.time_behind-behind.result c.time_behind-behind.ensures.time

pub overflow_sub-most : goal.overflow_sub-most
overflow_sub-most c =
    behind_first c.args.model.now c.time_behind-behind.ensures.valid c.args.task c.args.response c.requires.settled c.args.place c.requires.place
    c.time_behind-behind.result c.time_behind-behind.ensures.time

pub window_of-least-requires : goal.window_of-least-requires
window_of-least-requires c =
    (in_range_without c.args.model.now c.time_behind-behind.ensures.valid c.args.task c.args.response c.requires.settled c.args.place c.requires.place
    c.in_ok-question.question c.in_ok-question.ensures.question c.in_ok-question.ensures.time
    c.time_behind-behind.result c.time_behind-behind.ensures.time c.in_ok-question.ensures.in_range).beside

pub longest_answer-requires-clause-in_range : goal.longest_answer-requires-clause-in_range
longest_answer-requires-clause-in_range c =
    in_range_without c.args.model.now c.time_behind-behind.ensures.valid c.args.task c.args.response c.requires.settled c.args.place c.requires.place
    c.in_ok-question.question c.in_ok-question.ensures.question c.in_ok-question.ensures.time
    c.time_behind-behind.result c.time_behind-behind.ensures.time c.in_ok-question.ensures.in_range

pub longest_answer-requires-clause-widest : goal.longest_answer-requires-clause-widest
longest_answer-requires-clause-widest c =
    serves_without c.args.model.now c.time_behind-behind.ensures.valid c.args.task c.args.response c.requires.settled c.args.place c.requires.place
    c.in_ok-question.question c.in_ok-question.ensures.question c.in_ok-question.ensures.time
    c.time_behind-behind.result c.time_behind-behind.ensures.time c.in_ok-widest.widest c.in_ok-widest.ensures

pub longest_answer-requires-clause-short : goal.longest_answer-requires-clause-short
longest_answer-requires-clause-short c =
    short_if c.args.model.now c.time_behind-behind.ensures.valid c.args.task
    (numbered c.args.model.now c.args.task c.args.response c.requires.settled) c.in_ok-widest.widest c.in_ok-widest.ensures

pub longest_answer-requires-clause-most : goal.longest_answer-requires-clause-most
longest_answer-requires-clause-most c =
    suffices_without c.args.model.now c.time_behind-behind.ensures.valid c.args.task c.args.response c.requires.settled c.args.place c.requires.place
    c.in_ok-question.question c.in_ok-question.ensures.question c.in_ok-question.ensures.time
    c.time_behind-behind.result c.time_behind-behind.ensures.time

pub returns-clause-through : goal.returns-clause-through
returns-clause-through c =
    answered_without c.args.model.now c.time_behind-behind.ensures.valid c.args.task c.args.response c.requires.settled c.args.place c.requires.place
    c.in_ok-question.question c.in_ok-question.ensures.question c.in_ok-question.ensures.time
    c.time_behind-behind.result c.time_behind-behind.ensures.time
    c.longest_answer.result c.longest_answer.ensures (c.args.response - c.time_behind-behind.result) c.unwrap_or.result c.unwrap_or.ensures

pub returns-clause-finishing : goal.returns-clause-finishing
returns-clause-finishing c =
    finishes_through c.args.model.now c.time_behind-behind.ensures.valid c.args.task c.args.response c.requires.settled c.args.place c.requires.place c.unwrap_or.result
    (answered_without c.args.model.now c.time_behind-behind.ensures.valid c.args.task c.args.response c.requires.settled c.args.place c.requires.place
    c.in_ok-question.question c.in_ok-question.ensures.question c.in_ok-question.ensures.time
    c.time_behind-behind.result c.time_behind-behind.ensures.time
    c.longest_answer.result c.longest_answer.ensures (c.args.response - c.time_behind-behind.result) c.unwrap_or.result c.unwrap_or.ensures)
