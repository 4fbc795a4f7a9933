use Rattle.std.proofs.Common.{arith}
use Rattle.cl_resp.proofs.PhasedAnswers.{serves_if, short_if, answer_is, no_answer_is, jitter_first, always_finishes}
use Rattle.cl_resp.proofs.by_phase.respond_in_cycle.Goals as goal

pub response_in_window-most-requires-clause-widest : goal.response_in_window-most-requires-clause-widest
response_in_window-most-requires-clause-widest c =
    serves_if c.args.model.now c.ask_in_cycle.ensures.valid c.args.task c.requires.task _ (omega arith) c.in_ok-question.question
    c.in_ok-question.ensures.question c.args.widest c.requires.widest

pub response_in_window-most-requires-clause-short : goal.response_in_window-most-requires-clause-short
response_in_window-most-requires-clause-short c =
    short_if c.args.model.now c.ask_in_cycle.ensures.valid c.args.task c.requires.task c.args.widest c.requires.widest

pub longest_answer-requires-clause-widest : goal.longest_answer-requires-clause-widest
longest_answer-requires-clause-widest c =
    serves_if c.args.model.now c.ask_in_cycle.ensures.valid c.args.task c.requires.task _ (omega arith) c.in_ok-question.question
    c.in_ok-question.ensures.question c.args.widest c.requires.widest

pub longest_answer-requires-clause-short : goal.longest_answer-requires-clause-short
longest_answer-requires-clause-short c =
    short_if c.args.model.now c.ask_in_cycle.ensures.valid c.args.task c.requires.task c.args.widest c.requires.widest

pub overflow_sub-result : goal.overflow_sub-result
overflow_sub-result c =
    jitter_first c.args.model.now c.ask_in_cycle.ensures.valid c.args.task c.requires.task c.in_ok-question.question
    c.in_ok-question.ensures.question c.in-Some.response c.in-Some.ensures

pub returns-in-Some-clause-response : goal.returns-in-Some-clause-response
returns-in-Some-clause-response c =
    answer_is c.args.model.now c.ask_in_cycle.ensures.valid c.args.task c.requires.task c.in_ok-question.question
    c.in_ok-question.ensures.question c.in-Some.response c.in-Some.ensures

pub returns-in-Some-clause-finishing : goal.returns-in-Some-clause-finishing
returns-in-Some-clause-finishing c =
    always_finishes c.args.model.now c.ask_in_cycle.ensures.valid c.args.task c.requires.task c.in_ok-question.question
    c.in_ok-question.ensures.question c.in-Some.response c.in-Some.ensures

pub returns-clause-response : goal.returns-clause-response
returns-clause-response c =
    no_answer_is c.args.model.now c.ask_in_cycle.ensures.valid c.args.task c.requires.task c.in_ok-question.question
    c.in_ok-question.ensures.question c.in-None.ensures
