use Rattle.cl_resp.proofs.Questions.{is_question, is_in_range}
use Rattle.cl_resp.proofs.asking.ask_either.Goals as goal

pub returns-clause-question : goal.returns-clause-question
returns-clause-question c =
    is_question c.args.model.now c.args.blocking c.args.task c.requires _ _ _ _ _ c.time_of.ensures c.block_of.ensures c.jitter_of.ensures c.deadline_of.ensures c.in_ok-all_above.ensures

pub returns-clause-in_range : goal.returns-clause-in_range
returns-clause-in_range c =
    is_in_range c.args.model.now c.args.blocking c.args.task c.requires _ _ _ _ _ c.time_of.ensures c.block_of.ensures c.jitter_of.ensures c.deadline_of.ensures c.in_ok-all_above.ensures
    c.task.ensures.valid
