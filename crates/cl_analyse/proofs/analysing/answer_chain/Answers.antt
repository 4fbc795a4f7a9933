use Rattle.std.proofs.Common.{sym, ◌∙◌}
use Rattle.cl_model.specs.ByNumber.{chain_at}
use Rattle.cl_analyse.proofs.{FirstLate.settled_groups, AnswerLists.{late_answer, bounds_answer}}
use Rattle.cl_analyse.proofs.analysing.answer_chain.Goals as goal

pub bound-requires-clause-not_late : goal.bound-requires-clause-not_late
bound-requires-clause-not_late g c =
    settled_groups c.args.tasks.now c.args.model.now (chain_at c.args.model.now c.args.chain) (sym c.first_late.ensures ∙ c.in-None.is)

pub returns-in-Some-clause-answer : goal.returns-in-Some-clause-answer
returns-in-Some-clause-answer g c =
    late_answer c.args.model.now c.args.tasks.now (chain_at c.args.model.now c.args.chain) c.in-Some.task c.requires.answers (sym c.first_late.ensures ∙ c.in-Some.is)

pub returns-in-None-clause-answer : goal.returns-in-None-clause-answer
returns-in-None-clause-answer g c =
    bounds_answer c.args.model.now c.args.tasks.now (chain_at c.args.model.now c.args.chain) c.bound.result c.requires.answers (sym c.first_late.ensures ∙ c.in-None.is) c.bound.ensures.bounds
