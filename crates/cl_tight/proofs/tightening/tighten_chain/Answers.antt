use Rattle.std.proofs.Common.{sym, ◌∙◌}
use Rattle.cl_model.specs.ByNumber.{chain_at}
use Rattle.cl_analyse.proofs.FirstLate.{settled_groups}
use Rattle.cl_tight.proofs.TightLists.{late_answer, bounds_answer}
use Rattle.cl_tight.proofs.tightening.tighten_chain.Goals as goal

pub bound_chain-requires-clause-not_late : goal.bound_chain-requires-clause-not_late
bound_chain-requires-clause-not_late c =
    settled_groups c.args.tasks.now c.args.model.now (chain_at c.args.model.now c.args.chain) (sym c.first_late.ensures ∙ c.in-None.is)

pub returns-in-Some-clause-answer : goal.returns-in-Some-clause-answer
returns-in-Some-clause-answer c =
    late_answer c.args.model.now c.args.tasks.now (chain_at c.args.model.now c.args.chain) c.requires.answers c.in-Some.task (sym c.first_late.ensures ∙ c.in-Some.is)

pub returns-in_ok-bound_chain-in-None-clause-answer : goal.returns-in_ok-bound_chain-in-None-clause-answer
returns-in_ok-bound_chain-in-None-clause-answer c =
    bounds_answer c.args.model.now c.args.tasks.now (chain_at c.args.model.now c.args.chain) c.requires.answers c.in_ok-bound_chain-in-None.field-0
    (sym c.first_late.ensures ∙ c.in-None.is) c.in_ok-bound_chain-in-None.ensures.bounds
