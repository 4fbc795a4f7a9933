use Rattle.std.proofs.Common.{ap, ◌∙◌, arith}
use Rattle.cl_explain.specs.Loads.{jobs_of_round}
use Rattle.cl_explain.proofs.LoadsByNumber.{round_is, round_small}
use Rattle.cl_explain.proofs.loads.load_of_round.Goals as goal

pub overflow_mul-result-2 : goal.overflow_mul-result-2
overflow_mul-result-2 c = omega (
  arith,
  round_small c.args.model.now c.requires.valid c.args.task c.requires.task c.from.result c.from-2.result
      (c.from.ensures ∙ c.jobs_of_round-jobs.ensures ∙ ap jobs_of_round c.stimulus_of.ensures) (c.from-2.ensures ∙ c.time_of.ensures),
)

pub returns-clause-load : goal.returns-clause-load
returns-clause-load c = round_is c.args.model.now c.requires.valid c.args.task c.requires.task c.from.result c.from-2.result
    (c.from.ensures ∙ c.jobs_of_round-jobs.ensures ∙ ap jobs_of_round c.stimulus_of.ensures) (c.from-2.ensures ∙ c.time_of.ensures)

pub returns-clause-small : goal.returns-clause-small
returns-clause-small c = round_small c.args.model.now c.requires.valid c.args.task c.requires.task c.from.result c.from-2.result
    (c.from.ensures ∙ c.jobs_of_round-jobs.ensures ∙ ap jobs_of_round c.stimulus_of.ensures) (c.from-2.ensures ∙ c.time_of.ensures)
