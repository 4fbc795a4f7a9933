use Rattle.std.proofs.Common.{sym, ap, ◌∙◌, arith}
use Rattle.cl_runs.specs.SystemOf.{system_of}
use Rattle.cl_runs.proofs.ModelSystem.{count_is}
use Rattle.cl_bound.specs.Answers.{answer_with}
use Rattle.cl_tight.proofs.TightTasks.{phased_answer}
use Rattle.cl_tight.proofs.tightening.answer_within.Goals as goal

pub returns-in-Ok : goal.returns-in-Ok
returns-in-Ok c =
    sym (ap answer_with (rw c.in-Ok.is at c.in_ok-settled.ensures.response))
    ∙ sym (phased_answer (system_of c.args.model.now) c.args.task (omega (arith, c.requires.task, count_is c.args.model.now)))

pub returns-in-Err : goal.returns-in-Err
returns-in-Err c =
    sym (ap answer_with (rw c.in-Err.is at c.in_ok-settled.ensures.response))
    ∙ sym (phased_answer (system_of c.args.model.now) c.args.task (omega (arith, c.requires.task, count_is c.args.model.now)))
