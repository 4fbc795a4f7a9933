use Rattle.std.proofs.Common.{ℕ, ◌<◌, Some, List, length, get_or, sym, ap, ◌∙◌, arith}
use Rattle.std.proofs.lemmas.Option.{slice_get-get_or}
use Rattle.cl_runs.specs.SystemOf.{system_of}
use Rattle.cl_runs.proofs.ModelSystem.{count_is}
use Rattle.cl_cycle.specs.declared.cycle.Cycle.{Cycle}
use Rattle.cl_bound.specs.Answers.{answer_with}
use Rattle.cl_tight.proofs.TightTasks.{phased_answer}
use Rattle.cl_margin.proofs.trial.Trial.ask.Goals as goal

pub bounds-as_slice-task : goal.bounds-as_slice-task
bounds-as_slice-task c =
    omega (arith, c.requires.task, c.requires.trial.cycles.one_a_task, count_is c.args.self.now.model, ap length c.as_slice.ensures)

pub respond_in_cycle-requires-clause-cycle : goal.respond_in_cycle-requires-clause-cycle
respond_in_cycle-requires-clause-cycle c =
    let trial = c.args.self.now in
    let is = c.requires.trial in
    let task : ℕ = c.args.task in
    let cycle = c.index-as_slice-task.result in
    let lt : task < length trial.cycles = omega (arith, c.requires.task, is.cycles.one_a_task, count_is trial.model) in
    is.cycles.each task cycle
    (slice_get-get_or trial.cycles task cycle lt
    ∙ ap Some (sym (c.index-as_slice-task.is ∙ ap (λ (list : List Cycle). get_or list task cycle) c.as_slice.ensures)))

pub returns-in-Ok : goal.returns-in-Ok
returns-in-Ok c =
    let model = c.args.self.now.model in
    sym (ap answer_with (rw c.in-Ok.is at c.in_ok-settled.ensures.response))
    ∙ sym (phased_answer (system_of model) c.args.task (omega (arith, c.requires.task, count_is model)))

pub returns-in-Err : goal.returns-in-Err
returns-in-Err c =
    let model = c.args.self.now.model in
    sym (ap answer_with (rw c.in-Err.is at c.in_ok-settled.ensures.response))
    ∙ sym (phased_answer (system_of model) c.args.task (omega (arith, c.requires.task, count_is model)))
