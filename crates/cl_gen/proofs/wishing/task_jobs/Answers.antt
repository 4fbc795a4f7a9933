use Rattle.std.proofs.Common.{true, false, sym, ◌∙◌}
use Rattle.std.proofs.lemmas.Bool.{false≢true}
use Rattle.std.proofs.lemmas.Result.{IfOk-weaker}
use Rattle.cl_runs.specs.{SystemOf.system_of, TaskTiming.timing_at, Table.AreLawfulJobs}
use Rattle.cl_gen.specs.Inner.WishedTasks.{AreWishedOf}
use Rattle.cl_gen.proofs.TasksOfModels.{mark_is}
use Rattle.cl_gen.proofs.wishing.task_jobs.Goals as goal

pub returns-then-is_among : goal.returns-then-is_among
returns-then-is_among g c =
    let model = c.args.model.now in
    let timing = timing_at (system_of model) c.args.task in
    let marked = mark_is model c.args.task c.requires.task c.args.cores.now c.core_of.result c.is_among.result true c.core_of.ensures.core c.is_among.ensures c.if-is_among.true in
    IfOk-weaker c.wished_task.result (AreLawfulJobs timing c.args.ticks) (AreWishedOf timing c.args.ticks c.args.cores.now)
    (λ jobs lawful. record { lawful = λ among. lawful; none = λ other. absurd (false≢true (sym other ∙ marked)) })
    c.wished_task.ensures

pub returns : goal.returns
returns g c =
    let model = c.args.model.now in
    let marked = mark_is model c.args.task c.requires.task c.args.cores.now c.core_of.result c.is_among.result false c.core_of.ensures.core c.is_among.ensures c.if-is_among.false in
    record {
      lawful = λ among. absurd (false≢true (sym marked ∙ among));
      none = λ other. c.new.ensures;
    }
