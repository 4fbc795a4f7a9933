use Rattle.std.proofs.Common.{◌<◌, length, ap, ◌∙◌, arith}
use Rattle.cl_runs.specs.{SystemOf.system_of, TaskTiming.{Timing, timing_at}}
use Rattle.cl_runs.proofs.ModelSystem.{count_is}
use Rattle.cl_gen.specs.{Words.{Taken, word_of}, Drawn.{drawn_jobs, word_after}}
use Rattle.cl_gen.proofs.DrawnTasks.{tasks_more, tasks_all}
use Rattle.cl_gen.proofs.drawing.draw_tasks.Goals as goal

pub loop-task-preserved : goal.loop-task-preserved
loop-task-preserved c =
    let model = c.args.model.now in
    let from = c.loop-task.draws.words in
    let timing : Timing = timing_at (system_of model) c.loop-task.task in
    let within : c.loop-task.task < length (system_of model).tasks = omega (arith, c.loop-task-test.true, c.tasks-task-end.ensures.count, count_is model) in
    record {
      rest = tasks_more (word_of c.args.draws.now.seed) c.args.ticks (system_of model).tasks from c.draw_task.new.draws.words c.loop-task.task
          c.loop-task.jobs c.push.new.self c.in_ok-draw_task.field-0 within
          c.in_ok-push.ensures.ok
          (c.in_ok-draw_task.ensures.drawn
          ∙ ap (λ seed. drawn_jobs (word_of seed) from timing.pattern timing.ranges c.args.ticks) c.loop-task.invariant.seed)
          (ap (λ (t : Taken). t.words) c.in_ok-draw_task.ensures.taken
          ∙ ap (λ seed. word_after (word_of seed) from timing.pattern timing.ranges c.args.ticks) c.loop-task.invariant.seed)
          ∙ c.loop-task.invariant.rest;
      seed = ap (λ (t : Taken). t.seed) c.in_ok-draw_task.ensures.taken ∙ c.loop-task.invariant.seed;
      few = omega (arith, c.in_ok-draw_task.ensures.few, c.loop-task.invariant.few);
    }

pub returns : goal.returns
returns c =
    let model = c.args.model.now in
    tasks_all (word_of c.args.draws.now.seed) c.args.ticks (system_of model).tasks c.loop-task.draws.words c.loop-task.task c.loop-task.jobs _
    (omega (arith, c.loop-task-test.false, c.tasks-task-end.ensures.count, count_is model)) c.loop-task.invariant.rest
