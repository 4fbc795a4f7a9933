use Rattle.std.proofs.Common.{List, ap, ◌∙◌}
use Rattle.cl_runs.specs.{declared.job.{Job.Job, JobTable.JobTable}, SystemOf.system_of}
use Rattle.cl_gen.specs.{Words.{Taken, word_of}, Drawn.{drawn_tasks, drawn}}
use Rattle.cl_gen.proofs.table.drawn_table.Goals as goal

pub returns : goal.returns
unfolding drawn
returns c =
    let table : List (List Job) → JobTable = λ jobs. record { ticks = c.args.ticks; jobs = jobs } in
    ap table
    (c.in_ok-jobs.ensures
    ∙ ap (λ (t : Taken). drawn_tasks (word_of t.seed) c.args.ticks 0 (system_of c.args.model.now).tasks) c.of_seed-draws.ensures)
