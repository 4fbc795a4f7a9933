use Rattle.std.proofs.Common.{◌≡◌, ℕ, Option, List, length, ap, subst, ◌∙◌, arith}
use Rattle.cl_runs.specs.{declared.job.{Job.Job, JobTable.JobTable}, Table.table_jobs, Run.jobs_of}
use Rattle.cl_runs.proofs.ModelSystem.{count_is}
use Rattle.cl_near.specs.Inner.SeenJobs.{IsSeenOfJobs}
use Rattle.cl_near.proofs.SeenTasks.{seen_is_so}
use Rattle.cl_near.proofs.task_seen.seen_in_run.Goals as goal

pub jobs_of-jobs-requires : goal.jobs_of-jobs-requires
jobs_of-jobs-requires c =
    omega (arith, c.requires.task, c.requires.in_form.tasks, count_is c.args.model.now, ap (λ (t : JobTable). length t.jobs) c.table-table.ensures)

pub returns : goal.returns
returns c =
    let task = c.args.task in
    let deadline = c.deadline_of-deadline.result in
    let ticks = c.table-table.result.now.ticks in
    let seen = c.seen_of_jobs.result in
    let finishes = c.in_ok-finishes.finishes in
    let jobs : c.jobs_of-jobs.result.now ≡ jobs_of c.args.run.now task
    = c.jobs_of-jobs.ensures ∙ ap (λ (t : JobTable). table_jobs t task) c.table-table.ensures in
    seen_is_so c.args.model.now c.plain-valid.ensures.valid task c.requires.task c.args.run.now c.requires.shows finishes deadline ticks seen
    c.in_ok-finishes.ensures c.deadline_of-deadline.ensures (ap (λ (t : JobTable). t.ticks) c.table-table.ensures)
    (subst (λ (all : List Job). IsSeenOfJobs all finishes deadline ticks seen) jobs
    (subst (λ (all : List (Option ℕ)). IsSeenOfJobs c.jobs_of-jobs.result.now all deadline ticks seen) c.as_slice.ensures c.seen_of_jobs.ensures))
