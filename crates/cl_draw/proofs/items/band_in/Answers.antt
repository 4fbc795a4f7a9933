use Rattle.std.proofs.Common.{◌≡◌, ℕ, List, Option, get_or, sym, ap, ◌∙◌, arith}
use Rattle.std.specs.Prelude.{unwrap_or, is_some, slice_get, Some}
use Rattle.std.proofs.lemmas.List.{get_or_default}
use Rattle.cl_runs.specs.{declared.job.Job.Job, Table.{no_job, job_at}, Run.jobs_of}
use Rattle.cl_model.specs.ByNumber.{deadline_of}
use Rattle.cl_picture.specs.Bars.{counts}
use Rattle.cl_draw.proofs.ItemFacts.{due_fits, band_same, begins_inside, passes}
use Rattle.cl_draw.proofs.items.band_in.Goals as goal

pub returns-then-counts : goal.returns-then-counts
returns-then-counts c =
    let jobs = jobs_of c.args.of.run.now c.args.of.task in
    let it : c.index-jobs-job.result ≡ job_at jobs c.args.job
    = c.index-jobs-job.is ∙ ap (λ (js : List Job). get_or js c.args.job c.index-jobs-job.result) c.jobs.ensures ∙ get_or_default jobs c.args.job c.index-jobs-job.result no_job c.requires.in_table in
    let inside = begins_inside c.args.window c.index-jobs-job.result.release c.unwrap_or.result (sym c.counts.ensures ∙ c.if-counts.true) in
    let due = c.due_of.ensures ∙ due_fits c.args.of.model.now c.args.of.run.now c.args.of.task c.requires.of c.args.window c.requires.window c.args.job c.requires.in_table
    (omega (arith, inside, ap (λ (j : Job). j.release) it)) in
    let same = band_same jobs (deadline_of c.args.of.model.now c.args.of.task) c.args.finishes.now c.args.of.run.now.table.ticks c.args.job c.index-jobs-job.result
    c.unwrap_or.result c.due_of.result c.is_some.result it
    (c.unwrap_or.ensures ∙ ap (λ (o : Option ℕ). unwrap_or o c.ticks.result) c.finish_at-finish.ensures
    ∙ ap (λ (t : ℕ). unwrap_or (slice_get c.args.finishes.now c.args.job) t) c.ticks.ensures)
    due (c.is_some.ensures ∙ ap (λ (o : Option ℕ). is_some o) c.finish_at-finish.ensures) in
    ap Some same ∙ passes (counts c.args.window) _ (ap (counts c.args.window) (sym same) ∙ sym c.counts.ensures ∙ c.if-counts.true)
