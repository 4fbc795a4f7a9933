use Rattle.std.proofs.Common.{◌≡◌, ℕ, ◌<◌, ◌++◌, length, ap, ◌∙◌, arith}
use Rattle.std.specs.List.{flat_map, range_with_len}
use Rattle.cl_model.specs.Groups.{groups_at}
use Rattle.cl_report.specs.Report.{job_words, jobs_words}
use Rattle.cl_text.proofs.{Beginnings.{puts_lines, on_error}, MoreLines.line_more}
use Rattle.cl_report.proofs.words.put_jobs.Goals as goal

pub loop-place-preserved : goal.loop-place-preserved
loop-place-preserved c =
    line_more (job_words c.args.model.now c.args.chain c.args.jobs.now) c.args.text.now c.loop-place.text c.put_job.new.text c.loop-place.place
    c.loop-place.invariant c.in_ok-put_job.ensures.ok

pub returns-in_err-put_job-clause-err : goal.returns-in_err-put_job-clause-err
unfolding jobs_words
returns-in_err-put_job-clause-err c =
    let within : c.loop-place.place < length (groups_at c.args.model.now c.args.chain) =
    omega (arith, c.loop-place-test.true, c.loop-place.auto.place-end, c.group_count-place-end.ensures.count) in
    on_error c.from_residual.result _
    (puts_lines (job_words c.args.model.now c.args.chain c.args.jobs.now) c.args.text.now c.loop-place.text c.put_job.new.text c.loop-place.place
    (length (groups_at c.args.model.now c.args.chain)) within c.loop-place.invariant c.in_err-put_job.ensures.err)

pub returns-clause-ok : goal.returns-clause-ok
unfolding jobs_words
returns-clause-ok c =
    let all : c.loop-place.place ≡ length (groups_at c.args.model.now c.args.chain) =
    omega (arith, c.loop-place-test.false, c.loop-place.auto.place-end, c.group_count-place-end.ensures.count) in
    c.loop-place.invariant
    ∙ ap (λ (n : ℕ). c.args.text.now ++ flat_map (job_words c.args.model.now c.args.chain c.args.jobs.now) (range_with_len 0 n)) all
