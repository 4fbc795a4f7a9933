use Rattle.std.proofs.Common.{◌≡◌, ℕ, List, ◌++◌, ◌∙◌, subst}
use Rattle.std.specs.Prelude.{OnOk}
use Rattle.cl_why.proofs.ShareLines.{jobs_are}
use Rattle.cl_why.proofs.shares.put_jobs.Goals as goal

pub returns : goal.returns
returns c =
    let window = c.args.window.now in
    subst (λ (words : List ℕ). OnOk c.put_jobs_line.result (c.put_jobs_line.new.text ≡ c.args.text.now ++ words))
    (jobs_are c.args.model.now window.task window.worst c.args.other c.jobs-jobs.result c.time_of_jobs-time.result c.has-by_phase.result
    c.jobs-jobs.ensures.jobs c.time_of_jobs-time.ensures.time (c.has-by_phase.ensures ∙ c.requires.window.cycle.in_phase c.args.other) c.if-jobs-eq0.false)
    c.put_jobs_line.ensures
