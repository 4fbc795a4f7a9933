use Rattle.std.proofs.Common.{◌∙◌, subst}
use Rattle.cl_sched.specs.Progress.{HasComeTo}
use Rattle.cl_sched.proofs.Standing.{times_read, next_place, after_last}
use Rattle.cl_sched.proofs.progress.Progress.after_runnable.Goals as goal

pub returns-then-place-times-clause-next : goal.returns-then-place-times-clause-next
returns-then-place-times-clause-next c =
    let (done, at) = c.requires.at in
    let times = times_read c.args.jobs.now c.args.self.job c.index-jobs-self.result at.in_table in
    next_place c.args.jobs.now c.requires.take_time c.args.self done at c.as_slice-times.result.now
    (c.as_slice-times.ensures ∙ times) c.if-place-times.true

pub returns-clause-next : goal.returns-clause-next
returns-clause-next c =
    let (done, at) = c.requires.at in
    let times = times_read c.args.jobs.now c.args.self.job c.index-jobs-self.result at.in_table in
    subst (λ n. HasComeTo c.args.jobs.now n c.before-2.result)
    (after_last c.args.jobs.now c.args.self done at c.as_slice-times.result.now
    (c.as_slice-times.ensures ∙ times) c.if-place-times.false)
    c.before-2.ensures.begins
