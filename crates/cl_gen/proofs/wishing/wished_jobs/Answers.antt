use Rattle.std.proofs.Common.{List, map, sym, ap, subst, arith}
use Rattle.std.specs.Prelude.{All}
use Rattle.std.specs.List.{AllZip}
use Rattle.std.proofs.lemmas.List.Elements.{All-push}
use Rattle.cl_runs.specs.{declared.job.Job.Job, Pattern.{least_gap, greatest_gap}, SystemOf.range_of, Table.LiesIn}
use Rattle.cl_gen.proofs.WishedJobs.{none_yet, one_more, all_wished}
use Rattle.cl_gen.proofs.wishing.wished_jobs.Goals as goal

pub loop-arrival-init : goal.loop-arrival-init
loop-arrival-init g c = record {
  arrivals = none_yet c.args.pattern c.args.ticks c.new-jobs.result c.wished_arrival-arrival.result c.first_span.result.least c.first_span.result.greatest
      c.new-jobs.ensures c.first_span.ensures.least c.first_span.ensures.greatest
      c.wished_arrival-arrival.ensures.least c.wished_arrival-arrival.ensures.greatest;
  times = subst (λ (jobs : List Job). All (λ (job : Job). AllZip LiesIn (map range_of c.args.runnables.now) job.times) jobs) (sym c.new-jobs.ensures)
      (λ k d lt. absurd (omega arith));
}

pub loop-arrival-preserved : goal.loop-arrival-preserved
loop-arrival-preserved g c =
    let jobs = c.loop-arrival.jobs in
    let job = c.in_ok-wished_job.field-0 in
    let next = c.wished_arrival-arrival-in-loop-arrival in
    record {
      arrivals = one_more c.args.pattern c.args.ticks jobs c.push.new.self job c.loop-arrival.arrival
          _ _ next.result
          c.loop-arrival.invariant.arrivals c.loop-arrival-test.true
          c.in_ok-wished_job.ensures.arrives c.in_ok-wished_job.ensures.released c.in_ok-wished_job.ensures.in_jitter
          c.in_ok-push.ensures.ok
          (omega (arith, c.gaps_after-gaps.ensures.least, ap (least_gap c.args.pattern) c.len.ensures))
          (omega (arith, c.gaps_after-gaps.ensures.greatest, ap (greatest_gap c.args.pattern) c.len.ensures))
          next.ensures.least next.ensures.greatest;
      times = subst (λ (list : List Job). All (λ (job : Job). AllZip LiesIn (map range_of c.args.runnables.now) job.times) list) (sym c.in_ok-push.ensures.ok)
          (All-push (λ (job : Job). AllZip LiesIn (map range_of c.args.runnables.now) job.times) jobs job c.loop-arrival.invariant.times c.in_ok-wished_job.ensures.times);
    }

pub returns-clause-arrivals : goal.returns-clause-arrivals
returns-clause-arrivals g c =
    all_wished c.args.pattern c.args.ticks c.loop-arrival.jobs c.loop-arrival.arrival c.loop-arrival.invariant.arrivals c.loop-arrival-test.false
