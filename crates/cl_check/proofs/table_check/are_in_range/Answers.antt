use Rattle.std.proofs.Common.{◌≡◌, ◌+◌, ◌<◌, length, map, suc, drop, sym, ap, ◌∙◌, arith}
use Rattle.std.proofs.lemmas.List.{length-map}
use Rattle.cl_model.specs.declared.task.RunnableDef.{RunnableDef}
use Rattle.cl_runs.specs.SystemOf.{range_of}
use Rattle.cl_check.specs.Legality.{are_in_range}
use Rattle.cl_check.proofs.{TableFaults.{lengths_differ, fits_here, too_short, too_long}, table_check.are_in_range.Goals.{then-time-runnable-via-then-time-runnable, then-time-runnable-via-else-time-runnable+then-time-runnable-2}}
use Rattle.cl_check.proofs.table_check.are_in_range.Goals as goal

pub returns-then-runnables-times : goal.returns-then-runnables-times
returns-then-runnables-times c = lengths_differ (map range_of c.args.runnables.now) c.args.times.now
    (λ same. c.if-runnables-times.true (sym (length-map c.args.runnables.now range_of) ∙ same))

pub returns-then-time-runnable : goal.returns-then-time-runnable
returns-then-time-runnable c =
    let runnables = c.args.runnables.now in
    let times = c.args.times.now in
    let i = c.loop-place.place in
    let runnable = c.index-runnables-place.result in
    elim c.then-time-runnable.branch [
      | then-time-runnable-via-then-time-runnable w ↦ too_short runnables times i runnable c.index-runnables-place.is
          (omega (arith, c.loop-place-test.true, c.loop-place.invariant.as_many)) c.loop-place-test.true
          (omega (arith, w.if-time-runnable.true, ap (λ (r : RunnableDef). r.least) c.index-runnables-place.is))
          ∙ sym c.loop-place.invariant.left
      | then-time-runnable-via-else-time-runnable+then-time-runnable-2 w ↦ too_long runnables times i runnable c.index-runnables-place.is
          (omega (arith, c.loop-place-test.true, c.loop-place.invariant.as_many)) c.loop-place-test.true
          (omega (arith, w.if-time-runnable-2.true, ap (λ (r : RunnableDef). r.greatest) c.index-runnables-place.is))
          ∙ sym c.loop-place.invariant.left
    ]

pub loop-place-preserved : goal.loop-place-preserved
loop-place-preserved c =
    let runnables = c.args.runnables.now in
    let times = c.args.times.now in
    let i = c.loop-place.place in
    let runnable = c.index-runnables-place.result in
    let there : i < length runnables = omega (arith, c.loop-place-test.true, c.loop-place.invariant.as_many) in
    let next : suc i ≡ i + 1 = omega arith in
    record {
      as_many = c.loop-place.invariant.as_many;
      left = c.loop-place.invariant.left
          ∙ fits_here runnables times i runnable c.index-runnables-place.is there c.loop-place-test.true
          (omega (arith, c.if-time-runnable.false, ap (λ (r : RunnableDef). r.least) c.index-runnables-place.is))
          (omega (arith, c.if-time-runnable-2.false, ap (λ (r : RunnableDef). r.greatest) c.index-runnables-place.is))
          ∙ ap (λ n. are_in_range (drop n (map range_of runnables)) (drop n times)) next;
    }
