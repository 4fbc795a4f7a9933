use Rattle.std.proofs.Common.{map, sym, ap, ◌∙◌, arith}
use Rattle.cl_incr.specs.Inner.Standing.{timing_in}
use Rattle.cl_incr.proofs.SameQuestions.{same_maps}
use Rattle.cl_incr.proofs.standing.core_stays.Goals as goal

pub returns-clause-same : goal.returns-clause-same
returns-clause-same c = λ all.
    let were = c.tasks_of_core-were.result.now in
    let are = c.tasks_of_core-are.result.now in
    sym (ap (map (timing_in c.args.old.now)) c.tasks_of_core-were.ensures.tasks)
    ∙ same_maps (timing_in c.args.old.now) (timing_in c.args.new.now) were are 0 0 (omega (arith, c.if-were-are.false))
    (λ k within. c.loop-place.invariant k (omega (arith, within, c.if-were-are.false, c.loop-place-test.false)))
    ∙ ap (map (timing_in c.args.new.now)) c.tasks_of_core-are.ensures.tasks
