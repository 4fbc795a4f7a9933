use Rattle.std.proofs.Common.{◌-◌, ◌<◌, length, sym, ◌∙◌, arith}
use Rattle.cl_chain.proofs.{TailFacts.{writes_looked_up, reads_looked_up}, BackwardFacts.backward_ends_there}
use Rattle.cl_chain.proofs.backward_jobs.backward_jobs.Goals as goal

pub returns-in_default : goal.returns-in_default
returns-in_default c = λ others second last.
    let inv = c.loop-place.invariant in
    let some = c.loop-place-test.true in
    let before : c.loop-place.place - 1 < length c.args.groups.now = omega (arith, inv.within) in
    backward_ends_there c.args.groups.now others c.loop-place.jobs.items c.loop-place.place second inv.linked (last ∙ sym inv.last)
    (c.loop-place.place - 1) c.loop-place.job (omega (arith, some)) inv.within inv.is_job _ _
    (writes_looked_up c.args.groups.now _ before _ _ c.as_slice.ensures)
    (reads_looked_up c.args.groups.now _ inv.within _ _ c.as_slice-reads.ensures) c.in_default.ensures
