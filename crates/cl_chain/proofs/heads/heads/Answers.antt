use Rattle.std.proofs.Common.{◌≡◌, ◌-◌, ◌+◌, ◌<◌, length, subst, arith}
use Rattle.cl_chain.specs.Inner.{GroupTables.AreMomentsAt, ChainsOver.IsHead}
use Rattle.cl_chain.proofs.{TailFacts.{writes_looked_up, reads_looked_up}, HeadFacts.head_found}
use Rattle.cl_chain.proofs.heads.heads.Goals as goal

pub loop-place-preserved : goal.loop-place-preserved
loop-place-preserved c =
    let after = c.loop-place.auto.place in
    let within : c.loop-place.place < length c.args.groups.now = omega arith in
    let before : c.loop-place.place - 1 < length c.args.groups.now = omega (arith, within) in
    let here : c.loop-place.place ≡ c.loop-place.place + 1 - 1 = omega arith in
    subst (λ n. AreMomentsAt (IsHead c.args.groups.now n) c.in_ok-found-2.found) here
    (head_found c.args.groups.now (c.loop-place.place - 1) c.loop-place.place (omega (arith, after)) _ _ _ c.loop-place.found
    (writes_looked_up c.args.groups.now _ before _ _ c.as_slice-writes.ensures)
    (reads_looked_up c.args.groups.now _ within _ _ c.as_slice-reads.ensures)
    c.as_slice-in-loop-place.ensures c.loop-place.invariant _ c.in_ok-found-2.ensures)
