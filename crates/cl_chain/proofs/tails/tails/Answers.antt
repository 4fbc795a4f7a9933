use Rattle.std.proofs.Common.{◌≡◌, ◌-◌, ◌+◌, ◌<◌, length, ap, ◌∙◌, arith}
use Rattle.cl_chain.specs.Inner.GroupTables.{reads_in}
use Rattle.cl_chain.proofs.TailFacts.{writes_looked_up, reads_looked_up, last_tail_found, tail_found}
use Rattle.cl_chain.proofs.tails.tails.Goals as goal

pub loop-place-init : goal.loop-place-init
loop-place-init c =
    let h : length c.args.groups.now - 1 < length c.args.groups.now = omega (arith, c.requires.some) in (
      h,
      last_tail_found c.args.groups.now (length c.args.groups.now - 1) (omega (arith, c.requires.some)) _ _
          (writes_looked_up c.args.groups.now _ h _ _ c.as_slice.ensures) c.in_ok-found.ensures,
    )

pub loop-place-preserved : goal.loop-place-preserved
loop-place-preserved c =
    let some = c.loop-place-test.true in
    let within = c.loop-place.invariant.0 in
    let h : c.loop-place.place - 1 < length c.args.groups.now = omega (arith, within) in
    let next : c.loop-place.place - 1 + 1 ≡ c.loop-place.place = omega (arith, some) in
    let next_h : c.loop-place.place - 1 + 1 < length c.args.groups.now = omega (arith, within, some) in (
      h,
      tail_found c.args.groups.now (c.loop-place.place - 1) c.loop-place.place (omega (arith, some)) within _ _ _ _
          (writes_looked_up c.args.groups.now _ h _ _ c.as_slice-writes.ensures)
          (reads_looked_up c.args.groups.now _ next_h _ _ c.as_slice-reads.ensures ∙ ap (reads_in c.args.groups.now) next)
          c.as_slice-in-loop-place.ensures c.loop-place.invariant.1 _ c.in_ok-found-2.ensures,
    )
