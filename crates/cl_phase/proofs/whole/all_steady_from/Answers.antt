use Rattle.std.proofs.Common.{ℤ, to_z, of_z, w64, arith}
use Rattle.std.proofs.lemmas.Int.{ints}
use Rattle.cl_model.proofs.ValidTasks.{kind_in_range, kind_ordered}
use Rattle.cl_stim.specs.Integers.{IsIntegerWithin}
use Rattle.cl_phase.specs.Whole.{LATEST_STEADY}
use Rattle.cl_phase.proofs.WholeWalks.{greater_within}
use Rattle.cl_phase.proofs.whole.all_steady_from.Goals as goal

-- a number as code holds it
abbrev passed : ℤ → ℤ
passed z = to_z w64 (of_z w64 z)

-- which is near where the number is
as_held : (z : ℤ) → IsIntegerWithin LATEST_STEADY z → IsIntegerWithin LATEST_STEADY (passed z)
as_held z near = (omega (arith, ints, near), omega (arith, ints, near))

pub stimulus_of-requires : goal.stimulus_of-requires
stimulus_of-requires c = (c.requires c.loop-group.group-index _ c.loop-group-test.true).known

pub loop-group-preserved : goal.loop-group-preserved
loop-group-preserved c =
    let known = (c.requires c.loop-group.group-index _ c.loop-group-test.true).known in
    let near = c.steady_from.ensures.near (rw c.stimulus_of.ensures (kind_in_range c.args.model.now c.plain.ensures.valid _ known))
    (rw c.stimulus_of.ensures (kind_ordered c.args.model.now c.plain.ensures.valid _ known)) in
    as_held c.max-steady.result (greater_within LATEST_STEADY c.max-steady.ensures.value (as_held c.steady_from.result near) c.loop-group.invariant)
