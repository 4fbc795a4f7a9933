use Rattle.std.proofs.Common.{ℤ, to_z, of_z, w64, arith}
use Rattle.std.proofs.lemmas.Int.{ints}
use Rattle.cl_model.proofs.ValidTasks.{kind_in_range, kind_ordered}
use Rattle.cl_stim.specs.Integers.{IsIntegerWithin}
use Rattle.cl_phase.specs.Whole.{LATEST_STEADY}
use Rattle.cl_phase.proofs.WholeWalks.{greater_within}
use Rattle.cl_near.proofs.task_plan.steady_together.Goals as goal
use Rattle.cl_near.proofs.task_plan.steady_together.Goals.{then-has, else-has}

-- a number as code holds it
abbrev passed : ℤ → ℤ
passed z = to_z w64 (of_z w64 z)

-- which is near where the number is
as_held : (z : ℤ) → IsIntegerWithin LATEST_STEADY z → IsIntegerWithin LATEST_STEADY (passed z)
as_held z near = (omega (arith, ints, near), omega (arith, ints, near))

pub loop-other-init : goal.loop-other-init
loop-other-init c =
    let model = c.args.model.now in
    let valid = c.plain.ensures.valid in
    as_held c.steady_from-steady.result
    (c.steady_from-steady.ensures.near (rw c.stimulus_of.ensures (kind_in_range model valid c.args.task c.requires))
    (rw c.stimulus_of.ensures (kind_ordered model valid c.args.task c.requires)))

pub loop-other-preserved : goal.loop-other-preserved
loop-other-preserved c =
    let model = c.args.model.now in
    let valid = c.plain.ensures.valid in
    let known = c.tasks_of_core-other-items.ensures.within c.loop-other.other-index _ c.loop-other-test.true in
    elim c.if-has.branch [
      | then-has w ↦
          let near = w.steady_from.ensures.near (rw w.stimulus_of-then-has.ensures (kind_in_range model valid _ known))
          (rw w.stimulus_of-then-has.ensures (kind_ordered model valid _ known)) in
          rw w.steady-is
          (as_held w.max-steady.result (greater_within LATEST_STEADY w.max-steady.ensures.value (as_held w.steady_from.result near) c.loop-other.invariant))
      | else-has w ↦ rw w.steady-is c.loop-other.invariant
    ]
