use Rattle.cl_edit.specs.{declared.edit.Edit.TheVariants.Swap, Changing.change_of, Edited.edit_checks}
use Rattle.cl_edit.proofs.ResolvedEdits.{period_answers, offset_answers, jitter_answers, distances_answers, burst_answers, edit_answers}
use Rattle.cl_edit.proofs.resolve.change_of.Goals as goal

pub returns-in-Period : goal.returns-in-Period
returns-in-Period c = period_answers c.args.model.now c.args.edit.now c.stimulus.result c.in-Period.name c.in-Period.period c.in-Period.is c.stimulus.ensures

pub returns-in-Offset : goal.returns-in-Offset
returns-in-Offset c = offset_answers c.args.model.now c.args.edit.now c.stimulus-in-Offset.result c.in-Offset.name c.in-Offset.offset c.in-Offset.is c.stimulus-in-Offset.ensures

pub returns-in-Jitter : goal.returns-in-Jitter
returns-in-Jitter c = jitter_answers c.args.model.now c.args.edit.now c.stimulus-in-Jitter.result c.in-Jitter.name c.in-Jitter.jitter c.in-Jitter.is c.stimulus-in-Jitter.ensures

pub returns-in-Distances : goal.returns-in-Distances
returns-in-Distances c = distances_answers c.args.model.now c.args.edit.now c.stimulus-in-Distances.result c.in-Distances.name c.in-Distances.least c.in-Distances.greatest c.in-Distances.is c.stimulus-in-Distances.ensures

pub returns-in-Burst : goal.returns-in-Burst
returns-in-Burst c = burst_answers c.args.model.now c.args.edit.now c.stimulus-in-Burst.result c.in-Burst.name c.in-Burst.period c.in-Burst.count c.in-Burst.distance c.in-Burst.is c.stimulus-in-Burst.ensures

pub returns-in-Swap : goal.returns-in-Swap
unfolding edit_checks change_of
returns-in-Swap c = edit_answers c.args.model.now c.args.edit.now (Swap c.in-Swap.one c.in-Swap.other) c.swap.result c.in-Swap.is c.swap.ensures
