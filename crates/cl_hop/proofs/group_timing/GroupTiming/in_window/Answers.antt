use Rattle.std.proofs.Common.{ap, ◌∙◌}
use Rattle.cl_model.specs.Timing.{greatest_distance, greatest_jitter}
use Rattle.cl_stim.specs.AnyStimulus.{kind_of}
use Rattle.cl_stim.proofs.{ValidStimuli.has_stimulus, StimulusKinds.kind_of-as_stimulus}
use Rattle.cl_hop.proofs.ModelGroups.{timing_of_group, window_near}
use Rattle.cl_hop.proofs.group_timing.GroupTiming.in_window.Goals as goal

pub of-stimulus-requires : goal.of-stimulus-requires
of-stimulus-requires c = rw c.stimulus_of.ensures (has_stimulus c.args.model.now c.task-task.ensures.valid c.args.group.task c.requires.group.known)

pub returns-clause-timing : goal.returns-clause-timing
returns-clause-timing c =
    let kind = ap kind_of c.of-stimulus.ensures ∙ kind_of-as_stimulus c.stimulus_of.result ∙ c.stimulus_of.ensures in
    timing_of_group c.args.model.now c.args.group c.task-task.result.now c.requires.group c.task-task.ensures.task
    c.core_of.result c.jitter.result c.greatest_gap.result c.args.read c.args.write c.is_timed.result
    c.core_of.ensures.core
    c.is_timed.ensures
    (c.jitter.ensures.jitter ∙ ap greatest_jitter kind)
    (c.greatest_gap.ensures.gap ∙ ap greatest_distance kind)

pub returns-clause-near : goal.returns-clause-near
returns-clause-near c = λ soon late. rw (returns-clause-timing c)
    (window_near c.args.model.now c.task-task.ensures.valid c.args.group c.requires.group.known c.args.read c.args.write soon late)
