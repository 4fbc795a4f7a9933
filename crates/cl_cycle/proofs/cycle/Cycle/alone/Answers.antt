use Rattle.std.proofs.Common.{sym, ap, ◌∙◌, subst, Option}
use Rattle.std.specs.Option.{option_to_list}
use Rattle.cl_model.proofs.ValidTasks.{kind_in_range, kind_ordered}
use Rattle.cl_stim.specs.{declared.phase.Phase.Phase, Phase.phase_of}
use Rattle.cl_cycle.specs.Inner.Gathering.{AreTogether}
use Rattle.cl_cycle.proofs.GatheredNumbers.{pattern_is}
use Rattle.cl_cycle.proofs.cycle.Cycle.alone.Goals as goal

pub of-requires-clause-range : goal.of-requires-clause-range
of-requires-clause-range c = rw c.stimulus_of.ensures (kind_in_range c.args.model.now c.requires.valid c.args.task c.requires.task)

pub of-requires-clause-ordered : goal.of-requires-clause-ordered
of-requires-clause-ordered c = rw c.stimulus_of.ensures (kind_ordered c.args.model.now c.requires.valid c.args.task c.requires.task)

pub returns-clause-gathered : goal.returns-clause-gathered
returns-clause-gathered c = record {
  in_phase = c.new.ensures;
  together =
      subst (λ (own : Option Phase). AreTogether (option_to_list own) c.begin-together.result.ticks c.begin-together.result.arrivals)
      (c.of.ensures.phase ∙ ap phase_of (c.stimulus_of.ensures ∙ sym (pattern_is c.args.model.now c.args.task c.requires.task)))
      c.begin-together.ensures;
}
