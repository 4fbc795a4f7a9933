use Rattle.std.proofs.Common.{sym, ◌∙◌}
use Rattle.cl_phase.specs.{Walks.pace_at, Inner.Longest.span_between}
use Rattle.cl_phase.proofs.{ShownStarts.free_start, WalkRanges.pace_here}
use Rattle.cl_phase.proofs.walked.start_of.Goals as goal

pub returns-in-Free-clause-start : goal.returns-in-Free-clause-start
returns-in-Free-clause-start c =
    free_start c.args.kind c.args.stops.now (span_between c.args.ends) c.args.ends.write c.args.place c.args.bound c.args.ticks c.in-Free.greatest (pace_at c.args.stops.now c.args.place)
    (sym (pace_here c.args.stops.now c.requires.stops c.args.place c.requires.place) ∙ c.in-Free.is)
