use Rattle.std.proofs.Common.{◌-◌}
use Rattle.cl_runs.specs.SystemOf.{system_of}
use Rattle.cl_draw.proofs.WorkFacts.{IsInSpan}
use Rattle.cl_draw.proofs.parts.put_span.Given as goal

abbrev pub invariant-parts : goal.invariant-parts
invariant-parts l = IsInSpan (system_of l.of.model.now) l.of.run.now l.of.task l.span l.work l.cursor l.from

abbrev pub decreases-parts : goal.decreases-parts
decreases-parts l = l.span.to - l.from
