use Rattle.cl_runs.specs.SystemOf.{system_of}
use Rattle.cl_draw.proofs.WorkFacts.{IsWalked}
use Rattle.cl_draw.proofs.parts.work_of.Given as goal

abbrev pub invariant-loop-span : goal.invariant-loop-span
invariant-loop-span l = IsWalked (system_of l.of.model.now) l.of.run.now l.of.task l.spans l.span-index l.work l.cursor
