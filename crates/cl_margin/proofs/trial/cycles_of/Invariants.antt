use Rattle.std.proofs.Common.{◌≡◌, length}
use Rattle.cl_runs.specs.SystemOf.{system_of}
use Rattle.cl_margin.proofs.TrialSteps.{AreFirstCycles}
use Rattle.cl_margin.proofs.trial.cycles_of.Given as goal

-- the cycles of the tasks so far
abbrev pub invariant-loop-task : goal.invariant-loop-task
invariant-loop-task l = record {
  as_many : length l.cycles ≡ l.task;
  each : AreFirstCycles (system_of l.model) l.cycles;
}
