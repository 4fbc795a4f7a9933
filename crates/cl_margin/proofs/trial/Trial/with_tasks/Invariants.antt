use Rattle.std.proofs.Common.{◌≡◌, ℕ}
use Rattle.cl_margin.specs.{declared.whose.Whose.TheVariants.EveryTask, Grown.{grown, grown_by}}
use Rattle.cl_margin.proofs.TimedSteps.{risen}
use Rattle.cl_margin.proofs.trial.Trial.with_tasks.Given as goal

-- the tasks so far are at the percentage
abbrev pub invariant-loop-task : goal.invariant-loop-task
invariant-loop-task l = record {
  model : (now : ℕ) → l.fn.self.model ≡ grown l.standing.model.now EveryTask now
      → l.trial.model ≡ grown_by l.standing.model.now (risen l.standing.model.now now l.percent l.task);
  answers : l.trial.answers ≡ l.fn.self.answers;
  windows : l.trial.windows ≡ l.fn.self.windows;
  cycles : l.trial.cycles ≡ l.fn.self.cycles;
}
