use Rattle.std.proofs.Common.{take}
use Rattle.cl_model.specs.Named.{all_runnables}
use Rattle.cl_explain.specs.Inner.Marks.{AreMarksOf}
use Rattle.cl_explain.proofs.labels.Marks.of.Given as goal

abbrev pub invariant-loop-task : goal.invariant-loop-task
invariant-loop-task l = AreMarksOf (all_runnables (take l.task-index l.task-items)) l.marks
