use Rattle.std.proofs.Common.{◌++◌, List, take}
use Rattle.cl_model.specs.declared.task.RunnableDef.{RunnableDef}
use Rattle.cl_explain.specs.Inner.Marks.{AreMarksOf}
use Rattle.cl_explain.proofs.labels.Marks.add_task.Given as goal

abbrev pub invariant-loop-runnable : goal.invariant-loop-runnable
invariant-loop-runnable l = (before : List RunnableDef) → AreMarksOf before l.initial.self → AreMarksOf (before ++ take l.runnable-index l.runnable-items) l.self
