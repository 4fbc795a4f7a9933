use Rattle.cl_observe.specs.Observed.{GoesOnWith, IsMadeOf, IsTimeLine}
use Rattle.cl_observe.proofs.task_lines.put_times.Given as goal

abbrev pub invariant-loop-place : goal.invariant-loop-place
invariant-loop-place l = GoesOnWith (IsMadeOf (IsTimeLine l.model l.run l.task) l.place) l.initial.text l.text
