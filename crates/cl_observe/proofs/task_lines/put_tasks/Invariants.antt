use Rattle.cl_bound.specs.Answers.{answer_at}
use Rattle.cl_observe.specs.Observed.{GoesOnWith, IsMadeOf, IsTaskText}
use Rattle.cl_observe.proofs.task_lines.put_tasks.Given as goal

abbrev pub invariant-loop-task : goal.invariant-loop-task
invariant-loop-task l = GoesOnWith (IsMadeOf (λ task. IsTaskText l.model l.run (answer_at l.answers task) task) l.task) l.initial.text l.text
