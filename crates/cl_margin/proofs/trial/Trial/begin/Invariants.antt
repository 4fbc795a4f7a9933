use Rattle.std.proofs.Common.{◌≡◌, Some, map, take}
use Rattle.cl_bound.specs.declared.answer.TaskAnswer.{TaskAnswer}
use Rattle.cl_margin.proofs.trial.Trial.begin.Given as goal

-- the answers of the tasks so far
abbrev pub invariant-loop-answer : goal.invariant-loop-answer
invariant-loop-answer l = l.answers ≡ map (λ (answer : TaskAnswer). Some answer) (take l.answer-index l.answer-items)
