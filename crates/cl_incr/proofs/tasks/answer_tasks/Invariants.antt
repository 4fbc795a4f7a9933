use Rattle.std.proofs.Common.{◌≡◌, take}
use Rattle.cl_runs.specs.SystemOf.{system_of}
use Rattle.cl_bound.specs.Answers.{answers_of}
use Rattle.cl_incr.specs.{Changed.IsChangedTask, Inner.Asked.AsksBelow}
use Rattle.cl_incr.proofs.tasks.answer_tasks.Given as goal

-- the answers so far are right
abbrev pub invariant-loop-task : goal.invariant-loop-task
invariant-loop-task g l = record {
  found : l.found ≡ take l.task (answers_of (system_of l.new));
  asked : AsksBelow (IsChangedTask l.old l.new) 1 l.task l.initial.steps l.steps;
}
