use Rattle.std.proofs.Common.{◌≤◌, ◌-◌, length}
use Rattle.cl_model.specs.declared.limits.TheConstants.{MOST_RUNNABLES}
use Rattle.cl_edit.specs.Inner.LineReads.{runnable_in}
use Rattle.cl_edit.proofs.WordLists.{AreReadUpTo}
use Rattle.cl_edit.proofs.task_line.runnables.Given as goal

abbrev pub invariant-loop-alloc : goal.invariant-loop-alloc
invariant-loop-alloc l = record {
  read : AreReadUpTo (λ above words. runnable_in words) MOST_RUNNABLES l.fn.words l.runnables l.words;
  few : length l.runnables ≤ MOST_RUNNABLES;
}

abbrev pub decreases-loop-alloc : goal.decreases-loop-alloc
decreases-loop-alloc l = MOST_RUNNABLES - length l.runnables
