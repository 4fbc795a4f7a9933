use Rattle.std.proofs.Common.{◌≡◌, ◌≤◌, ◌-◌, length}
use Rattle.cl_model.specs.declared.limits.TheConstants.{MOST_TASKS}
use Rattle.cl_edit.specs.Inner.LineReads.{new_priority_in, tasks_of}
use Rattle.cl_edit.proofs.WordLists.{AreReadUpTo}
use Rattle.cl_edit.proofs.priorities_line.priority_list.Given as goal

-- the priorities so far, few enough, and their tasks
abbrev pub invariant-loop-priorities : goal.invariant-loop-priorities
invariant-loop-priorities l = record {
  read : AreReadUpTo new_priority_in MOST_TASKS l.fn.words l.priorities l.words;
  few : length l.priorities ≤ MOST_TASKS;
  named : l.tasks ≡ tasks_of l.priorities;
}

abbrev pub decreases-loop-priorities : goal.decreases-loop-priorities
decreases-loop-priorities l = MOST_TASKS - length l.priorities
