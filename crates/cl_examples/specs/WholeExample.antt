-- Two tasks on one core, where the lower one isn't interrupted.
use Rattle.std.specs.Prelude.{true, false, [], ◌∷◌, ◌++◌}
use Rattle.cl_model.specs.declared.{stimulus.StimulusKind.TheVariants.Periodic, task.AccessKind.TheVariants.Implicit}
use Rattle.cl_runs.specs.{declared.job.JobTable.JobTable, TaskTiming.{Timing, System}, Run.Run}
use Rattle.cl_examples.specs.Examples.{task_a, prompt_job, ran}

-- task A of the example before, from 1 on
abbrev pub later_a : Timing
later_a = record task_a { pattern = Periodic 10 1 0 }

-- task B on A's core, with a lower priority: a job of 6 ticks each 20 ticks, of one whole runnable
abbrev pub whole_b : Timing
whole_b = record {
  core = 0;
  priority = 1;
  deadline = 20;
  pattern = Periodic 20 0 0;
  access = Implicit;
  ranges = record { least = 6; greatest = 6; whole = true } ∷ [];
}

-- A has the number 0, and B the number 1
unfoldable pub one_core : System
one_core = record { cores = 1; tasks = later_a ∷ whole_b ∷ [] }

-- their jobs for 9 ticks
abbrev pub one_core_table : JobTable
one_core_table = record { ticks = 9; jobs = (prompt_job 1 3 ∷ []) ∷ (prompt_job 0 6 ∷ []) ∷ [] }

-- B runs to its end, and then A
unfoldable pub whole_run : Run
whole_run = record { table = one_core_table; entries = (ran 1 6 ++ ran 0 3) ∷ [] }

-- A interrupts B
unfoldable pub broken_run : Run
broken_run = record { table = one_core_table; entries = (ran 1 1 ++ ran 0 3 ++ ran 1 5) ∷ [] }

-- the same tasks where B's runnable isn't whole
abbrev pub divided_b : Timing
divided_b = record whole_b { ranges = record { least = 6; greatest = 6; whole = false } ∷ [] }

unfoldable pub one_core_divided : System
one_core_divided = record { cores = 1; tasks = later_a ∷ divided_b ∷ [] }
