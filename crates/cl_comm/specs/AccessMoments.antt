-- The read and write moments of the tasks of one kind of access, and whether they run as they read.
use Rattle.std.specs.Prelude.{◌≡◌, ℕ, Bool, not}
use Rattle.cl_model.specs.{declared.task.AccessKind.AccessKind, Kinds.is_timed}
use Rattle.cl_runs.specs.{TaskTiming.{System, timing_at}, Run.Run, Moments.{Reads, Writes}}

-- task i is of this kind of access, and runnable p of its job k reads at t
pub record ReadsAs (kind : AccessKind) (system : System) (run : Run) (i k p t : ℕ) : Type 0 where
  pub is_kind : (timing_at system i).access ≡ kind
  pub reads : Reads system run i k p t

-- task i is of this kind of access, and runnable p of its job k writes at t
pub record WritesAs (kind : AccessKind) (system : System) (run : Run) (i k p t : ℕ) : Type 0 where
  pub is_kind : (timing_at system i).access ≡ kind
  pub writes : Writes system run i k p t

-- whether the tasks of a kind of access run in the tick in which they read: those that aren't timed do
abbrev pub runs_on_reads : AccessKind → Bool
runs_on_reads kind = not (is_timed kind)
