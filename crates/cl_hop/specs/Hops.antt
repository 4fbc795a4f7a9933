-- Hops: how much later the job of a group arrives than that of the group before it.
use Rattle.std.specs.Prelude.{ℕ, ◌≤◌, ℤ, pos, ◌+ℤ◌, ◌-ℤ◌, Bool, ◌==◌, ◌&&◌, not, nat_lt, if◌then◌else◌, List, [], ◌∷◌}
use Rattle.cl_model.specs.{declared.{limits.TheConstants.MOST_TICKS, group.Group.Group}, Timing.{greatest_distance, greatest_jitter}, Kinds.is_timed}
use Rattle.cl_runs.specs.TaskTiming.{System, timing_at}
use Rattle.cl_comm.specs.Windows.{window_at}
use Rattle.cl_hop.specs.declared.group_timing.GroupTiming.{GroupTiming}

-- what the bounds know of a group that reads and writes in this window: where its task runs and how it accesses labels,
-- how its jobs arrive, and when it reads and writes
abbrev pub timing_in : System → Group → (read write : ℕ) → GroupTiming
timing_in system group read write =
    let timing = timing_at system group.task in
    record {
      task = group.task;
      core = timing.core;
      priority = timing.priority;
      is_timed = is_timed timing.access;
      jitter = greatest_jitter timing.pattern;
      distance = greatest_distance timing.pattern;
      read = read;
      write = write;
    }

-- where these are the responses of the tasks: it reads at its first runnable and writes at its last
unfoldable pub group_timing : System → (responses : ℕ → ℕ) → Group → GroupTiming
group_timing system responses group =
    let timing = timing_at system group.task in
    timing_in system group (window_at timing group.first (responses group.task)).rlo (window_at timing group.last (responses group.task)).whi

-- no number of a group is greater than the greatest of a valid model
pub record IsNear (group : GroupTiming) : Type 0 where
  pub jitter : group.jitter ≤ MOST_TICKS
  pub distance : group.distance ≤ MOST_TICKS
  pub read : group.read ≤ MOST_TICKS
  pub write : group.write ≤ MOST_TICKS

-- whether a hop saves the writer's time: the writer has a higher priority on the reader's core, and neither is timed,
-- so that the reader can't read while a job of the writer is pending
abbrev pub saves : (writer reader : GroupTiming) → Bool
saves writer reader =
    (writer.core == reader.core) && (nat_lt reader.priority writer.priority && (not writer.is_timed && not reader.is_timed))

-- the lag of a hop: a job of the reader that reads before a job of the writer writes arrives less than this after it.
-- Where both are of one task, where the hop saves, and everywhere else
abbrev pub lag : (writer reader : GroupTiming) → ℤ
lag writer reader =
    if writer.task == reader.task then pos 1
    else if saves writer reader then pos writer.jitter -ℤ pos reader.read
    else pos writer.write -ℤ pos reader.read

-- a hop from a writer to a reader, over the distance between arrivals of the one that the direction says
abbrev pub hop : (distance : ℕ) → (writer reader : GroupTiming) → ℤ
hop distance writer reader = (pos distance -ℤ pos 1) +ℤ lag writer reader

-- forward, the reader's job is at most one job past the one that read before the write
abbrev pub forward_hop : (writer reader : GroupTiming) → ℤ
forward_hop writer reader = hop reader.distance writer reader

-- backward, the writer's next job writes after the read
abbrev pub backward_hop : (writer reader : GroupTiming) → ℤ
backward_hop writer reader = hop writer.distance writer reader

-- the sum of the hops between the groups of a chain
abbrev pub hops : (GroupTiming → GroupTiming → ℤ) → GroupTiming → List GroupTiming → ℤ
hops hop first [] = pos 0
hops hop first (next ∷ groups) = hop first next +ℤ hops hop next groups
