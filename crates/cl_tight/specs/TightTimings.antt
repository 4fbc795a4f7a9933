-- What tight bounds know of a group of a task that isn't late: how early it reads and how late it has written, by the
-- phases of its core. Times are in ticks from the arrival of a job.
use Rattle.std.specs.Prelude.{ℕ, unwrap_or}
use Rattle.cl_model.specs.declared.{group.Group.Group, task.AccessKind.{AccessKind, TheVariants.{Explicit, Implicit, Timed}}}
use Rattle.cl_runs.specs.TaskTiming.{System, timing_at}
use Rattle.cl_lead.specs.Leads.{lead_at}
use Rattle.cl_hop.specs.{Hops.timing_in, declared.group_timing.GroupTiming.GroupTiming}
use Rattle.cl_resp.specs.ByPhase.{response_through}
use Rattle.cl_tight.specs.TightAnswers.{tight_response}

-- it reads at the lead of its first runnable or later
abbrev pub earliest_read : System → Group → ℕ
earliest_read system group = lead_at system group.task group.first

-- the response of the runnables of a task up to a place
abbrev pub part_response : System → (task place : ℕ) → ℕ
part_response system task place = unwrap_or (response_through system task place) 0

-- when a job has written at the latest: of explicit access as its runnables up to the last of the group have finished,
-- of implicit access as it has finished itself, and of timed access at its deadline
abbrev pub write_by : AccessKind → (part response deadline : ℕ) → ℕ
write_by Explicit part response deadline = part
write_by Implicit part response deadline = response
write_by Timed part response deadline = deadline

abbrev pub latest_write : System → Group → ℕ
latest_write system group =
    write_by (timing_at system group.task).access (part_response system group.task group.last) (tight_response system group.task)
    (timing_at system group.task).deadline

-- what tight bounds know of a group of a task that isn't late
unfoldable pub tight_timing : System → Group → GroupTiming
tight_timing system group = timing_in system group (earliest_read system group) (latest_write system group)
