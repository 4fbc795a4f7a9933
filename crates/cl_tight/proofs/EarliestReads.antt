-- The earliest read of a group whose task has a response: it is no earlier than that of the window by the response, and
-- no later than the deadline.
use Rattle.std.proofs.Common.{◌≡◌, ℕ, ◌<◌, ◌≤◌, length, refl, arith}
use Rattle.cl_model.specs.declared.task.AccessKind.{AccessKind, TheVariants.{Explicit, Implicit, Timed}}
use Rattle.cl_runs.specs.{TaskTiming.{Timing, System, timing_at, IsSound}, ExecutionTimes.greatest_execution}
use Rattle.cl_comm.specs.{declared.spot.Spot.Spot, Windows.{spot_at, window_of, window_at}}
use Rattle.cl_lead.specs.Leads.{before_read, lead_at}
use Rattle.cl_lead.proofs.LeadTimes.{lead_holds, lead_by_deadline}
use Rattle.cl_hop.proofs.GroupWindows.{spot_fits}

-- a window reads after the least times before it
read_after : (access : AccessKind) (spot : Spot) (response : ℕ) → (window_of access spot response).rlo ≡ before_read access spot.before
read_after Explicit spot response = refl
read_after Implicit spot response = refl
read_after Timed spot response = refl

module _ (system : System) (sound : IsSound system) (task response : ℕ) (is : task < length system.tasks)
    (holds : greatest_execution (timing_at system task) ≤ response) (by_deadline : response ≤ (timing_at system task).deadline)
    (place : ℕ) (within : place < length (timing_at system task).ranges) where
  abbrev timing : Timing
  timing = timing_at system task

  before_deadline : (spot_at timing place).before ≤ timing.deadline
  before_deadline = omega (arith, spot_fits system sound task place response is holds within, by_deadline)

  pub read_no_earlier : (window_at timing place response).rlo ≤ lead_at system task place
  unfolding lead_at
  read_no_earlier =
      let least : before_read timing.access (spot_at timing place).before ≤ lead_at system task place
      = lead_holds system _ _ task place before_deadline in
      omega (arith, read_after timing.access (spot_at timing place) response, least)

  pub read_by_deadline : lead_at system task place ≤ timing.deadline
  unfolding lead_at
  read_by_deadline = lead_by_deadline system _ _ task place before_deadline
