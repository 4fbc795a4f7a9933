-- What reasons promise: shares add up to their window, walks last as long as their bound, and a job of a reader that arrives
-- so much later takes what is written. Times are in ticks, and moments may lie before 0.
use Rattle.std.specs.Prelude.{◌≡◌, ℕ, ◌+◌, ◌<◌, ◌≤◌, pos, ◌+ℤ◌, ◌≤ℤ◌, true, false, ◌==◌, if◌then◌else◌, length}
use Rattle.cl_model.specs.{declared.{chain.RequirementKind.RequirementKind, model.SystemModel.SystemModel}, ByNumber.chain_at, Groups.groups_at}
use Rattle.cl_runs.specs.SystemOf.{system_of}
use Rattle.cl_hop.specs.{declared.group_timing.GroupTiming.GroupTiming, Bounds.Lengths, Hops.{saves, lag}}
use Rattle.cl_resp.specs.{declared.worst.WorstWindow.WorstWindow, Response.Response}
use Rattle.cl_bound.specs.declared.answer.TaskAnswer.TheVariants as answer
use Rattle.cl_bound.specs.Answers.{answer_at}
use Rattle.cl_phase.specs.{declared.whole.WholeWalk.WholeWalk, Whole.IsWholeWalkOf}
use Rattle.cl_analyse.specs.{declared.findings.ChainAnswer.TheVariants.Bounds, Verdicts.limited_bound}
use Rattle.cl_tight.specs.{TightAnswers.tight_answers_of, TightTimings.tight_timing, TightFindings.tight_chain_answer_of}
use Rattle.cl_near.specs.Plans.{IsWindowOfRun}
use Rattle.cl_why.specs.{Windows.{end_of, sum_of_shares, time_past_window}, Hops.{timing_at_place, kept_at, missed_arrival, taken_arrival, missed_by}, Walks.{walk_from, walk_to, read_of_first, write_of_last}}

-- the shares of a task that isn't late add up to its window, which ends a response after the arrival
pub record AddUpToWindow (model : SystemModel) (task : ℕ) (window : WorstWindow) (response : ℕ) : Type 0 where
  pub sum : window.start +ℤ pos (sum_of_shares model task window) ≡ end_of model task window
  pub ends : end_of model task window ≡ window.arrival +ℤ pos response

-- those of a late task add up to its window, which ends at its deadline, and a tick or more
pub record AddUpPastWindow (model : SystemModel) (task : ℕ) (window : WorstWindow) : Type 0 where
  pub some : 1 ≤ time_past_window model task window
  pub sum : window.start +ℤ pos (sum_of_shares model task window) ≡ end_of model task window +ℤ pos (time_past_window model task window)

-- so it is for each task of a model
pub record AddUpInWindows (model : SystemModel) : Type 0 where
  pub in_time : (task : ℕ) (window : WorstWindow) (response : Response) → task < length model.tasks
      → answer_at (tight_answers_of (system_of model)) task ≡ answer.Settled response
      → IsWindowOfRun (system_of model) task window → AddUpToWindow model task window response.response
  pub late : (task : ℕ) (window : WorstWindow) → task < length model.tasks
      → answer_at (tight_answers_of (system_of model)) task ≡ answer.Late
      → IsWindowOfRun (system_of model) task window → AddUpPastWindow model task window

-- a walk of a chain of a model that lasts as long as its bound of a kind
abbrev pub IsWalkOfBound : SystemModel → (chain : ℕ) → RequirementKind → Lengths → WholeWalk → Type 0
IsWalkOfBound model chain kind bounds walk =
    IsWholeWalkOf (system_of model) (tight_timing (system_of model)) (groups_at model chain) kind (limited_bound kind bounds) walk

-- how long after its arrival a writer hands over at the latest: where the hop saves its time its latest release, and else
-- its latest write
abbrev pub handed_over : (writer reader : GroupTiming) → ℕ
handed_over writer reader = if saves writer reader then writer.jitter else writer.write

-- where both groups of a hop keep their phases, the job that just misses does so by a tick or more, and one that arrives
-- so much later reads, at the earliest, where the writer has handed over at the latest
pub record IsMissedBy (walk : WholeWalk) (place : ℕ) (writer reader : GroupTiming) : Type 0 where
  pub some : pos 1 ≤ℤ missed_by walk place (lag writer reader)
  pub takes : (missed_arrival walk (place + 1) +ℤ missed_by walk place (lag writer reader)) +ℤ pos reader.read
      ≡ taken_arrival walk place +ℤ pos (handed_over writer reader)

-- what each bound of a model promises
pub record LastAsBounds (model : SystemModel) : Type 0 where
  pub lasts : (chain : ℕ) (kind : RequirementKind) (bounds : Lengths) (walk : WholeWalk) → chain < length model.chains
      → tight_chain_answer_of model (chain_at model chain) ≡ Bounds bounds → IsWalkOfBound model chain kind bounds walk
      → walk_to walk (write_of_last model chain) ≡ walk_from walk kind (read_of_first model chain) +ℤ pos (limited_bound kind bounds)
  pub missed : (chain : ℕ) (kind : RequirementKind) (bounds : Lengths) (walk : WholeWalk) → chain < length model.chains
      → tight_chain_answer_of model (chain_at model chain) ≡ Bounds bounds → IsWalkOfBound model chain kind bounds walk
      → (place : ℕ) → place + 1 < length (groups_at model chain)
      → kept_at walk place ≡ true → kept_at walk (place + 1) ≡ true
      → ((timing_at_place model chain place).task == (timing_at_place model chain (place + 1)).task) ≡ false
      → IsMissedBy walk place (timing_at_place model chain place) (timing_at_place model chain (place + 1))

-- what reasons promise of a model
pub record AreSafeReasons (model : SystemModel) : Type 0 where
  pub shares : AddUpInWindows model
  pub walks : LastAsBounds model
