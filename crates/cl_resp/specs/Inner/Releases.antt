-- Moments at which jobs of the tasks in phase can be released at the latest. Times are in ticks, and moments may lie
-- before 0.
use Rattle.std.specs.Prelude.{◌≡◌, ℤ, pos, ◌+ℤ◌, ◌-ℤ◌, ◌≤ℤ◌, ◌+◌, ◌⊎◌, Bool, true, false, All}
use Rattle.std.specs.List.{list_any}
use Rattle.cl_model.specs.declared.limits.TheConstants.{MOST_TICKS}
use Rattle.cl_stim.specs.Phase.{arrives_at}
use Rattle.cl_resp.specs.declared.phased.{InPhase.InPhase, PhasedQuestion.PhasedQuestion}

-- whether a job of a task in phase that is released at a moment can have waited for its whole jitter
abbrev pub is_latest_release : (moment : ℤ) → InPhase → Bool
is_latest_release moment above = arrives_at above.phase (moment -ℤ pos above.jitter)

-- a moment is the last one before another at which such a task has a latest release
pub record IsLastReleaseOf (above : InPhase) (start moment : ℤ) : Type 0 where
  pub before : (moment +ℤ pos 1) ≤ℤ start
  pub near : start ≤ℤ (moment +ℤ pos (MOST_TICKS + 1))
  pub releases : is_latest_release moment above ≡ true
  pub none_between : (between : ℤ) → (moment +ℤ pos 1) ≤ℤ between → (between +ℤ pos 1) ≤ℤ start
      → is_latest_release between above ≡ false

-- a moment is the last one before another at which some task in phase has a latest release
pub record IsLastReleaseBefore (question : PhasedQuestion) (start moment : ℤ) : Type 0 where
  pub before : (moment +ℤ pos 1) ≤ℤ start
  pub near : start ≤ℤ (moment +ℤ pos (MOST_TICKS + 1))
  pub releases : list_any (is_latest_release moment) question.in_phase ≡ true
  pub none_between : (between : ℤ) → (moment +ℤ pos 1) ≤ℤ between → (between +ℤ pos 1) ≤ℤ start
      → All (λ above. is_latest_release between above ≡ false) question.in_phase

-- a moment is the later of two
pub record IsLaterOf (first second moment : ℤ) : Type 0 where
  pub not_first : first ≤ℤ moment
  pub not_second : second ≤ℤ moment
  pub one : (moment ≡ first) ⊎ (moment ≡ second)
