-- The laws of `Arrivals`, over the kind of the stimulus.
use Rattle.std.proofs.Common.{ℕ, ◌≤◌, List, arith}
use Rattle.cl_model.specs.{declared.stimulus.StimulusKind.StimulusKind, Timing.{least_distance, greatest_distance, greatest_jitter}}
use Rattle.cl_runs.specs.{declared.job.Job.Job, Arrivals.FollowPattern}
use Rattle.cl_runs.proofs.ArrivalFacts.{arrivals_apart, next_within, end_within, released_late, released_within}
use Rattle.cl_stim.specs.{Stimulus.IsStimulus, Releases.most_releases, Jobs.{AreFew, HaveGaps, ReachEnd, AreReleased}, Inner.Releases.{well_formed, most_rises, few_releases}}

pub never_falls : (kind : StimulusKind) → IsStimulus kind → (narrow wide : ℕ) → narrow ≤ wide → most_releases kind narrow ≤ most_releases kind wide
never_falls kind known = most_rises kind

module _ (kind : StimulusKind) (known : IsStimulus kind) (ticks : ℕ) (jobs : List Job) (follow : FollowPattern kind ticks jobs) where
  pub few : (width : ℕ) → AreFew (most_releases kind width) width jobs
  few width start = few_releases kind (well_formed kind known) ticks jobs follow start width

  pub gaps : HaveGaps (least_distance kind) (greatest_distance kind) jobs
  gaps = record {
    not_early = λ k h. arrivals_apart kind (well_formed kind known) ticks jobs follow k _ (omega arith) h;
    not_late = next_within kind (well_formed kind known) ticks jobs follow;
  }

  pub goes_on : ReachEnd (greatest_distance kind) ticks jobs
  goes_on = end_within kind (well_formed kind known) ticks jobs follow

  pub released : AreReleased (greatest_jitter kind) jobs
  released = record { not_early = released_late kind ticks jobs follow; not_late = released_within kind ticks jobs follow }
