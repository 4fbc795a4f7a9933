-- How many jobs of another task are released in a worst window, as the code counts them.
use Rattle.std.proofs.Common.{◌≡◌, ℕ, ◌+◌, ◌*◌, ◌<◌, ◌≤◌, true, false, Option, Some, None, unwrap_or, ℤ, pos, ◌-ℤ◌, length, refl, sym, ap, ◌∙◌, subst, arith}
use Rattle.cl_model.specs.{declared.{model.SystemModel.SystemModel, stimulus.StimulusKind.{StimulusKind, TheVariants.{Periodic, Sporadic, Burst}}}, ByNumber.{stimulus_of, jitter_of, time_of}, Ranges.IsKindInRange, Timing.greatest_jitter, Validity.IsValid}
use Rattle.cl_model.proofs.ValidTasks.{kind_in_range}
use Rattle.cl_runs.specs.{TaskTiming.{Timing, timing_at}, SystemOf.system_of, ExecutionTimes.greatest_execution}
use Rattle.cl_runs.proofs.ModelSystem.{count_is, system_sound, timing_is}
use Rattle.cl_stim.specs.{declared.phase.Phase.Phase, AnyStimulus.{kind_of, as_stimulus}, Phase.phase_of, Releases.most_releases}
use Rattle.cl_stim.proofs.StimulusKinds.{kind_of-as_stimulus}
use Rattle.cl_cycle.specs.{Counts.{arrivals_from, arrivals_of, each_moment}, Cycles.{is_one_of, in_phase_above}}
use Rattle.cl_cycle.proofs.CycleMembers.{members_come_round}
use Rattle.cl_resp.specs.{declared.worst.WorstWindow.WorstWindow, ByPhase.{phase_if, released_by}}
use Rattle.cl_resp.proofs.Questions.{time_is}
use Rattle.cl_why.specs.Windows.{width_of, jobs_in_window, time_in_window}

few : (kind : StimulusKind) → IsKindInRange kind → greatest_jitter kind ≤ 1000000000000
few (Periodic period offset jitter) range = range.2
few (Sporadic least greatest) range = omega arith
few (Burst period offset count distance) range = omega arith

pub jitter_few : (model : SystemModel) (other : ℕ) → other < length model.tasks → IsValid model → jitter_of model other ≤ 1000000000000
jitter_few model other in_model valid = few (stimulus_of model other) (kind_in_range model valid other in_model)

module _ (model : SystemModel) (task other : ℕ) (in_model : other < length model.tasks) where
  pattern_is : (kind : StimulusKind) → kind ≡ stimulus_of model other → kind ≡ (timing_at (system_of model) other).pattern
  pattern_is kind named = named ∙ sym (ap (λ (t : Timing). t.pattern) (timing_is model other in_model))

  pub execution_is : time_of model other ≡ greatest_execution (timing_at (system_of model) other)
  execution_is = sym (ap greatest_execution (timing_is model other in_model) ∙ time_is model other)

  module _ (window : WorstWindow) where
    abbrev start : ℤ
    start = window.start

    -- of a task that isn't in phase
    pub free_jobs : is_one_of (in_phase_above (system_of model) task) other ≡ false → (kind : StimulusKind) (width jobs : ℕ) → kind ≡ stimulus_of model other
        → width ≡ width_of model task window → jobs ≡ most_releases (kind_of (as_stimulus kind)) width → jobs ≡ jobs_in_window model task window other
    free_jobs free kind width jobs named wide is =
        let pattern = (timing_at (system_of model) other).pattern in
        is ∙ ap (λ (k : StimulusKind). most_releases k width) (kind_of-as_stimulus kind ∙ pattern_is kind named)
        ∙ ap (most_releases pattern) wide
        ∙ ap (λ b. released_by (phase_if b pattern) pattern start (width_of model task window)) (sym free)

    by_phase : (found : Option Phase) (phase : Phase) → found ≡ Some phase → (kind : StimulusKind) (width : ℕ)
        → arrivals_from (unwrap_or found each_moment) (start -ℤ pos (greatest_jitter kind)) (width + greatest_jitter kind)
        ≡ released_by found kind start width
    by_phase (Some found) phase is kind width = refl
    by_phase None phase is kind width = absurd cc

    -- of one that is
    pub kept_jobs : IsValid model → task < length model.tasks → is_one_of (in_phase_above (system_of model) task) other ≡ true
        → (kind : StimulusKind) (width jitter jobs : ℕ) (from : ℤ) → kind ≡ stimulus_of model other → width ≡ width_of model task window
        → jitter ≡ greatest_jitter (stimulus_of model other) → from ≡ (window.start -ℤ pos jitter)
        → jobs ≡ arrivals_from (arrivals_of kind) from (width + jitter) → jobs ≡ jobs_in_window model task window other
    kept_jobs valid is_task kept kind width jitter jobs from named wide jitters begins is =
        let pattern = (timing_at (system_of model) other).pattern in
        let round = members_come_round (system_of model) (system_sound model valid) task (subst (λ n. task < n) (sym (count_is model)) is_task) other kept in
        let same : jitter ≡ greatest_jitter (timing_at (system_of model) other).pattern = jitters ∙ ap greatest_jitter (pattern_is (stimulus_of model other) refl) in
        is ∙ ap (λ (z : ℤ). arrivals_from (arrivals_of kind) z (width + jitter)) begins
        ∙ ap (λ (k : StimulusKind). arrivals_from (arrivals_of k) (start -ℤ pos jitter) (width + jitter)) (pattern_is kind named)
        ∙ ap (λ n. arrivals_from (arrivals_of pattern) (start -ℤ pos n) (width + n)) same
        ∙ ap (λ n. arrivals_from (arrivals_of pattern) (start -ℤ pos (greatest_jitter pattern)) (n + greatest_jitter pattern)) wide
        ∙ by_phase (phase_of pattern) round.phase round.fixed pattern (width_of model task window)
        ∙ ap (λ b. released_by (phase_if b pattern) pattern start (width_of model task window)) (sym kept)

    pub time_is_in : (jobs count time taken : ℕ) → count ≡ jobs → taken ≡ time → jobs ≡ jobs_in_window model task window other → time ≡ time_of model other
        → count * taken ≡ time_in_window model task window other
    time_is_in jobs count time taken counts takes is own =
        ap (λ n. n * taken) (counts ∙ is) ∙ ap (λ n. jobs_in_window model task window other * n) (takes ∙ own ∙ execution_is)
