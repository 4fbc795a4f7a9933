-- What is asked by the phases of the tasks above, as a sum over those that are in phase and one over the others.
use Rattle.std.proofs.Common.{◌≡◌, ℕ, ◌+◌, ◌*◌, ℤ, pos, ◌-ℤ◌, Bool, true, false, cond, List, [], ◌∷◌, length, map, refl, sym, ap, ◌∙◌}
use Rattle.std.specs.Prelude.{All, not, unwrap_or, Option, Some}
use Rattle.std.specs.List.{filter, sum, sum_by, range_with_len}
use Rattle.std.proofs.lemmas.List.Elements.{All-weaker, filter_passes}
use Rattle.std.proofs.lemmas.List.Filters.{sum_by-filter_both}
use Rattle.std.proofs.lemmas.List.Folds.{fold-map}
use Rattle.std.proofs.lemmas.List.Sums.{sum-map}
use Rattle.std.proofs.lemmas.Simd.{map-map}
use Rattle.cl_model.specs.{declared.stimulus.StimulusKind.StimulusKind, Timing.greatest_jitter}
use Rattle.cl_model.proofs.AddedTasks.{maps_agree_on}
use Rattle.cl_runs.specs.{TaskTiming.{Timing, System, timing_at, no_timing}, Priorities.{is_above, tasks_above}, ExecutionTimes.greatest_execution}
use Rattle.cl_stim.specs.{declared.phase.Phase.Phase, AnyStimulus.kind_of, Phase.phase_of, Releases.most_releases}
use Rattle.cl_stim.proofs.StimulusKinds.{kind_of-as_stimulus}
use Rattle.cl_cycle.specs.{Counts.{arrivals_from, arrivals_of, each_moment}, Cycles.{is_one_of, in_phase_above, cycle_of}, Promises.ComesRound}
use Rattle.cl_resp.specs.{declared.{question.Above.Above, phased.InPhase.InPhase}, Question.{taken_by, tight_question_of}, ByPhase.{phase_if, released_by, time_by}, Inner.{Phased.time_in_phase, Counted.{counts_in_phase, counted_above, by_phase_of, in_phase_with, beside_with}}}
use Rattle.cl_resp.proofs.Filters.{by_number, filter-map, same_pass}

-- the sum over a mapped list
pub sum_mapped : {X Y : Type 0} (f : Y → ℕ) (g : X → Y) (xs : List X) → sum_by f (map g xs) ≡ sum_by (λ x. f (g x)) xs
sum_mapped f g xs = fold-map (λ a y. a + f y) g 0 xs

-- two sums that agree at each item
pub sums_agree_on : {X : Type 0} (f g : X → ℕ) (xs : List X) → All (λ x. f x ≡ g x) xs → sum_by f xs ≡ sum_by g xs
sums_agree_on f g xs same = sym (sum-map f xs) ∙ ap sum (maps_agree_on f g xs same) ∙ sum-map g xs

-- ---- what a task takes

-- by its phase, where that is known
released_in_phase : (kind : StimulusKind) (phase : Phase) → phase_of kind ≡ Some phase → (b : Bool) → b ≡ true → (start : ℤ) (width : ℕ)
    → arrivals_from (arrivals_of kind) (start -ℤ pos (greatest_jitter kind)) (width + greatest_jitter kind) ≡ released_by (phase_if b kind) kind start width
released_in_phase kind phase fixed b is start width =
    ap (λ (p : Option Phase). arrivals_from (unwrap_or p each_moment) (start -ℤ pos (greatest_jitter kind)) (width + greatest_jitter kind)) fixed
    ∙ ap (λ (p : Option Phase). released_by p kind start width) (sym fixed)
    ∙ ap (λ b. released_by (phase_if b kind) kind start width) (sym is)

-- and else as any task
released_beside : (kind : StimulusKind) (b : Bool) → b ≡ false → (start : ℤ) (width : ℕ) → most_releases kind width ≡ released_by (phase_if b kind) kind start width
released_beside kind b is start width = ap (λ b. released_by (phase_if b kind) kind start width) (sym is)

-- what a task takes of a window at most
abbrev pub takes : (width : ℕ) → Above → ℕ
takes width above = most_releases (kind_of above.stimulus) width * above.time

pub takes_is : (width : ℕ) (timing : Timing) → takes width (taken_by timing) ≡ most_releases timing.pattern width * greatest_execution timing
takes_is width timing = ap (λ kind. most_releases kind width * greatest_execution timing) (kind_of-as_stimulus timing.pattern)

not_true : (b : Bool) → not b ≡ true → b ≡ false
not_true true h = sym h
not_true false h = refl

-- ---- the sums

module _ (system : System) (task : ℕ) (cycle : List ℕ) (same : (other : ℕ) → is_one_of cycle other ≡ is_one_of (in_phase_above system task) other)
    (fixed : (other : ℕ) → is_one_of (in_phase_above system task) other ≡ true → ComesRound system (cycle_of system task) other) where
  abbrev phased : ℕ → Bool
  phased = is_one_of (in_phase_above system task)

  module _ (start : ℤ) (width : ℕ) where
    one_in_phase : (other : ℕ) → counts_in_phase true cycle other ≡ true
        → time_in_phase start width (by_phase_of system other) ≡ time_by system phased start width other
    one_in_phase other passes =
        let is : phased other ≡ true = sym (same other) ∙ passes in
        let round = fixed other is in
        ap (λ released. released * greatest_execution (timing_at system other))
        (released_in_phase (timing_at system other).pattern round.phase round.fixed (phased other) is start width)

    one_beside : (other : ℕ) → counts_in_phase false cycle other ≡ true → takes width (taken_by (timing_at system other)) ≡ time_by system phased start width other
    one_beside other passes =
        let is : phased other ≡ false = sym (same other) ∙ not_true (is_one_of cycle other) passes in
        takes_is width (timing_at system other)
        ∙ ap (λ released. released * greatest_execution (timing_at system other))
        (released_beside (timing_at system other).pattern (phased other) is start width)

    all_in_phase : sum_by (time_in_phase start width) (in_phase_with system cycle task)
        ≡ sum_by (time_by system phased start width) (counted_above system true cycle task)
    all_in_phase =
        let numbers = counted_above system true cycle task in
        sum_mapped (time_in_phase start width) (by_phase_of system) numbers
        ∙ sums_agree_on (λ other. time_in_phase start width (by_phase_of system other)) (time_by system phased start width) numbers
        (All-weaker (λ other. counts_in_phase true cycle other ≡ true)
        (λ other. time_in_phase start width (by_phase_of system other) ≡ time_by system phased start width other) one_in_phase numbers
        (filter_passes (counts_in_phase true cycle) (tasks_above system task)))

    all_beside : sum_by (takes width) (beside_with system cycle task)
        ≡ sum_by (time_by system phased start width) (counted_above system false cycle task)
    all_beside =
        let numbers = counted_above system false cycle task in
        let taken : ℕ → Above = λ other. taken_by (timing_at system other) in
        sum_mapped (takes width) taken numbers
        ∙ sums_agree_on (λ other. takes width (taken other)) (time_by system phased start width) numbers
        (All-weaker (λ other. counts_in_phase false cycle other ≡ true)
        (λ other. takes width (taken other) ≡ time_by system phased start width other) one_beside numbers
        (filter_passes (counts_in_phase false cycle) (tasks_above system task)))

    -- those beside and those in phase take what all above do
    pub both_sums : sum_by (time_in_phase start width) (in_phase_with system cycle task) + sum_by (takes width) (beside_with system cycle task)
        ≡ sum_by (time_by system phased start width) (tasks_above system task)
    both_sums = ap (λ n. n + sum_by (takes width) (beside_with system cycle task)) all_in_phase
        ∙ ap (λ n. sum_by (time_by system phased start width) (counted_above system true cycle task) + n) all_beside
        ∙ sum_by-filter_both (counts_in_phase true cycle) (counts_in_phase false cycle) (λ other. refl) (time_by system phased start width) (tasks_above system task)

-- ---- the tight question

-- what it has above, by the numbers of the tasks
pub above_by_number : (system : System) (task : ℕ)
    → (tight_question_of system (timing_at system task)).above ≡ map (λ other. taken_by (timing_at system other)) (tasks_above system task)
unfolding tight_question_of
above_by_number system task =
    let timing = timing_at system task in
    ap (λ tasks. map taken_by (filter (is_above timing) tasks)) (sym (by_number system.tasks no_timing))
    ∙ ap (map taken_by) (filter-map (is_above timing) (timing_at system) (range_with_len 0 (length system.tasks)))
    ∙ map-map taken_by (timing_at system) (tasks_above system task)

-- where none is in phase, the others are all
none_counted : (cycle : List ℕ) (f : ℕ → InPhase) (xs : List ℕ) → map f (filter (counts_in_phase true cycle) xs) ≡ [] → filter (counts_in_phase false cycle) xs ≡ xs
none_counted cycle f [] none = refl
none_counted cycle f (x ∷ xs) none =
    elim (is_one_of cycle x) as (λ b. map f (cond b (x ∷ filter (counts_in_phase true cycle) xs) (filter (counts_in_phase true cycle) xs)) ≡ []
    → cond (not b) (x ∷ filter (counts_in_phase false cycle) xs) (filter (counts_in_phase false cycle) xs) ≡ x ∷ xs) [
      | true ↦ λ e. cc
      | false ↦ λ e. ap (λ ys. x ∷ ys) (none_counted cycle f xs e)
    ] none

pub all_stand_beside : (system : System) (cycle : List ℕ) (task : ℕ) → in_phase_with system cycle task ≡ []
    → beside_with system cycle task ≡ (tight_question_of system (timing_at system task)).above
all_stand_beside system cycle task none =
    ap (map (λ other. taken_by (timing_at system other))) (none_counted cycle (by_phase_of system) (tasks_above system task) none)
    ∙ sym (above_by_number system task)

-- those in phase depend on which tasks are, and not on how these are listed
pub same_in_phase : (system : System) (one other : List ℕ) → ((task : ℕ) → is_one_of one task ≡ is_one_of other task) → (task : ℕ)
    → in_phase_with system one task ≡ in_phase_with system other task
same_in_phase system one other same task =
    ap (map (by_phase_of system)) (same_pass (counts_in_phase true one) (counts_in_phase true other) same (tasks_above system task))
