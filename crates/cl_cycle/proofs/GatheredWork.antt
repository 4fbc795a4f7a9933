-- How much work the tasks in phase are, and which of them are taken. Times are in ticks.
use Rattle.std.proofs.Common.{◌≡◌, ℕ, ◌+◌, ◌-◌, ◌*◌, ◌^◌, ◌<◌, ◌≤◌, Bool, true, false, cond, ◌&&◌, ◌||◌, ◌==◌, nat_le, min, List, [], ◌∷◌, ◌++◌, length, get_or, take, refl, sym, ap, ◌∙◌, arith, inl, inr}
use Rattle.std.specs.Prelude.{sum_by, not, reverse}
use Rattle.std.specs.List.{filter}
use Rattle.std.proofs.lemmas.Bool.{cases_lt}
use Rattle.std.proofs.lemmas.Bool.Decides.{nat_tests}
use Rattle.std.proofs.lemmas.Nat.{mul-le}
use Rattle.std.proofs.lemmas.List.{append-nil, reverse-append}
use Rattle.std.proofs.lemmas.List.Elements.{filter_more, filter_agree}
use Rattle.std.proofs.lemmas.List.Folds.{list_any-append}
use Rattle.std.proofs.lemmas.List.Sums.{sum_by_push}
use Rattle.cl_model.specs.{declared.{limits.TheConstants.MOST_TICKS, model.SystemModel.SystemModel, stimulus.StimulusKind.{StimulusKind, TheVariants.{Periodic, Sporadic, Burst}}}, ByNumber.{stimulus_of, deadline_of}, Ranges.IsKindInRange, Timing.least_distance, Validity.IsValid}
use Rattle.cl_model.proofs.ValidTasks.{kind_in_range, early_enough}
use Rattle.cl_runs.specs.{TaskTiming.System, SystemOf.system_of}
use Rattle.cl_stim.specs.{AnyStimulus.{kind_of, as_stimulus}, Releases.most_releases, Multiples.hyperperiod_of}
use Rattle.cl_cycle.specs.{declared.cycle.{Cycle.Cycle, TheConstants.MOST_WORK}, Cycles.{phases_with, arrivals_together, is_one_of, gathered_above, work_with, in_phase_above, cycle_of}, Promises.IsCycleOf, Inner.Gathering.{tasks_beside, has_higher, IsGathered}}
use Rattle.cl_cycle.proofs.GatheredNumbers.{released_is}

-- ---- stimuli

-- the stimulus of a kind is of that kind
pub kind_of-as_stimulus : (kind : StimulusKind) → kind_of (as_stimulus kind) ≡ kind
kind_of-as_stimulus (Periodic period offset jitter) = refl
kind_of-as_stimulus (Sporadic least greatest) = refl
kind_of-as_stimulus (Burst period offset count distance) = refl

-- least distances are few ticks
distance_few : (kind : StimulusKind) → IsKindInRange kind → least_distance kind ≤ MOST_TICKS
distance_few (Periodic period offset jitter) in_range = in_range.0.1
distance_few (Sporadic least greatest) in_range = in_range.0.1
distance_few (Burst period offset count distance) in_range = in_range.3.1

-- and so are deadlines
pub deadline_few : (model : SystemModel) → IsValid model → (task : ℕ) → task < length model.tasks → deadline_of model task ≤ MOST_TICKS
deadline_few model valid task known = omega (arith, early_enough model valid task known, distance_few (stimulus_of model task) (kind_in_range model valid task known))

-- ---- in which order tasks stand doesn't matter

-- the order of two tests does not matter
either_order : (a b : Bool) → (a || b) ≡ (b || a)
either_order true true = refl
either_order true false = refl
either_order false true = refl
either_order false false = refl

-- whether a task is the only one
one_of_alone : (one other : ℕ) → is_one_of (one ∷ []) other ≡ (one == other)
one_of_alone one other = without (one == other)
  where
    without : (b : Bool) → (b || false) ≡ b
    without true = refl
    without false = refl

-- whether it is one of them, the other way round
pub one_of_reversed : (tasks : List ℕ) (other : ℕ) → is_one_of (reverse tasks) other ≡ is_one_of tasks other
one_of_reversed [] other = refl
one_of_reversed (task ∷ tasks) other =
    ap (λ (list : List ℕ). is_one_of list other) (reverse-append (task ∷ []) tasks)
    ∙ list_any-append (λ one. one == other) (reverse tasks) (task ∷ [])
    ∙ ap (λ b. b || is_one_of (task ∷ []) other) (one_of_reversed tasks other)
    ∙ ap (λ b. is_one_of tasks other || b) (one_of_alone task other)
    ∙ either_order (is_one_of tasks other) (task == other)

-- ---- a capped sum

-- whether another task counts by its most releases
abbrev pub counts_by_most : SystemModel → (task : ℕ) → (in_phase : List ℕ) → (other : ℕ) → Bool
counts_by_most model task in_phase other = has_higher model task other && not (is_one_of in_phase other)

-- the most releases of some tasks
abbrev pub most_of : SystemModel → (task : ℕ) → List ℕ → ℕ
most_of model task others = sum_by (λ other. most_releases (stimulus_of model other) (deadline_of model task)) others

module _ (model : SystemModel) (task : ℕ) (in_phase others : List ℕ) (i : ℕ) (within : i < length others) where
  -- one that counts adds its most releases
  pub most_more : counts_by_most model task in_phase (get_or others i 0) ≡ true
      → most_of model task (filter (counts_by_most model task in_phase) (take (i + 1) others))
      ≡ most_of model task (filter (counts_by_most model task in_phase) (take i others)) + most_releases (stimulus_of model (get_or others i 0)) (deadline_of model task)
  most_more passes =
      ap (most_of model task) (filter_more (counts_by_most model task in_phase) others i 0 within
      ∙ ap (λ b. filter (counts_by_most model task in_phase) (take i others) ++ cond b (get_or others i 0 ∷ []) []) passes)
      ∙ sum_by_push (λ other. most_releases (stimulus_of model other) (deadline_of model task)) (filter (counts_by_most model task in_phase) (take i others)) (get_or others i 0)

  -- one that does not adds nothing
  pub most_same : counts_by_most model task in_phase (get_or others i 0) ≡ false
      → most_of model task (filter (counts_by_most model task in_phase) (take (i + 1) others))
      ≡ most_of model task (filter (counts_by_most model task in_phase) (take i others))
  most_same fails =
      ap (most_of model task) (filter_more (counts_by_most model task in_phase) others i 0 within
      ∙ ap (λ b. filter (counts_by_most model task in_phase) (take i others) ++ cond b (get_or others i 0 ∷ []) []) fails
      ∙ append-nil (filter (counts_by_most model task in_phase) (take i others)))

-- a task counts where it stands above and isn't in phase
module _ (higher taken : Bool) where
  -- it does both
  pub counts : higher ≡ true → taken ≡ false → (higher && not taken) ≡ true
  counts is apart = ap (λ b. b && not taken) is ∙ ap not apart

  -- it is in phase
  pub counts_not_taken : taken ≡ true → (higher && not taken) ≡ false
  counts_not_taken is = ap (λ b. higher && not b) is ∙ without higher
    where
      without : (b : Bool) → (b && false) ≡ false
      without true = refl
      without false = refl

  -- it stands below
  pub counts_not_below : higher ≡ false → (higher && not taken) ≡ false
  counts_not_below is = ap (λ b. b && not taken) is

-- one more in a capped sum
pub capped_more : (capped sum more cap : ℕ) → capped ≡ min sum cap → min (capped + more) cap ≡ min (sum + more) cap
capped_more capped sum more cap is = omega (arith, is)

-- ---- whether it is little

-- the caps don't matter below them
pub little_capped : (arrivals released most cap : ℕ) → most < cap → nat_le (min (arrivals * min released cap) cap) most ≡ nat_le (arrivals * released) most
little_capped arrivals released most cap below = elim (cases_lt cap released) [
  | inr few ↦
      let same : min released cap ≡ released = omega (arith, few) in
      ap (λ n. nat_le (min (arrivals * n) cap) most) same ∙ by_cap (arrivals * released)
  | inl many ↦
      let same : min released cap ≡ cap = omega (arith, many) in
      ap (λ n. nat_le (min (arrivals * n) cap) most) same ∙ elim (cases_lt 0 arrivals) [
        | inl some ↦
            both_pass (min (arrivals * cap) cap) (arrivals * released)
            (omega (arith, below, mul-le 1 cap arrivals cap some (omega arith)))
            (omega (arith, below, many, mul-le 1 released arrivals released some (omega arith)))
        | inr none ↦
            let nothing : arrivals ≡ 0 = omega (arith, none) in
            both_within (min (arrivals * cap) cap) (arrivals * released) (omega (arith, ap (λ n. n * cap) nothing)) (omega (arith, ap (λ n. n * released) nothing))
      ]
]
  where
    by_cap : (n : ℕ) → nat_le (min n cap) most ≡ nat_le n most
    by_cap n = grind (arith, nat_tests)

    both_pass : (m n : ℕ) → most < m → most < n → nat_le m most ≡ nat_le n most
    both_pass m n first second = grind (arith, nat_tests)

    both_within : (m n : ℕ) → m ≡ 0 → n ≡ 0 → nat_le m most ≡ nat_le n most
    both_within m n first second = cc

module _ (model : SystemModel) (task : ℕ) (known : task < length model.tasks) (cycle : Cycle) (so_far : List ℕ)
    (gathered : IsGathered (system_of model) task so_far cycle) where
  -- the work of those gathered, by number
  work_is : cycle.arrivals * most_of model task (filter (counts_by_most model task cycle.in_phase.items) (tasks_beside model task)) ≡ work_with (system_of model) task so_far
  work_is =
      ap (λ n. n * most_of model task (filter (counts_by_most model task cycle.in_phase.items) (tasks_beside model task))) gathered.together.arrivals_are
      ∙ ap (λ n. arrivals_together (phases_with (system_of model) task so_far) * n)
      (ap (most_of model task)
      (filter_agree (counts_by_most model task cycle.in_phase.items) (counts_by_most model task so_far)
      (λ other. ap (λ b. has_higher model task other && not b)
      (ap (λ (list : List ℕ). is_one_of list other) gathered.in_phase ∙ one_of_reversed so_far other)) (tasks_beside model task))
      ∙ sym (released_is model task known so_far))

  -- what the code compares
  pub little_is : (released work : ℕ)
      → released ≡ min (most_of model task (filter (counts_by_most model task cycle.in_phase.items) (tasks_beside model task))) (2 ^ 64 - 1)
      → work ≡ min (cycle.arrivals * released) (2 ^ 64 - 1) → nat_le work MOST_WORK ≡ nat_le (work_with (system_of model) task so_far) MOST_WORK
  little_is released work capped product =
      ap (λ n. nat_le n MOST_WORK) (product ∙ ap (λ n. min (cycle.arrivals * n) (2 ^ 64 - 1)) capped)
      ∙ little_capped cycle.arrivals (most_of model task (filter (counts_by_most model task cycle.in_phase.items) (tasks_beside model task))) MOST_WORK (2 ^ 64 - 1) (omega arith)
      ∙ ap (λ n. nat_le n MOST_WORK) work_is

-- ---- the cycle

module _ (system : System) (task : ℕ) where
  -- which are in phase, by whether they are little work
  in_phase_by : (little : Bool) → nat_le (work_with system task (gathered_above system task)) MOST_WORK ≡ little
      → in_phase_above system task ≡ cond little (gathered_above system task) []
  unfolding in_phase_above
  in_phase_by little is = ap (λ b. cond b (gathered_above system task) []) is

  module _ (so_far : List ℕ) (cycle : Cycle) (gathered : IsGathered system task so_far cycle) (is : in_phase_above system task ≡ so_far) where
    -- those in phase, and their cycle
    pub is_cycle : IsCycleOf system task cycle
    unfolding cycle_of
    is_cycle = record {
      in_phase = λ other.
          ap (λ (list : List ℕ). is_one_of list other) gathered.in_phase ∙ one_of_reversed so_far other ∙ ap (λ (list : List ℕ). is_one_of list other) (sym is);
      ticks = gathered.together.ticks_are ∙ ap (λ (list : List ℕ). hyperperiod_of (phases_with system task list)) (sym is);
    }

  -- where they are little work all that are gathered are in phase
  pub cycle_little : (cycle : Cycle) → IsGathered system task (gathered_above system task) cycle
      → nat_le (work_with system task (gathered_above system task)) MOST_WORK ≡ true → IsCycleOf system task cycle
  cycle_little cycle gathered little = is_cycle (gathered_above system task) cycle gathered (in_phase_by true little)

  -- else none is
  pub cycle_alone : (cycle : Cycle) → IsGathered system task [] cycle
      → nat_le (work_with system task (gathered_above system task)) MOST_WORK ≡ false → IsCycleOf system task cycle
  cycle_alone cycle gathered much = is_cycle [] cycle gathered (in_phase_by false much)
