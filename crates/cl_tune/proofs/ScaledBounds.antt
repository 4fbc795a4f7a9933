-- Smaller percentages: groups write no later, and so no bound of a chain is greater.
use Rattle.std.proofs.Common.{◌≡◌, ℕ, zero, suc, ◌≤◌, false, List, [], ◌∷◌, get_or, take, drop, map, refl, sym, ap, ◌∙◌, subst, arith}
use Rattle.std.specs.Prelude.{sum}
use Rattle.std.specs.List.{take-map}
use Rattle.std.proofs.lemmas.List.{drop-map}
use Rattle.std.proofs.lemmas.List.Sums.{sum-map}
use Rattle.std.proofs.lemmas.Simd.{map-map}
use Rattle.cl_model.specs.{declared.{group.Group.Group, model.SystemModel.SystemModel, stimulus.StimulusKind.StimulusKind, task.{AccessKind.AccessKind, RunnableDef.RunnableDef, TaskDef.TaskDef}}, Timing.{greatest_distance, greatest_jitter}, Kinds.is_timed}
use Rattle.cl_runs.specs.{SystemOf.{range_of, system_of}, TaskTiming.{TimeRange, Timing, System, timing_at, no_timing, no_range}}
use Rattle.cl_comm.specs.{declared.spot.{Spot.Spot, Window.Window}, Windows.{least_times, spot_at, window_of, window_at}}
use Rattle.cl_comm.proofs.Responses.{reads_stay, ends_rise}
use Rattle.cl_hop.specs.{Bounds.{Lengths, AreBoundsOf}, Hops.group_timing, NoGreater.{StaysWithin, AreNoGreater}}
use Rattle.cl_hop.proofs.NoGreater.{bounds_no_greater}
use Rattle.cl_bound.specs.{Answers.{answers_of, answer_at, is_late, response_in, NoneIsLate}, Bounds.{settled_timing, settled_timings}}
use Rattle.cl_scale.specs.Scaled.{scaled_runnable, scaled}
use Rattle.cl_tune.proofs.ScaledAnswers.{timing, tasks_are, answer_sooner}

-- ---- what doesn't depend on greatest times

-- the least times of a task
abbrev leasts : Timing → List ℕ
leasts task = map (λ (range : TimeRange). range.least) task.ranges

before_is : (task : Timing) (p : ℕ) → least_times (take p task.ranges) ≡ sum (take p (leasts task))
unfolding least_times
before_is task p = sym (sum-map (λ (range : TimeRange). range.least) (take p task.ranges)) ∙ ap sum (sym (take-map (λ (range : TimeRange). range.least) p task.ranges))

after_is : (task : Timing) (p : ℕ) → least_times (drop p task.ranges) ≡ sum (drop p (leasts task))
unfolding least_times
after_is task p = sym (sum-map (λ (range : TimeRange). range.least) (drop p task.ranges)) ∙ ap sum (sym (drop-map (λ (range : TimeRange). range.least) p task.ranges))

own_is : (ranges : List TimeRange) (p : ℕ) → (get_or ranges p no_range).least ≡ get_or (map (λ (range : TimeRange). range.least) ranges) p 0
unfolding no_range
own_is [] p = refl
own_is (range ∷ ranges) zero = refl
own_is (range ∷ ranges) (suc p) = own_is ranges p

-- a spot by the least times and the deadline
spot_by : (leasts : List ℕ) (deadline p : ℕ) → Spot
spot_by leasts deadline p = record { before = sum (take p leasts); own = get_or leasts p 0; after = sum (drop (suc p) leasts); deadline = deadline }

spot_is : (task : Timing) (p : ℕ) → spot_at task p ≡ spot_by (leasts task) task.deadline p
unfolding spot_at spot_by
spot_is task p =
    let before = before_is task p in
    let own = own_is task.ranges p in
    let after = after_is task (suc p) in
    cc

same_in_list : {X : Type 0} (f : Timing → X) (one other : TaskDef → Timing) → ((task : TaskDef) → f (one task) ≡ f (other task))
    → (tasks : List TaskDef) (i : ℕ) → f (get_or (map one tasks) i no_timing) ≡ f (get_or (map other tasks) i no_timing)
same_in_list f one other same [] i = refl
same_in_list f one other same (task ∷ tasks) zero = same task
same_in_list f one other same (task ∷ tasks) (suc i) = same_in_list f one other same tasks i

-- ---- the bounds of two scaled models

module _ (model : SystemModel) (less more : ℕ) (le : less ≤ more) where
  abbrev lesser : System
  lesser = system_of (scaled model less)

  abbrev greater : System
  greater = system_of (scaled model more)

  pub same_at : {X : Type 0} (f : Timing → X) → ((task : TaskDef) → f (timing model less task) ≡ f (timing model more task)) → (i : ℕ)
      → f (timing_at lesser i) ≡ f (timing_at greater i)
  same_at f same i =
      ap (λ (tasks : List Timing). f (get_or tasks i no_timing)) (tasks_are model less)
      ∙ same_in_list f (timing model less) (timing model more) same model.tasks i
      ∙ sym (ap (λ (tasks : List Timing). f (get_or tasks i no_timing)) (tasks_are model more))

  pub patterns_same : (i : ℕ) → (timing_at lesser i).pattern ≡ (timing_at greater i).pattern
  unfolding scaled
  patterns_same = same_at (λ (t : Timing). t.pattern) (λ task. refl)

  pub deadlines_same : (i : ℕ) → (timing_at lesser i).deadline ≡ (timing_at greater i).deadline
  unfolding scaled
  deadlines_same = same_at (λ (t : Timing). t.deadline) (λ task. refl)

  pub accesses_same : (i : ℕ) → (timing_at lesser i).access ≡ (timing_at greater i).access
  unfolding scaled
  accesses_same = same_at (λ (t : Timing). t.access) (λ task. refl)

  cores_same : (i : ℕ) → (timing_at lesser i).core ≡ (timing_at greater i).core
  unfolding scaled
  cores_same = same_at (λ (t : Timing). t.core) (λ task. refl)

  priorities_same : (i : ℕ) → (timing_at lesser i).priority ≡ (timing_at greater i).priority
  unfolding scaled
  priorities_same = same_at (λ (t : Timing). t.priority) (λ task. refl)

  leasts_are : (percent : ℕ) (task : TaskDef) → leasts (timing model percent task) ≡ map (λ (r : RunnableDef). r.least) task.runnables
  leasts_are percent task =
      map-map (λ (range : TimeRange). range.least) range_of (map (scaled_runnable percent) task.runnables)
      ∙ map-map (λ (r : RunnableDef). r.least) (scaled_runnable percent) task.runnables

  leasts_same : (i : ℕ) → leasts (timing_at lesser i) ≡ leasts (timing_at greater i)
  leasts_same = same_at leasts (λ task. leasts_are less task ∙ sym (leasts_are more task))

  spots_same : (i p : ℕ) → spot_at (timing_at lesser i) p ≡ spot_at (timing_at greater i) p
  spots_same i p =
      spot_is (timing_at lesser i) p
      ∙ ap (λ list. spot_by list (timing_at lesser i).deadline p) (leasts_same i)
      ∙ ap (λ n. spot_by (leasts (timing_at greater i)) n p) (deadlines_same i)
      ∙ sym (spot_is (timing_at greater i) p)

  abbrev response : System → ℕ → ℕ
  response system i = response_in (answer_at (answers_of system) i)

  window_is : (i p n : ℕ) → window_at (timing_at lesser i) p n ≡ window_of (timing_at greater i).access (spot_at (timing_at greater i) p) n
  window_is i p n =
      ap (λ (access : AccessKind). window_of access (spot_at (timing_at lesser i) p) n) (accesses_same i)
      ∙ ap (λ (spot : Spot). window_of (timing_at greater i).access spot n) (spots_same i p)

  group_sooner : (group : Group) → is_late (answer_at (answers_of greater) group.task) ≡ false → StaysWithin (settled_timing lesser group) (settled_timing greater group)
  unfolding group_timing
  group_sooner group timely =
      let i = group.task in
      let sooner = (answer_sooner model less more le i timely).1 in
      record {
        task = refl;
        core = cores_same i;
        priority = priorities_same i;
        is_timed = ap (λ (access : AccessKind). is_timed access) (accesses_same i);
        jitter = ap (λ (kind : StimulusKind). greatest_jitter kind) (patterns_same i);
        distance = ap (λ (kind : StimulusKind). greatest_distance kind) (patterns_same i);
        read = omega (
          arith,
          ap (λ (w : Window). w.rlo) (window_is i group.first (response lesser i)),
          reads_stay (timing_at greater i).access (spot_at (timing_at greater i) group.first) (response lesser i) (response greater i),
        );
        write = subst (λ n. n ≤ (window_at (timing_at greater i) group.last (response greater i)).whi)
            (sym (ap (λ (w : Window). w.whi) (window_is i group.last (response lesser i))))
            (ends_rise (timing_at greater i).access (spot_at (timing_at greater i) group.last) (response lesser i) (response greater i) sooner);
      }

  -- no bound of a chain none of whose tasks is late is greater at the smaller percentage
  pub bounds_sooner : (groups : List Group) (one other : Lengths) → NoneIsLate (answers_of greater) groups
      → AreBoundsOf (settled_timings lesser groups) one → AreBoundsOf (settled_timings greater groups) other → AreNoGreater one other
  bounds_sooner groups one other timely is_one is_other =
      bounds_no_greater (settled_timing lesser) (settled_timing greater) groups
      (λ k d lt. group_sooner (get_or groups k d) (timely k d lt)) one other is_one is_other
