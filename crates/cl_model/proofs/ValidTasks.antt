-- What holds of the tasks of a valid model. Times are in ticks.
use Rattle.std.proofs.Common.{◌≡◌, ℕ, zero, suc, ◌*◌, ◌<◌, ◌≤◌, Bool, true, false, Option, Some, None, List, [], ◌∷◌, ◌++◌, length, get_or, take, refl, sym, ap, ◌∙◌, inl, inr, ◌-◌, ◌+◌, arith, nat_lt, nat_le}
use Rattle.std.specs.Prelude.{unwrap_or, is_some, slice_get, All, ◌==◌}
use Rattle.std.specs.List.{list_any}
use Rattle.std.specs.Option.{option_map, option_and_then}
use Rattle.std.proofs.lemmas.Bool.{cases_eq, ltb-false, leb-false, eqb-false, false≢true}
use Rattle.std.proofs.Math.Nat.{suc-mul}
use Rattle.std.proofs.lemmas.List.{take_all}
use Rattle.std.proofs.lemmas.List.Sums.{sum_by-le, get_or-le-sum_by}
use Rattle.cl_model.specs.declared.{limits.TheConstants.{MOST_TICKS, MOST_RUNNABLES, MOST_RUNNABLES_OF_MODEL, MOST_TASKS_OF_CORE}, model.SystemModel.SystemModel, refusal.Refusal.Refusal, stimulus.{StimulusDef.StimulusDef, StimulusKind.{StimulusKind, TheVariants.{Periodic, Sporadic}}}}
use Rattle.cl_model.specs.{declared.{stimulus.StimulusKind.TheVariants.Burst, task.{RunnableDef.RunnableDef, TaskDef.TaskDef}}, Named.{is_some_and, core_names, label_names, kind_named, tasks_on, all_runnables, labels_written}, ByNumber.{no_stimulus, no_task, no_runnable, task_at}}
use Rattle.cl_model.specs.{ByNumber.{stimulus_of, deadline_of, jitter_of, greatest_time, time_of}, Place.entry_of, Ranges.{IsKindInRange, IsRunnableInRange, IsTaskInRange}, Refusals.each, Timing.{IsKindOrdered, least_distance, greatest_distance, greatest_jitter, deadline_under}}
use Rattle.cl_model.specs.{ValidNames.{has_late_offset, has_no_distance, has_long_burst, offset_check, distance_check, burst_check, stimulus_checks}, ValidTasks.{core_check, stimulus_check, priority_check, late_check, release_check, room_check, empty_check, naming_checks, body_checks}}
use Rattle.cl_model.specs.{ValidTasks.{count_check, task_check}, Validity.IsValid}
use Rattle.cl_model.specs.declared.place.Part.TheVariants as part
use Rattle.cl_model.proofs.{Refused.{none_before, none_behind, when_none, each_none}, PassedChecks.{stimuli_pass, tasks_pass, naming_passes}, NoRefusals.all_none, NamesKnown.stimulus_known, RunnableChecks.times_in_order}

-- ---- stimuli

-- its numbers are in order
ordered_from : (kind : StimulusKind) → has_late_offset kind ≡ false → has_no_distance kind ≡ false → has_long_burst kind ≡ false → IsKindOrdered kind
ordered_from (Periodic period offset jitter) early some fits = leb-false period offset early
ordered_from (Sporadic least greatest) early some fits = ltb-false greatest least some
ordered_from (Burst period offset count distance) early some fits = (leb-false period offset early, ltb-false period (count * distance) fits)

pub kinds_ordered : (model : SystemModel) → IsValid model → All (λ (s : StimulusDef). IsKindOrdered s.kind) model.stimuli
unfolding stimulus_checks
kinds_ordered model valid i d h =
    let parts = all_none (each offset_check model.stimuli ∷ each distance_check model.stimuli ∷ each burst_check model.stimuli ∷ []) (stimuli_pass model valid) in
    ordered_from (get_or model.stimuli i d).kind (when_none _ _ _ (each_none offset_check model.stimuli i d parts.0 h))
    (when_none _ _ _ (each_none distance_check model.stimuli i d parts.1.0 h)) (when_none _ _ _ (each_none burst_check model.stimuli i d parts.1.1.0 h))

-- ---- distances

-- a burst that fits its period ends a distance or more before the next
burst_ends : (period count distance : ℕ) → 1 ≤ count → count * distance ≤ period → distance ≤ period - (count - 1) * distance
burst_ends period zero distance some fits = absurd (omega arith)
burst_ends period (suc count) distance some fits =
    let last : (suc count - 1) * distance ≡ count * distance = ap (λ n. n * distance) (omega arith) in
    let all : suc count * distance ≡ count * distance + distance = suc-mul count distance in
    omega (arith, last, all)

-- the least distance of a kind in order is positive and doesn't exceed the greatest
kind_distance_positive : (kind : StimulusKind) → IsKindInRange kind → 1 ≤ least_distance kind
kind_distance_positive (Periodic period offset jitter) in_range = in_range.0.0
kind_distance_positive (Sporadic least greatest) in_range = in_range.0.0
kind_distance_positive (Burst period offset count distance) in_range = in_range.3.0

kind_distances_ordered : (kind : StimulusKind) → IsKindInRange kind → IsKindOrdered kind → least_distance kind ≤ greatest_distance kind
kind_distances_ordered (Periodic period offset jitter) in_range ordered = omega arith
kind_distances_ordered (Sporadic least greatest) in_range ordered = ordered
kind_distances_ordered (Burst period offset count distance) in_range ordered = burst_ends period count distance (omega (arith, in_range.2.0)) ordered.1

-- what holds of each stimulus holds of the one that is found
found_at : (P : StimulusKind → Type 0) (stimuli : List StimulusDef) (n : ℕ) (d : StimulusKind)
    → is_some (option_map (λ (s : StimulusDef). s.kind) (slice_get stimuli n)) ≡ true
    → ((i : ℕ) (e : StimulusDef) → i < length stimuli → P (get_or stimuli i e).kind)
    → P (unwrap_or (option_map (λ (s : StimulusDef). s.kind) (slice_get stimuli n)) d)
found_at P [] n d found each = absurd (false≢true found)
found_at P (s ∷ ss) zero d found each = each 0 s (omega arith)
found_at P (s ∷ ss) (suc n) d found each = found_at P ss n d found (λ i e h. each (suc i) e (omega arith))

found : (P : StimulusKind → Type 0) (stimuli : List StimulusDef) (o : Option ℕ) (d : StimulusKind)
    → is_some (option_map (λ (s : StimulusDef). s.kind) (option_and_then (slice_get stimuli) o)) ≡ true
    → ((i : ℕ) (e : StimulusDef) → i < length stimuli → P (get_or stimuli i e).kind)
    → P (unwrap_or (option_map (λ (s : StimulusDef). s.kind) (option_and_then (slice_get stimuli) o)) d)
found P stimuli None d is each = absurd (false≢true is)
found P stimuli (Some n) d is each = found_at P stimuli n d is each

-- what holds of each stimulus holds of that of a task
pub kind_holds : (P : StimulusKind → Type 0) (model : SystemModel) → IsValid model → ((i : ℕ) (e : StimulusDef) → i < length model.stimuli → P (get_or model.stimuli i e).kind)
    → (i : ℕ) → i < length model.tasks → P (stimulus_of model i)
kind_holds P model valid each i h = found P model.stimuli _ no_stimulus (stimulus_known model valid i no_task h) each

-- where there is a value and it doesn't pass a test
pub some_fails : (o : Option StimulusKind) (test : StimulusKind → Bool) (d : StimulusKind) → is_some o ≡ true → is_some_and o test ≡ false → test (unwrap_or o d) ≡ false
some_fails None test d is h = absurd (false≢true is)
some_fails (Some k) test d is h = h

-- ---- what the checks of a task leave

record Passes (model : SystemModel) (i : ℕ) (task : TaskDef) : Type 0 where
  priority : priority_check (tasks_on task.core (take i model.tasks)) i task ≡ []
  late : late_check (kind_named model task.stimulus) i task ≡ []
  release : release_check (kind_named model task.stimulus) i task ≡ []
  room : room_check (length (tasks_on task.core (take i model.tasks))) i ≡ []
  empty : empty_check i task ≡ []

all_pass : (a b c d e f g : List Refusal) → a ++ (b ++ (c ++ (d ++ (e ++ (f ++ (g ++ [])))))) ≡ [] → (c ≡ []) × (d ≡ []) × (e ≡ []) × (f ≡ []) × (g ≡ [])
all_pass a b c d e f g none =
    let n1 = none_behind b _ (none_behind a _ none) in
    let n2 = none_behind c _ n1 in
    let n3 = none_behind d _ n2 in
    let n4 = none_behind e _ n3 in
    (none_before c _ n1, none_before d _ n2, none_before e _ n3, none_before f _ n4, none_before g _ (none_behind f _ n4))

naming : (model : SystemModel) (i : ℕ) (task : TaskDef) → naming_checks model i task ≡ [] → Passes model i task
unfolding naming_checks
naming model i task none =
    let kind = kind_named model task.stimulus in
    let earlier = tasks_on task.core (take i model.tasks) in
    let parts = all_pass (core_check (core_names model) i task) (stimulus_check kind i) (priority_check earlier i task) (late_check kind i task)
    (release_check kind i task) (room_check (length earlier) i) (empty_check i task) none in
    record { priority = parts.0; late = parts.1; release = parts.2; room = parts.3; empty = parts.4 }

-- ---- all tasks

-- all tasks together have few runnables
pub few_runnables : (model : SystemModel) → IsValid model → length (all_runnables model.tasks) ≤ MOST_RUNNABLES_OF_MODEL
unfolding task_check
few_runnables model valid =
    elim (cases_eq (length model.tasks) 0) [
      | inl none ↦ rw (empty_list model.tasks none) (omega arith)
      | inr some ↦
          let last = length model.tasks - 1 in
          let i : last < length model.tasks = omega (arith, some) in
          let task = task_at model last in
          let parts = all_none (naming_checks model last task ∷ body_checks (label_names model) (labels_written (all_runnables (take last model.tasks))) (entry_of part.Task last) task ∷ count_check model last ∷ [])
          (each_none (task_check model) model.tasks last no_task (tasks_pass model valid) i) in
          let all = take_all (last + 1) model.tasks (omega (arith, some)) in
          ltb-false _ _ (ap (λ tasks. nat_lt MOST_RUNNABLES_OF_MODEL (length (all_runnables tasks))) (sym all) ∙ when_none _ _ _ parts.1.1.0)
    ]
  where
    empty_list : (tasks : List TaskDef) → length tasks ≡ 0 → tasks ≡ []
    empty_list [] e = refl
    empty_list (task ∷ tasks) e = absurd (omega arith)

-- ---- a task

-- a task in range takes few ticks
pub time_few : (task : TaskDef) → IsTaskInRange task → greatest_time task ≤ MOST_RUNNABLES * MOST_TICKS
time_few task in_range =
    let sum = sum_by-le (λ (runnable : RunnableDef). runnable.greatest) MOST_TICKS task.runnables (λ p d lt. (in_range.runnables p d lt).greatest.1) in
    omega (arith, sum, in_range.count)

module _ (model : SystemModel) (valid : IsValid model) (i : ℕ) (h : i < length model.tasks) where
  passes : Passes model i (task_at model i)
  passes = naming model i (task_at model i) (naming_passes model (tasks_pass model valid) i no_task h)

  pub kind_ordered : IsKindOrdered (stimulus_of model i)
  kind_ordered = kind_holds IsKindOrdered model valid (kinds_ordered model valid) i h

  pub kind_in_range : IsKindInRange (stimulus_of model i)
  kind_in_range = kind_holds IsKindInRange model valid (λ n e lt. valid.in_range.stimuli n e lt) i h

  pub distance_positive : 1 ≤ least_distance (stimulus_of model i)
  distance_positive = kind_distance_positive (stimulus_of model i) kind_in_range

  pub distances_ordered : least_distance (stimulus_of model i) ≤ greatest_distance (stimulus_of model i)
  distances_ordered = kind_distances_ordered (stimulus_of model i) kind_in_range kind_ordered

  -- a job is due before the next one arrives
  pub early_enough : deadline_of model i ≤ least_distance (stimulus_of model i)
  early_enough = ltb-false _ _ (some_fails _ (λ kind. nat_lt (least_distance kind) (deadline_under kind (task_at model i))) no_stimulus
      (stimulus_known model valid i no_task h) (when_none _ _ _ passes.late))

  -- a job is released before it is due
  pub released_before : jitter_of model i < deadline_of model i
  released_before = leb-false _ _ (some_fails _ (λ kind. nat_le (deadline_under kind (task_at model i)) (greatest_jitter kind)) no_stimulus
      (stimulus_known model valid i no_task h) (when_none _ _ _ passes.release))

  pub has_runnable : 0 < length (task_at model i).runnables
  has_runnable =
      let some : length (task_at model i).runnables ≡ 0 → ⊥ = eqb-false (length (task_at model i).runnables) 0 (when_none _ _ _ passes.empty) in
      omega (arith, some)

  -- no earlier task of its core has its priority
  pub other_priorities : list_any (λ other. other.priority == (task_at model i).priority) (tasks_on (task_at model i).core (take i model.tasks)) ≡ false
  other_priorities = when_none _ _ _ passes.priority

  -- its core isn't full before it
  pub room_left : length (tasks_on (task_at model i).core (take i model.tasks)) ≡ MOST_TASKS_OF_CORE → ⊥
  room_left = eqb-false _ _ (when_none _ _ _ passes.room)

  -- ---- its runnables

  pub runnables_in_range : All IsRunnableInRange (task_at model i).runnables
  runnables_in_range = (valid.in_range.tasks i no_task h).runnables

  pub times_ordered : All (λ (runnable : RunnableDef). runnable.least ≤ runnable.greatest) (task_at model i).runnables
  times_ordered p d lt = times_in_order model valid i p d h lt

  -- a job takes time, and not too much
  pub some_time : 1 ≤ time_of model i
  some_time =
      let first = get_or-le-sum_by (λ (runnable : RunnableDef). runnable.greatest) (task_at model i).runnables 0 no_runnable has_runnable in
      omega (arith, first, (runnables_in_range 0 no_runnable has_runnable).greatest.0)

  pub little_time : time_of model i ≤ MOST_RUNNABLES * MOST_TICKS
  little_time = time_few (task_at model i) (valid.in_range.tasks i no_task h)
