-- Scaled times: where they stay in range, and what a scaled model says of its tasks by their numbers.
use Rattle.std.proofs.Common.{◌≡◌, ℕ, zero, suc, ◌+◌, Bool, true, cond, List, [], ◌∷◌, length, get_or, map, refl, sym, ap, ◌∙◌, arith}
use Rattle.std.specs.Prelude.{◌==◌, All, filter}
use Rattle.std.specs.List.{list_all, range_with_len}
use Rattle.std.proofs.lemmas.Bool.{leb-true, le-leb}
use Rattle.std.proofs.lemmas.List.{length-map}
use Rattle.std.proofs.lemmas.List.Elements.{All-nil, All-cons, All-head, All-tail}
use Rattle.std.proofs.lemmas.List.Folds.{fold-map}
use Rattle.cl_model.specs.{declared.{model.SystemModel.SystemModel, stimulus.StimulusKind.StimulusKind, task.{RunnableDef.RunnableDef, TaskDef.TaskDef}}, ByNumber.{no_task, task_at, core_number, stimulus_kind, core_of, stimulus_of, deadline_of, jitter_of, greatest_time, time_of}}
use Rattle.cl_model.specs.{ByNumber.tasks_of_core, Ranges.{IsRunnableInRange, IsTaskInRange, IsInRange}, Timing.{greatest_jitter, deadline_under}}
use Rattle.cl_model.proofs.ListFacts.{both_pass, both_true}
use Rattle.cl_scale.specs.Scaled.{scaled_runnable, scaled_task, scaled}
use Rattle.cl_tune.specs.{declared.times.TaskTimes.TaskTimes, Inner.Times.{stays_within, are_within, scaled_times, no_times, times_at}}

-- ---- lists

-- what stands at a place of a mapped list, also past its end
mapped_at : {X Y : Type 0} (f : X → Y) (d : X) (xs : List X) (i : ℕ) → get_or (map f xs) i (f d) ≡ f (get_or xs i d)
mapped_at f d [] i = refl
mapped_at f d (x ∷ xs) zero = refl
mapped_at f d (x ∷ xs) (suc i) = mapped_at f d xs i

-- two tests that agree pass the same
pub filters_agree : {X : Type 0} (p q : X → Bool) → ((x : X) → p x ≡ q x) → (xs : List X) → filter p xs ≡ filter q xs
filters_agree p q same [] = refl
filters_agree p q same (x ∷ xs) =
    ap (λ b. cond b (x ∷ filter p xs) (filter p xs)) (same x)
    ∙ ap (λ list. cond (q x) (x ∷ list) list) (filters_agree p q same xs)

module _ (percent : ℕ) where
  -- ---- ranges

  runnable_in_range : (r : RunnableDef) → IsRunnableInRange r → stays_within percent r ≡ true → IsRunnableInRange (scaled_runnable percent r)
  runnable_in_range r in_range within = record {
    least = in_range.least;
    greatest = (omega (arith, in_range.least.0), leb-true _ _ within);
    reads = in_range.reads;
    writes = in_range.writes;
  }

  runnables_in_range : (rs : List RunnableDef) → All IsRunnableInRange rs → list_all (stays_within percent) rs ≡ true → All IsRunnableInRange (map (scaled_runnable percent) rs)
  runnables_in_range [] in_range within = All-nil IsRunnableInRange
  runnables_in_range (r ∷ rs) in_range within =
      let parts = both_pass (stays_within percent r) (list_all (stays_within percent) rs) within in
      All-cons IsRunnableInRange (scaled_runnable percent r) (map (scaled_runnable percent) rs)
      (runnable_in_range r (All-head IsRunnableInRange r rs in_range) parts.0) (runnables_in_range rs (All-tail IsRunnableInRange r rs in_range) parts.1)

  runnables_within : (rs : List RunnableDef) → All IsRunnableInRange (map (scaled_runnable percent) rs) → list_all (stays_within percent) rs ≡ true
  runnables_within [] in_range = refl
  runnables_within (r ∷ rs) in_range =
      both_true (stays_within percent r) (list_all (stays_within percent) rs)
      (le-leb _ _ (All-head IsRunnableInRange (scaled_runnable percent r) (map (scaled_runnable percent) rs) in_range).greatest.1)
      (runnables_within rs (All-tail IsRunnableInRange (scaled_runnable percent r) (map (scaled_runnable percent) rs) in_range))

  task_in_range : (t : TaskDef) → IsTaskInRange t → are_within percent t ≡ true → IsTaskInRange (scaled_task percent t)
  task_in_range t in_range within = record {
    priority = in_range.priority;
    deadline = in_range.deadline;
    count = omega (arith, in_range.count, length-map t.runnables (scaled_runnable percent));
    runnables = runnables_in_range t.runnables in_range.runnables within;
  }

  tasks_in_range : (ts : List TaskDef) → All IsTaskInRange ts → list_all (are_within percent) ts ≡ true → All IsTaskInRange (map (scaled_task percent) ts)
  tasks_in_range [] in_range within = All-nil IsTaskInRange
  tasks_in_range (t ∷ ts) in_range within =
      let parts = both_pass (are_within percent t) (list_all (are_within percent) ts) within in
      All-cons IsTaskInRange (scaled_task percent t) (map (scaled_task percent) ts)
      (task_in_range t (All-head IsTaskInRange t ts in_range) parts.0) (tasks_in_range ts (All-tail IsTaskInRange t ts in_range) parts.1)

  tasks_within : (ts : List TaskDef) → All IsTaskInRange (map (scaled_task percent) ts) → list_all (are_within percent) ts ≡ true
  tasks_within [] in_range = refl
  tasks_within (t ∷ ts) in_range =
      both_true (are_within percent t) (list_all (are_within percent) ts)
      (runnables_within t.runnables (All-head IsTaskInRange (scaled_task percent t) (map (scaled_task percent) ts) in_range).runnables)
      (tasks_within ts (All-tail IsTaskInRange (scaled_task percent t) (map (scaled_task percent) ts) in_range))

module _ (model : SystemModel) (percent : ℕ) where
  abbrev made : SystemModel
  made = scaled model percent

  -- a scaled model is in range where its greatest times are
  pub scaled_in_range : IsInRange model → list_all (are_within percent) model.tasks ≡ true → IsInRange made
  unfolding scaled
  scaled_in_range in_range within = record {
    counts = record {
      cores = in_range.counts.cores;
      stimuli = in_range.counts.stimuli;
      labels = in_range.counts.labels;
      tasks = omega (arith, in_range.counts.tasks, length-map model.tasks (scaled_task percent));
      chains = in_range.counts.chains;
      requirements = in_range.counts.requirements;
    };
    stimuli = in_range.stimuli;
    tasks = tasks_in_range percent model.tasks in_range.tasks within;
    chains = in_range.chains;
    requirements = in_range.requirements;
  }

  pub scaled_within : IsInRange made → list_all (are_within percent) model.tasks ≡ true
  unfolding scaled
  scaled_within in_range = tasks_within percent model.tasks in_range.tasks

  -- ---- by number

  pub count_kept : length made.tasks ≡ length model.tasks
  unfolding scaled
  count_kept = length-map model.tasks (scaled_task percent)

  no_task_kept : scaled_task percent no_task ≡ no_task
  unfolding no_task
  no_task_kept = refl

  pub task_is : (i : ℕ) → task_at made i ≡ scaled_task percent (task_at model i)
  unfolding scaled
  task_is i = ap (get_or (map (scaled_task percent) model.tasks) i) (sym no_task_kept) ∙ mapped_at (scaled_task percent) no_task model.tasks i

  pub core_is : (i : ℕ) → core_of made i ≡ core_of model i
  unfolding scaled
  core_is i = ap (λ (t : TaskDef). core_number model t) (task_is i)

  pub stimulus_is : (i : ℕ) → stimulus_of made i ≡ stimulus_of model i
  unfolding scaled
  stimulus_is i = ap (λ (t : TaskDef). stimulus_kind model t) (task_is i)

  pub priority_is : (i : ℕ) → (task_at made i).priority ≡ (task_at model i).priority
  priority_is i = ap (λ (t : TaskDef). t.priority) (task_is i)

  pub deadline_is : (i : ℕ) → deadline_of made i ≡ deadline_of model i
  deadline_is i =
      ap (λ (kind : StimulusKind). deadline_under kind (task_at made i)) (stimulus_is i)
      ∙ ap (λ (t : TaskDef). deadline_under (stimulus_of model i) t) (task_is i)

  pub jitter_is : (i : ℕ) → jitter_of made i ≡ jitter_of model i
  jitter_is i = ap (λ (kind : StimulusKind). greatest_jitter kind) (stimulus_is i)

  on_core : (core : ℕ) → tasks_of_core made core ≡ tasks_of_core model core
  on_core core =
      ap (λ n. filter (λ i. core_of made i == core) (range_with_len 0 n)) count_kept
      ∙ filters_agree (λ i. core_of made i == core) (λ i. core_of model i == core) (λ i. ap (λ c. c == core) (core_is i)) (range_with_len 0 (length model.tasks))

  pub others_are : (i : ℕ) → tasks_of_core made (core_of made i) ≡ tasks_of_core model (core_of model i)
  others_are i = on_core (core_of made i) ∙ ap (tasks_of_core model) (core_is i)

  -- ---- times

  abbrev pub times : List TaskTimes
  times = map (scaled_times percent) model.tasks

  no_times_kept : scaled_times percent no_task ≡ no_times
  unfolding no_task no_times
  no_times_kept = refl

  pub times_are : (i : ℕ) → times_at times i ≡ scaled_times percent (task_at model i)
  times_are i = ap (get_or times i) (sym no_times_kept) ∙ mapped_at (scaled_times percent) no_task model.tasks i

  pub time_is : (i : ℕ) → time_of made i ≡ (times_at times i).time
  time_is i =
      ap (λ (t : TaskDef). greatest_time t) (task_is i)
      ∙ fold-map (λ (a : ℕ) (r : RunnableDef). a + r.greatest) (scaled_runnable percent) 0 (task_at model i).runnables
      ∙ sym (ap (λ (t : TaskTimes). t.time) (times_are i))
