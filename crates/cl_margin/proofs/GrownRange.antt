-- Where a grown model is in range: where its greatest times are, and so at each smaller percentage.
use Rattle.std.proofs.Common.{◌≡◌, ℕ, ◌<◌, ◌≤◌, inl, inr, true, cond, nat_le, length, get_or, refl, sym, ap, ◌∙◌, subst, arith}
use Rattle.std.specs.Prelude.{All}
use Rattle.std.specs.List.{range_with_len, list_all}
use Rattle.std.proofs.lemmas.Bool.{leb-true, le-leb, cases_eq, eq-eqb, ne_eqb}
use Rattle.std.proofs.lemmas.List.{length-map, get_or-map, get_or_default}
use Rattle.std.proofs.lemmas.List.Elements.{All-map}
use Rattle.std.proofs.lemmas.List.FromFn.{length-range_with_len, get_or-range_with_len}
use Rattle.std.proofs.lemmas.List.Sums.{AllPass-from_list_all, list_all-from_AllPass}
use Rattle.cl_model.specs.{declared.{limits.TheConstants.MOST_TICKS, model.SystemModel.SystemModel, task.{RunnableDef.RunnableDef, TaskDef.TaskDef}}, ByNumber.{no_task, task_at}, Ranges.{IsRunnableInRange, IsTaskInRange, IsInRange}}
use Rattle.cl_scale.specs.Scaled.{scaled_runnable, scaled_task}
use Rattle.cl_margin.specs.{declared.whose.Whose.{Whose, TheVariants.{EveryTask, OneTask}}, Grown.{percent_of, grown_greatest, grown_task, grown_by, grown}, Inner.Touched.are_times_within}
use Rattle.cl_margin.proofs.{GrownTimes.{time_rises, percent_rises}, GrownValid.{count_grown, task_grown}}

-- ---- a task

module _ (task : TaskDef) (less more : ℕ) (le : less ≤ more) where
  runnable_stays : (r : RunnableDef) → IsRunnableInRange (scaled_runnable more r) → IsRunnableInRange (scaled_runnable less r)
  runnable_stays r in_range = record {
    least = in_range.least;
    greatest = (omega (arith, in_range.least.0), omega (arith, in_range.greatest.1, time_rises less more r.least r.greatest le));
    reads = in_range.reads;
    writes = in_range.writes;
  }

  task_stays : IsTaskInRange (scaled_task more task) → IsTaskInRange (scaled_task less task)
  task_stays in_range = record {
    priority = in_range.priority;
    deadline = in_range.deadline;
    count = omega (arith, in_range.count, length-map task.runnables (scaled_runnable less), length-map task.runnables (scaled_runnable more));
    runnables = All-map IsRunnableInRange (scaled_runnable less) task.runnables
        (λ k d lt. runnable_stays (get_or task.runnables k d)
        (subst (λ (r : RunnableDef). IsRunnableInRange r) (get_or-map (scaled_runnable more) task.runnables k d d lt)
        (in_range.runnables k d (omega (arith, lt, length-map task.runnables (scaled_runnable more))))));
  }

-- ---- a grown model

module _ (model : SystemModel) (whose : Whose) (percent : ℕ) where
  -- each of its tasks is in range where the model is
  pub task_in_range : IsInRange (grown model whose percent) → (i : ℕ) → i < length model.tasks → IsTaskInRange (grown_task model (percent_of whose percent) i)
  task_in_range in_range i h =
      subst (λ (task : TaskDef). IsTaskInRange task) (task_grown model whose percent i no_task h)
      (in_range.tasks i no_task (omega (arith, h, count_grown model whose percent)))

  -- and the model where they are, and it has grown from one in range
  pub all_in_range : IsInRange model → ((i : ℕ) → i < length model.tasks → IsTaskInRange (grown_task model (percent_of whose percent) i)) → IsInRange (grown model whose percent)
  unfolding grown_by
  all_in_range in_range each = record {
    counts = record {
      cores = in_range.counts.cores;
      stimuli = in_range.counts.stimuli;
      labels = in_range.counts.labels;
      tasks = omega (arith, in_range.counts.tasks, length-map (range_with_len 0 (length model.tasks)) (grown_task model (percent_of whose percent)), length-range_with_len 0 (length model.tasks));
      chains = in_range.counts.chains;
      requirements = in_range.counts.requirements;
    };
    stimuli = in_range.stimuli;
    tasks = All-map IsTaskInRange (grown_task model (percent_of whose percent)) (range_with_len 0 (length model.tasks))
        (λ k d lt.
        let within : k < length model.tasks = omega (arith, lt, length-range_with_len 0 (length model.tasks)) in
        each (get_or (range_with_len 0 (length model.tasks)) k d) (omega (arith, within, get_or-range_with_len 0 (length model.tasks) k d within)));
    chains = in_range.chains;
    requirements = in_range.requirements;
  }

pub range_stays : (model : SystemModel) → IsInRange model → (whose : Whose) (less more : ℕ) → less ≤ more → IsInRange (grown model whose more) → IsInRange (grown model whose less)
range_stays model from whose less more le in_range = all_in_range model whose less from
    (λ i h. task_stays (task_at model i) (percent_of whose less i) (percent_of whose more i) (percent_rises whose less more le i)
    (task_in_range model whose more in_range i h))

-- ---- tests of it

-- a task in range is so at a percentage where its greatest times are
scaled_in_range : (percent : ℕ) (task : TaskDef) → IsTaskInRange task → All (λ (r : RunnableDef). grown_greatest percent r ≤ MOST_TICKS) task.runnables
    → IsTaskInRange (scaled_task percent task)
scaled_in_range percent task in_range few = record {
  priority = in_range.priority;
  deadline = in_range.deadline;
  count = omega (arith, in_range.count, length-map task.runnables (scaled_runnable percent));
  runnables = All-map IsRunnableInRange (scaled_runnable percent) task.runnables
      (λ k d lt.
      let is = in_range.runnables k d lt in
      record {
        least = is.least;
        greatest = (omega (arith, is.least.0), few k d lt);
        reads = is.reads;
        writes = is.writes;
      });
}

-- so where it passes the test of it, and only there
pub by_test : (percent : ℕ) (task : TaskDef) → IsTaskInRange task → are_times_within percent task ≡ true → IsTaskInRange (scaled_task percent task)
by_test percent task in_range passes = scaled_in_range percent task in_range
    (λ k d lt. leb-true _ _ (AllPass-from_list_all (λ (r : RunnableDef). nat_le (grown_greatest percent r) MOST_TICKS) task.runnables passes k d lt))

pub passes_test : (percent : ℕ) (task : TaskDef) → IsTaskInRange (scaled_task percent task) → are_times_within percent task ≡ true
passes_test percent task in_range = list_all-from_AllPass (λ (r : RunnableDef). nat_le (grown_greatest percent r) MOST_TICKS) task.runnables
    (λ k d lt. le-leb _ _ (subst (λ (r : RunnableDef). IsRunnableInRange r) (get_or-map (scaled_runnable percent) task.runnables k d d lt)
    (in_range.runnables k d (omega (arith, lt, length-map task.runnables (scaled_runnable percent))))).greatest.1)

-- at 100 percent it always is
whole_in_range : (task : TaskDef) → IsTaskInRange task → IsTaskInRange (scaled_task 100 task)
whole_in_range task in_range = scaled_in_range 100 task in_range
    (λ k d lt. omega (arith, (in_range.runnables k d lt).least.1, (in_range.runnables k d lt).greatest.1))

module _ (model : SystemModel) (in_range : IsInRange model) (percent : ℕ) where
  -- all tasks
  pub every_in_range : list_all (are_times_within percent) model.tasks ≡ true → IsInRange (grown model EveryTask percent)
  every_in_range passes = all_in_range model EveryTask percent in_range
      (λ i h. by_test percent (task_at model i) (in_range.tasks i no_task h) (AllPass-from_list_all (are_times_within percent) model.tasks passes i no_task h))

  pub every_passes : IsInRange (grown model EveryTask percent) → list_all (are_times_within percent) model.tasks ≡ true
  every_passes grown_in_range = list_all-from_AllPass (are_times_within percent) model.tasks
      (λ k d lt. ap (are_times_within percent) (get_or_default model.tasks k d no_task lt)
      ∙ passes_test percent (task_at model k) (task_in_range model EveryTask percent grown_in_range k lt))

  -- one task
  module _ (one : ℕ) (h : one < length model.tasks) where
    itself : percent_of (OneTask one) percent one ≡ percent
    itself = ap (λ b. cond b percent 100) (eq-eqb one one refl)

    pub one_in_range : are_times_within percent (task_at model one) ≡ true → IsInRange (grown model (OneTask one) percent)
    one_in_range passes = all_in_range model (OneTask one) percent in_range
        (λ i g. elim (cases_eq i one) [
          | inl same ↦ subst (λ j. IsTaskInRange (grown_task model (percent_of (OneTask one) percent) j)) (sym same)
              (subst (λ n. IsTaskInRange (scaled_task n (task_at model one))) (sym itself) (by_test percent (task_at model one) (in_range.tasks one no_task h) passes))
          | inr apart ↦ subst (λ n. IsTaskInRange (scaled_task n (task_at model i))) (sym (ap (λ b. cond b percent 100) (ne_eqb i one apart)))
              (whole_in_range (task_at model i) (in_range.tasks i no_task g))
        ])

    pub one_passes : IsInRange (grown model (OneTask one) percent) → are_times_within percent (task_at model one) ≡ true
    one_passes grown_in_range = passes_test percent (task_at model one)
        (subst (λ n. IsTaskInRange (scaled_task n (task_at model one))) itself (task_in_range model (OneTask one) percent grown_in_range one h))
