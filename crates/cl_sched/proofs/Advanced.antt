-- How far the tasks of a core have come after further entries.
use Rattle.std.proofs.Common.{◌≡◌, ◌≢◌, ℕ, ◌+◌, ◌<◌, ◌≤◌, inl, inr, Option, Some, None, List, ◌++◌, replicate, length, refl, sym, ap, ◌∙◌, subst, arith, length-append}
use Rattle.std.specs.Option.{option_map}
use Rattle.std.proofs.lemmas.Bool.{cases_eq}
use Rattle.std.proofs.lemmas.List.{length-replicate}
use Rattle.cl_runs.specs.{TaskTiming.{System, timing_at}, declared.job.JobTable.JobTable, Table.table_jobs}
use Rattle.cl_sched.specs.{declared.{progress.Progress.Progress, core_progress.{CoreProgress.CoreProgress, Next.Next, Waiting.Waiting}}, Progress.{IsAtRunnable, HasComeTo}, CoreProgress.{ticks_of, progress_at, IsOfCore, StandsAmong, AreOfCore, Holds, AreWaiting, IsBestOf, IsChoice}}
use Rattle.cl_sched.specs.{CoreProgress.{IsReached, IsNext}, Inner.Executing.HasExecuted}
use Rattle.cl_sched.proofs.{Standing.{some_job_released, some_job_holds}, Steady.{own_ticks, others_ticks, idle_ticks}}

-- the same progress, after as many ticks of the task
of_core_along : (system : System) (table : JobTable) (core : ℕ) (entries further : List (Option ℕ)) (progress : Progress)
    → ticks_of entries progress.task ≡ ticks_of further progress.task → IsOfCore system table core entries progress
    → IsOfCore system table core further progress
of_core_along system table core entries further progress same of = record {
  is_task = of.is_task;
  on_core = of.on_core;
  priority = of.priority;
  has_come = subst (λ n. HasComeTo (table_jobs table progress.task) n progress) same of.has_come;
}

longer : (entries : List (Option ℕ)) (n tick : ℕ) (who : Option ℕ) → tick ≡ length entries → tick + n ≡ length (entries ++ replicate n who)
longer entries n tick who is = omega (arith, length-append entries (replicate n who), length-replicate n who)

module _ (system : System) (table : JobTable) (core : ℕ) (entries : List (Option ℕ)) (old : CoreProgress) (at : IsReached system table core entries old) where
  -- where the core idles, no task comes further
  pub reached_idle : (n until : ℕ) (waiting : Waiting) → until ≡ old.tick + n → AreWaiting old.tasks.items waiting
      → IsReached system table core (entries ++ replicate n None) (record old { tick = until; waiting = waiting })
  reached_idle n until waiting is wait = record {
    tick = is ∙ longer entries n old.tick None at.tick;
    tasks = record {
      each = λ index h. of_core_along system table core entries (entries ++ replicate n None) (progress_at old.tasks.items index)
          (sym (idle_ticks entries n (progress_at old.tasks.items index).task)) (at.tasks.each index h);
      all = at.tasks.all;
      once = at.tasks.once;
    };
    held = at.held;
    falling = at.falling;
    waiting = wait;
  }

  module _ (index n : ℕ) (new : CoreProgress) (executed : HasExecuted system table index n old new) (within : index < length old.tasks.items)
      (standing : IsAtRunnable (table_jobs table (progress_at old.tasks.items index).task) (ticks_of entries (progress_at old.tasks.items index).task)
      (progress_at old.tasks.items index))
      (alone : (other : ℕ) → old.held ≡ Some other → other ≡ index) where
    abbrev before : ℕ → Progress
    before k = progress_at old.tasks.items k

    abbrev after : ℕ → Progress
    after k = progress_at new.tasks.items k

    abbrev further : List (Option ℕ)
    further = entries ++ replicate n (Some (before index).task)

    -- each has the task that it had
    same_task : (k : ℕ) → (after k).task ≡ (before k).task
    same_task k = elim (cases_eq k index) [
      | inl is ↦ ap (λ i. (after i).task) is ∙ executed.task ∙ sym (ap (λ i. (before i).task) is)
      | inr other ↦ ap (λ (p : Progress). p.task) (executed.others k other)
    ]

    own_of_core : IsOfCore system table core further (after index)
    own_of_core =
        let of = at.tasks.each index within in
        record {
          is_task = omega (arith, executed.task, of.is_task);
          on_core = ap (λ i. (timing_at system i).core) executed.task ∙ of.on_core;
          priority = executed.priority ∙ of.priority ∙ sym (ap (λ i. (timing_at system i).priority) executed.task);
          has_come = subst (λ i. HasComeTo (table_jobs table i) (ticks_of further i) (after index)) (sym executed.task)
              (subst (λ m. HasComeTo (table_jobs table (before index).task) m (after index))
              (sym (own_ticks entries n (before index).task (before index).task refl))
              (executed.further (ticks_of entries (before index).task) standing));
        }

    other_of_core : (k : ℕ) → k < length old.tasks.items → k ≢ index → IsOfCore system table core further (after k)
    other_of_core k h apart = subst (λ (p : Progress). IsOfCore system table core further p) (sym (executed.others k apart))
        (of_core_along system table core entries further (before k)
        (sym (others_ticks entries n (before k).task (before index).task (λ same. apart (at.tasks.once k index h within (sym same)))))
        (at.tasks.each k h))

    each_of_core : (k : ℕ) → k < length new.tasks.items → IsOfCore system table core further (after k)
    each_of_core k h = elim (cases_eq k index) [
      | inl is ↦ subst (λ i. IsOfCore system table core further (after i)) (sym is) own_of_core
      | inr other ↦ other_of_core k (omega (arith, h, executed.as_many)) other
    ]

    listed : (task : ℕ) → StandsAmong task old.tasks.items → StandsAmong task new.tasks.items
    listed task there = record {
      index = there.index;
      within = omega (arith, there.within, executed.as_many);
      is = same_task there.index ∙ there.is;
    }

    all_of_core : AreOfCore system table core further new.tasks.items
    all_of_core = record {
      each = each_of_core;
      all = λ task is on. listed task (at.tasks.all task is on);
      once = λ one other h_one h_other same.
          at.tasks.once one other (omega (arith, h_one, executed.as_many)) (omega (arith, h_other, executed.as_many))
          (sym (same_task one) ∙ same ∙ same_task other);
    }

    -- and the priority
    same_priority : (k : ℕ) → (after k).priority ≡ (before k).priority
    same_priority k = elim (cases_eq k index) [
      | inl is ↦ ap (λ i. (after i).priority) is ∙ executed.priority ∙ sym (ap (λ i. (before i).priority) is)
      | inr other ↦ ap (λ (p : Progress). p.priority) (executed.others k other)
    ]

    held_one : (k : ℕ) → k < length new.tasks.items → Holds system table (after k) → new.held ≡ Some k
    held_one k h holds = elim (cases_eq k index) [
      | inl is ↦ (executed.held k).1 (is, subst (λ i. Holds system table (after i)) is holds)
      | inr other ↦ absurd (other (alone k (at.held.alone k (omega (arith, h, executed.as_many))
          (subst (λ (p : Progress). Holds system table p) (executed.others k other) holds))))
    ]

    -- where the task at an index goes on, it comes further
    pub reached_further : (until : ℕ) (waiting : Waiting) → until ≡ old.tick + n → AreWaiting old.tasks.items waiting → waiting.count ≤ index
        → IsReached system table core further (record new { tick = until; waiting = waiting })
    reached_further until waiting is wait behind = record {
      tick = is ∙ longer entries n old.tick (Some (before index).task) at.tick;
      tasks = all_of_core;
      held = record {
        within = λ k some. let both = (executed.held k).0 some in omega (arith, both.0, within, executed.as_many);
        holds = λ k some.
            let both = (executed.held k).0 some in
            subst (λ i. Holds system table (after i)) (sym both.0) both.1;
        alone = held_one;
      };
      falling = λ one other h within.
          omega (arith, same_priority one, same_priority other, at.falling one other h (omega (arith, within, executed.as_many)));
      waiting = record {
        within = omega (arith, wait.within, executed.as_many);
        each = λ k h.
            omega (arith, wait.each k h, ap (λ (p : Progress). p.release) (executed.others k (λ is. omega (arith, h, behind, is))));
      };
    }

-- ---- the one that goes on

module _ (system : System) (table : JobTable) (core : ℕ) (entries : List (Option ℕ)) (old : CoreProgress) (at : IsReached system table core entries old)
    (next : Next) (is_next : IsNext old next) (index : ℕ) (chosen : next.chosen ≡ Some index) where
  pub is_within : index < length old.tasks.items
  is_within = is_next.in_list index chosen

  pub task_within : (progress_at old.tasks.items index).task < length system.tasks
  task_within = (at.tasks.each index is_within).is_task

  pub task_on : (timing_at system (progress_at old.tasks.items index).task).core ≡ core
  task_on = (at.tasks.each index is_within).on_core

  standing_of : (held : Option ℕ) → old.held ≡ held → IsChoice old.tasks.items held old.tick next.chosen next.until
      → IsAtRunnable (table_jobs table (progress_at old.tasks.items index).task) (ticks_of entries (progress_at old.tasks.items index).task)
      (progress_at old.tasks.items index)
  standing_of None is choice =
      let best : IsBestOf old.tasks.items (length old.tasks.items) old.tick (Some index)
      = subst (λ e. IsBestOf old.tasks.items (length old.tasks.items) old.tick e) chosen choice.0 in
      some_job_released _ _ (progress_at old.tasks.items index) old.tick (omega (arith, is_next.some, is_next.fits)) best.1
      (at.tasks.each index is_within).has_come
  standing_of (Some other) is choice =
      let same : other ≡ index = cc in
      some_job_holds _ _ (progress_at old.tasks.items index) (timing_at system (progress_at old.tasks.items index).task)
      (at.held.holds index (is ∙ ap Some same)) (at.tasks.each index is_within).has_come

  pub standing_there : IsAtRunnable (table_jobs table (progress_at old.tasks.items index).task) (ticks_of entries (progress_at old.tasks.items index).task)
      (progress_at old.tasks.items index)
  standing_there = standing_of old.held refl is_next.choice

  held_is : (held : Option ℕ) → old.held ≡ held → IsChoice old.tasks.items held old.tick next.chosen next.until
      → (other : ℕ) → old.held ≡ Some other → other ≡ index
  held_is None is choice other held = cc
  held_is (Some first) is choice other held = cc

  pub held_alone : (other : ℕ) → old.held ≡ Some other → other ≡ index
  held_alone = held_is old.held refl is_next.choice

  pub runs : next.who ≡ Some (progress_at old.tasks.items index).task
  runs = is_next.who ∙ ap (option_map (λ k. (progress_at old.tasks.items k).task)) chosen

-- the same said of equal entries and an equal state
pub reached_along : (system : System) (table : JobTable) (core : ℕ) (entries : List (Option ℕ)) (n : ℕ) (one who : Option ℕ) (until : ℕ)
    (waiting : Waiting) (old new : CoreProgress) → who ≡ one → old ≡ new
    → IsReached system table core (entries ++ replicate n one) (record old { tick = until; waiting = waiting })
    → IsReached system table core (entries ++ replicate n who) (record new { tick = until; waiting = waiting })
reached_along system table core entries n one who until waiting old new same is at =
    subst (λ (state : CoreProgress). IsReached system table core (entries ++ replicate n who) (record state { tick = until; waiting = waiting })) is
    (subst (λ e. IsReached system table core (entries ++ replicate n e) (record old { tick = until; waiting = waiting })) (sym same) at)

-- where no task is chosen, the core idles
pub idles : (old : CoreProgress) (next : Next) → IsNext old next → next.chosen ≡ None → next.who ≡ None
idles old next is_next none = is_next.who ∙ ap (option_map (λ k. (progress_at old.tasks.items k).task)) none
