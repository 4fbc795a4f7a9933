-- What a core does next goes on to be what is scheduled: until an event comes, or the runnable is finished.
use Rattle.std.proofs.Common.{◌≡◌, ℕ, ◌+◌, ◌-◌, ◌^◌, ◌<◌, ◌≤◌, inl, inr, Option, Some, None, cond, List, ◌++◌, replicate, length, refl, sym, ap, ◌∙◌, subst, arith}
use Rattle.std.specs.Option.{option_map}
use Rattle.std.proofs.lemmas.Bool.{cases_lt, cases_eq, eq-eqb, ne_eqb}
use Rattle.cl_runs.specs.{TaskTiming.{System, timing_at, IsSound}, declared.job.JobTable.JobTable, Table.table_jobs, Legal.{released, IsTaskHeld, IsFirstHeld, IsNoneHeld, IsNonePending, IsScheduled}}
use Rattle.cl_runs.proofs.{Executed.count_appended, HeldTasks.{held_or_not, held_moved}}
use Rattle.cl_sched.specs.{declared.{progress.Progress.Progress, core_progress.{CoreProgress.CoreProgress, Next.Next}}, CoreProgress.{IsLawfulAt, ticks_of, progress_at, Holds, IsBestOf, AreSteadyOf, AreSteadyAbove, IsChoice, IsReached, IsNext}}
use Rattle.cl_sched.proofs.{LawfulTables.{places, in_order}, Standing.{later, pending, holding_held, not_yet_pending, is_held, some_job_released, some_job_holds}}

-- ---- the ticks of a task, after further entries

pub own_ticks : (entries : List (Option ℕ)) (n task who : ℕ) → who ≡ task
    → ticks_of (entries ++ replicate n (Some who)) task ≡ ticks_of entries task + n
own_ticks entries n task who same = count_appended task entries n (Some who)
    ∙ ap (λ b. ticks_of entries task + cond b n 0) (eq-eqb who task same)

pub others_ticks : (entries : List (Option ℕ)) (n task who : ℕ) → (who ≡ task → ⊥)
    → ticks_of (entries ++ replicate n (Some who)) task ≡ ticks_of entries task
others_ticks entries n task who other = omega (
  arith,
  count_appended task entries n (Some who),
  ap (λ b. ticks_of entries task + cond b n 0) (ne_eqb who task other),
)

pub idle_ticks : (entries : List (Option ℕ)) (n task : ℕ) → ticks_of (entries ++ replicate n None) task ≡ ticks_of entries task
idle_ticks entries n task = omega (arith, count_appended task entries n None)

module _ (system : System) (sound : IsSound system) (core : ℕ) (table : JobTable) (lawful : IsLawfulAt system core table) (entries : List (Option ℕ))
    (reached : CoreProgress) (at : IsReached system table core entries reached) where
  abbrev progress : ℕ → Progress
  progress index = progress_at reached.tasks.items index

  abbrev task : ℕ → ℕ
  task index = (progress index).task

  abbrev IsIndex : ℕ → Type 0
  IsIndex index = index < length reached.tasks.items

  -- a task that hasn't run since isn't held, but for the one that is
  kept_held : (index : ℕ) → IsIndex index → (done : ℕ → ℕ) → done (task index) ≡ ticks_of entries (task index)
      → IsTaskHeld system table done (task index) → reached.held ≡ Some index
  kept_held index within done same held =
      let of = at.tasks.each index within in
      at.held.alone index within
      (is_held (table_jobs table (task index)) (ticks_of entries (task index)) (progress index) (timing_at system (task index))
      (places system sound core table lawful (task index) of.is_task of.on_core) of.has_come
      ((held_moved (timing_at system (task index)) (table_jobs table (task index)) _ _ _ refl same).0 held))

  -- nor is it pending, but where it is released
  kept_pending : (index : ℕ) → IsIndex index → (t n : ℕ) → n ≡ ticks_of entries (task index) → t < (progress index).release
      → n < released (table_jobs table (task index)) t → ⊥
  kept_pending index within t n same early more =
      let of = at.tasks.each index within in
      not_yet_pending (table_jobs table (task index)) (ticks_of entries (task index)) (progress index)
      (in_order system sound core table lawful (task index) of.is_task of.on_core) t of.has_come early (omega (arith, more, same))

  -- ---- where no task goes on

  module _ (done : ℕ → ℕ) (same : (i : ℕ) → done i ≡ ticks_of entries i) (t until : ℕ)
      (none : reached.held ≡ None) (first : reached.tick ≤ t) (before : t < until)
      (best : IsBestOf reached.tasks.items (length reached.tasks.items) reached.tick None)
      (steady : AreSteadyOf reached.tasks.items (length reached.tasks.items) reached.tick until) where
    idle_none_held : IsNoneHeld system table done core
    idle_none_held = record {
      none = λ i is on held.
          let listed = at.tasks.all i is on in
          not_some (kept_held listed.index listed.within done (same (task listed.index))
          (subst (λ j. IsTaskHeld system table done j) (sym listed.is) held));
    }
      where
        not_some : {index : ℕ} → reached.held ≡ Some index → ⊥
        not_some some = let e : None ≡ Some _ = sym none ∙ some in cc

    idle_none_pending : IsNonePending system table done t core
    idle_none_pending = record {
      none = λ i is on more.
          let listed = at.tasks.all i is on in
          kept_pending listed.index listed.within t (done (task listed.index)) (same (task listed.index))
          (omega (arith, before, steady listed.index listed.within (best listed.index listed.within)))
          (subst (λ j. done j < released (table_jobs table j) t) (sym listed.is) more);
    }

    pub idle_scheduled : IsScheduled system table done t core None
    idle_scheduled = (idle_none_held, idle_none_pending)

  -- ---- where a task goes on

  module _ (index : ℕ) (within : IsIndex index) (done : ℕ → ℕ) (n t : ℕ)
      (own : done (task index) ≡ ticks_of entries (task index) + n)
      (others : (i : ℕ) → (task index ≡ i → ⊥) → done i ≡ ticks_of entries i) where
    abbrev IsOther : ℕ → Type 0
    IsOther other = index ≡ other → ⊥

    other_task : (other : ℕ) → IsIndex other → IsOther other → task index ≡ task other → ⊥
    other_task other there apart same = apart (at.tasks.once index other within there same)

    other_held : (other : ℕ) → IsIndex other → IsOther other → IsTaskHeld system table done (task other) → reached.held ≡ Some other
    other_held other there apart held = kept_held other there done (others (task other) (other_task other there apart)) held

    -- where the held tasks are at an index, a task that is held is the one there, if no other was held
    held_is : ((other : ℕ) → reached.held ≡ Some other → index ≡ other) → (i : ℕ) → i < length system.tasks → (timing_at system i).core ≡ core
        → IsTaskHeld system table done i → i ≡ task index
    held_is alone i is on held =
        let listed = at.tasks.all i is on in
        let there : IsTaskHeld system table done (task listed.index) = subst (λ j. IsTaskHeld system table done j) (sym listed.is) held in
        elim (cases_eq index listed.index) [
          | inl same ↦ sym listed.is ∙ ap task (sym same)
          | inr apart ↦ absurd (apart (alone listed.index (other_held listed.index listed.within apart there)))
        ]

    first_held : ((other : ℕ) → reached.held ≡ Some other → index ≡ other) → IsTaskHeld system table done (task index)
        → IsFirstHeld system table done core (task index)
    first_held alone held =
        let of = at.tasks.each index within in
        record {
          is_task = of.is_task;
          on_core = of.on_core;
          held = held;
          least = λ i is on other. omega (arith, held_is alone i is on other);
        }

    -- a held task stays held
    stays_held : Holds system table (progress index) → n < (progress index).left → IsTaskHeld system table done (task index)
    stays_held holding left =
        let of = at.tasks.each index within in
        let jobs = table_jobs table (task index) in
        let here = some_job_holds jobs (ticks_of entries (task index)) (progress index) (timing_at system (task index)) holding of.has_come in
        (held_moved (timing_at system (task index)) jobs jobs _ _ refl (sym own)).0
        (holding_held jobs (ticks_of entries (task index) + n) (record (progress index) { left = (progress index).left - n })
        (later jobs (ticks_of entries (task index)) (progress index) here n left) (timing_at system (task index))
        (places system sound core table lawful (task index) of.is_task of.on_core)
        (record { in_table = holding.in_table; is_whole = holding.is_whole; begun = omega (arith, holding.begun) }))

    pub held_scheduled : reached.held ≡ Some index → n < (progress index).left → IsScheduled system table done t core (Some (task index))
    held_scheduled is left = inl (first_held alone (stays_held (at.held.holds index is) left))
      where
        alone : (other : ℕ) → reached.held ≡ Some other → index ≡ other
        alone other held = let e : Some index ≡ Some other = sym is ∙ held in cc

    -- ---- the best of the released tasks

    module _ (none : reached.held ≡ None) (left : n < (progress index).left) (until : ℕ) (fits : reached.tick < 2 ^ 64 - 1)
        (first : reached.tick ≤ t) (before : t < until)
        (best : IsBestOf reached.tasks.items (length reached.tasks.items) reached.tick (Some index))
        (steady : AreSteadyAbove reached.tasks.items (Some index) reached.tick until) where
      none_alone : (other : ℕ) → reached.held ≡ Some other → index ≡ other
      none_alone other held = let e : None ≡ Some other = sym none ∙ held in cc

      goes_on_pending : done (task index) < released (table_jobs table (task index)) t
      goes_on_pending =
          let of = at.tasks.each index within in
          let jobs = table_jobs table (task index) in
          let here = some_job_released jobs (ticks_of entries (task index)) (progress index) reached.tick fits best.1 of.has_come in
          omega (
            arith,
            own,
            pending jobs (ticks_of entries (task index) + n) (record (progress index) { left = (progress index).left - n })
                (later jobs (ticks_of entries (task index)) (progress index) here n left) (in_order system sound core table lawful (task index) of.is_task of.on_core) t
                (omega (arith, first, best.1)),
          )

      no_higher : (i : ℕ) → i < length system.tasks → (timing_at system i).core ≡ core → done i < released (table_jobs table i) t
          → (timing_at system i).priority ≤ (timing_at system (task index)).priority
      no_higher i is on more =
          let listed = at.tasks.all i is on in
          let of = at.tasks.each index within in
          let of_other = at.tasks.each listed.index listed.within in
          let there : done (task listed.index) < released (table_jobs table (task listed.index)) t
          = subst (λ j. done j < released (table_jobs table j) t) (sym listed.is) more in
          let priority : (timing_at system i).priority ≡ (progress listed.index).priority
          = sym (of_other.priority ∙ ap (λ j. (timing_at system j).priority) listed.is) in
          elim (cases_eq index listed.index) [
            | inl same ↦ omega (arith, priority, of.priority, ap (λ k. (progress k).priority) same)
            | inr apart ↦ elim (cases_lt reached.tick (progress listed.index).release) [
              | inl unreleased ↦ elim (cases_lt (progress index).priority (progress listed.index).priority) [
                | inl higher ↦ absurd (kept_pending listed.index listed.within t (done (task listed.index))
                    (others (task listed.index) (other_task listed.index listed.within apart))
                    (omega (arith, before, steady listed.index listed.within unreleased higher)) there)
                | inr lower ↦ omega (arith, priority, of.priority, lower)
              ]
              | inr there ↦ omega (arith, priority, of.priority, best.2 listed.index listed.within there)
            ]
          ]

      pub best_scheduled : IsScheduled system table done t core (Some (task index))
      best_scheduled =
          let of = at.tasks.each index within in
          elim (held_or_not (timing_at system (task index)) (table_jobs table (task index)) (done (task index))) [
            | inl held ↦ inl (first_held none_alone held)
            | inr free ↦ inr (
              record { none = λ i is on held. free (subst (λ j. IsTaskHeld system table done j) (held_is none_alone i is on held) held) },
              record { is_task = of.is_task; on_core = of.on_core; pending = goes_on_pending; highest = no_higher },
            )
          ]

  -- ---- in each case

  module _ (next : Next) (is_next : IsNext reached next) (n : ℕ) (before : length entries + n < next.until) where
    abbrev t : ℕ
    t = length entries + n

    first : reached.tick ≤ t
    first = omega (arith, at.tick)

    abbrev further : List (Option ℕ)
    further = entries ++ replicate n next.who

    fits_below : reached.tick < 2 ^ 64 - 1
    fits_below = omega (arith, is_next.some, is_next.fits)

    chosen_scheduled : (held chosen : Option ℕ) → reached.held ≡ held → next.chosen ≡ chosen
        → IsChoice reached.tasks.items held reached.tick chosen next.until
        → IsScheduled system table (ticks_of further) t core (option_map task chosen)
    chosen_scheduled (Some index) None is_held is_chosen choice = cc
    chosen_scheduled None None is_held is_chosen choice = idle_scheduled (ticks_of further)
        (λ i. ap (λ who. ticks_of (entries ++ replicate n who) i) (is_next.who ∙ ap (option_map task) is_chosen)
        ∙ idle_ticks entries n i)
        t next.until is_held first before choice.0 choice.1
    chosen_scheduled held (Some index) is_held is_chosen choice = by_held held is_held choice
      where
        within : IsIndex index
        within = is_next.in_list index is_chosen

        left : n < (progress index).left
        left = omega (arith, at.tick, before, is_next.within_left index is_chosen)

        who : next.who ≡ Some (task index)
        who = is_next.who ∙ ap (option_map task) is_chosen

        own : ticks_of further (task index) ≡ ticks_of entries (task index) + n
        own = ap (λ (e : Option ℕ). ticks_of (entries ++ replicate n e) (task index)) who
            ∙ own_ticks entries n (task index) (task index) refl

        others : (i : ℕ) → (task index ≡ i → ⊥) → ticks_of further i ≡ ticks_of entries i
        others i apart = ap (λ (e : Option ℕ). ticks_of (entries ++ replicate n e) i) who
            ∙ others_ticks entries n i (task index) apart

        by_held : (held : Option ℕ) → reached.held ≡ held → IsChoice reached.tasks.items held reached.tick (Some index) next.until
            → IsScheduled system table (ticks_of further) t core (Some (task index))
        by_held (Some other) is choice = held_scheduled index within (ticks_of further) n t own others (is ∙ sym choice) left
        by_held None is choice = best_scheduled index within (ticks_of further) n t own others is left next.until fits_below
            first before choice.0 choice.1

    pub goes_on_scheduled : IsScheduled system table (ticks_of further) t core next.who
    goes_on_scheduled = subst (λ e. IsScheduled system table (ticks_of further) t core e) (sym is_next.who)
        (chosen_scheduled reached.held next.chosen refl refl is_next.choice)
