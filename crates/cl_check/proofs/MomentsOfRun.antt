-- The moments that walks find are the starts and finishes of a run whose jobs take time.
use Rattle.std.proofs.Common.{◌≡◌, ℕ, suc, ◌-◌, ◌<◌, ◌≤◌, inl, inr, Option, Some, None, List, length, get_or, refl, sym, ap, ◌∙◌, subst, arith}
use Rattle.std.specs.Prelude.{slice_index, All}
use Rattle.std.proofs.lemmas.Bool.{cases_lt}
use Rattle.std.proofs.lemmas.List.{get_or_default}
use Rattle.cl_model.specs.{declared.model.SystemModel.SystemModel, ByNumber.{core_of, task_at}, Validity.IsValid}
use Rattle.cl_runs.specs.{declared.job.Job.Job, Table.{no_job, job_at}, TaskTiming.{System, Timing, timing_at, IsSound}, SystemOf.system_of, Run.{Run, jobs_of, core_entries, executed, IsInForm}, Work.{work_before, work_through}, Moments.{Starts, Finishes}}
use Rattle.cl_runs.proofs.{Climbing.climb_grows, Executed.{executed_zero, executed_climbs, executed_grew}, ModelSystem.{timing_is, count_is, range_count_is, system_sound}}
use Rattle.cl_run_data.specs.{declared.stretches.Stretch.Stretch, Stretches.{entries_from, AreStretchesOf}}
use Rattle.cl_check.specs.{declared.{job_moments.Moment.Moment, job_ends.End.{End, TheVariants.{Start, Finish}}}, InOrder.AreTimesPositive, JobMoments.{IsMomentOf, AreMoments, EndsAt, AreEndsOfJobs}, Inner.Walks.{executed_in, RunsAfter, EndsAfter, AreMomentsIn, EndsIn, AreEndsIn}}
use Rattle.cl_check.specs.Apart.{StandApart}
use Rattle.cl_check.proofs.{JobsInOrder.job_time, WalkFacts.{executed_more, executed_grows}, ApartMoments.ends_alike_in}

-- ---- a task of a run, and the entries of its core

module _ (system : System) (sound : IsSound system) (run : Run) (in_form : IsInForm system run) (task : ℕ)
    (is : task < length system.tasks) (times : AreTimesPositive (jobs_of run task)) (entries : List (Option ℕ)) (of : entries ≡ core_entries run (timing_at system task).core) where
  executed_is : (t : ℕ) → executed system run task t ≡ executed_in entries task t
  unfolding executed
  executed_is t = ap (λ (es : List (Option ℕ)). executed_in es task t) (sym of)

  as_many : length entries ≡ run.table.ticks
  as_many = ap length of ∙ in_form.ticks (timing_at system task).core (sound.tasks task is).on_core

  module _ (job place : ℕ) (in_table : job < length (jobs_of run task)) (is_runnable : place < length (timing_at system task).ranges) where
    some_time : 1 ≤ slice_index (job_at (jobs_of run task) job).times place
    some_time = job_time system run in_form task is times job place in_table is_runnable

    starts_there : (t : ℕ) → RunsAfter entries task (work_before (jobs_of run task) job place) t → Starts system run task job place t
    starts_there t runs = record {
      in_table = in_table;
      is_runnable = is_runnable;
      below_end = omega (arith, runs.within, as_many);
      reached = executed_is t ∙ runs.reached;
      runs = ap (λ (es : List (Option ℕ)). get_or es t None) (sym of) ∙ runs.runs;
    }

    runs_there : (t : ℕ) → Starts system run task job place t → RunsAfter entries task (work_before (jobs_of run task) job place) t
    runs_there t starts = record {
      within = omega (arith, starts.below_end, as_many);
      reached = sym (executed_is t) ∙ starts.reached;
      runs = ap (λ (es : List (Option ℕ)). get_or es t None) of ∙ starts.runs;
    }

    pub is_start : (found : Option ℕ) → IsMomentOf (RunsAfter entries task (work_before (jobs_of run task) job place)) found
        → IsMomentOf (Starts system run task job place) found
    is_start None none = λ t starts. none t (runs_there t starts)
    is_start (Some t) runs = starts_there t runs

    finishes_there : (t : ℕ) → EndsAfter entries task (work_through (jobs_of run task) job place - 1) t → Finishes system run task job place t
    finishes_there t ends =
        let more : executed_in entries task t ≡ work_through (jobs_of run task) job place
        = omega (
          arith,
          some_time,
          ends.runs.reached,
          ap (executed_in entries task) (sym ends.ends),
          executed_more entries task ends.tick ends.runs.within ends.runs.runs,
        ) in
        record {
          in_table = in_table;
          is_runnable = is_runnable;
          by_end = omega (arith, ends.runs.within, ends.ends, as_many);
          reached = executed_is t ∙ more;
          least = λ s there. elim (cases_lt ends.tick s) [
            | inl later ↦ omega (arith, later, ends.ends)
            | inr earlier ↦ absurd (omega (
              arith,
              some_time,
              there,
              executed_is s,
              ends.runs.reached,
              executed_grows entries task s ends.tick earlier,
            ))
          ];
        }

    ends_there : (t : ℕ) → Finishes system run task job place t → EndsAfter entries task (work_through (jobs_of run task) job place - 1) t
    ends_there t finishes =
        let (r, before, grows) = climb_grows (executed system run task) (executed_climbs system run task) (executed_zero system run task)
        (work_through (jobs_of run task) job place - 1) t (omega (arith, some_time, finishes.reached)) in
        let ran = executed_grew system run task r (grows.after ∙ sym (ap suc grows.before)) in
        record {
          tick = r;
          ends = omega (arith, before, finishes.least (suc r) (omega (arith, some_time, grows.after)));
          runs = record {
            within = omega (arith, ran.0, ap length of);
            reached = sym (executed_is r) ∙ grows.before;
            runs = ap (λ (es : List (Option ℕ)). get_or es r None) of ∙ ran.1;
          };
        }

    pub is_finish : (found : Option ℕ) → IsMomentOf (EndsAfter entries task (work_through (jobs_of run task) job place - 1)) found
        → IsMomentOf (Finishes system run task job place) found
    is_finish None none = λ t finishes. none t (ends_there t finishes)
    is_finish (Some t) ends = finishes_there t ends

    pub is_end : (end : End) (found : Option ℕ) → IsMomentOf (EndsIn end entries (jobs_of run task) task job place) found
        → IsMomentOf (EndsAt end system run task job place) found
    is_end Start = is_start
    is_end Finish = is_finish

-- ---- a task of a valid model

module _ (model : SystemModel) (valid : IsValid model) (run : Run) (in_form : IsInForm (system_of model) run) (task : ℕ)
    (times : AreTimesPositive (jobs_of run task)) (is : task < length model.tasks) (core : ℕ) (core_is : core ≡ core_of model task) where
  is_task : task < length (system_of model).tasks
  is_task = omega (arith, is, count_is model)

  sound : IsSound (system_of model)
  sound = system_sound model valid

  on_core : core ≡ (timing_at (system_of model) task).core
  on_core = core_is ∙ sym (ap (λ (timing : Timing). timing.core) (timing_is model task is))

  -- its core is one of the run's, and its jobs are in the table
  pub core_within : core < length run.entries
  core_within = omega (arith, on_core, (sound.tasks task is_task).on_core, in_form.cores)

  pub jobs_within : task < length run.table.jobs
  jobs_within = omega (arith, is_task, in_form.tasks)

  module _ (place : ℕ) (is_runnable : place < length (task_at model task).runnables) where
    place_is : place < length (timing_at (system_of model) task).ranges
    place_is = omega (arith, is_runnable, range_count_is model task is)

    -- each job takes a time for the runnable, of a tick at least
    pub each_has_place : All (λ (job : Job). place < length job.times) (jobs_of run task)
    each_has_place k d h = omega (
      arith,
      place_is,
      in_form.times task k is_task h,
      ap (λ (job : Job). length job.times) (get_or_default (jobs_of run task) k d no_job h),
    )

    pub each_has_time : All (λ (job : Job). 1 ≤ slice_index job.times place) (jobs_of run task)
    each_has_time k d h = omega (
      arith,
      job_time (system_of model) run in_form task is_task times k place h place_is,
      ap (λ (job : Job). slice_index job.times place) (get_or_default (jobs_of run task) k d no_job h),
    )

    module _ (ss : List Stretch) (stretches : AreStretchesOf (core_entries run core) ss) where
      entries_are : entries_from 0 ss ≡ core_entries run (timing_at (system_of model) task).core
      entries_are = stretches.entries_are ∙ ap (core_entries run) on_core

      found_are : (moments : List Moment)
          → (length moments ≡ length (jobs_of run task)) × AreMomentsIn (entries_from 0 ss) (jobs_of run task) task place moments
          → AreMoments (system_of model) run task place moments
      found_are moments found = record {
        one_a_job = found.0;
        starts = λ job h. is_start (system_of model) sound run in_form task is_task times _ entries_are job place (omega (arith, h, found.0)) place_is _ (found.1.starts job h);
        finishes = λ job h. is_finish (system_of model) sound run in_form task is_task times _ entries_are job place (omega (arith, h, found.0)) place_is _ (found.1.finishes job h);
      }

      pub moments_are : (jobs : List Job) → jobs ≡ jobs_of run task → (moments : List Moment)
          → (length moments ≡ length jobs) × AreMomentsIn (entries_from 0 ss) jobs task place moments
          → AreMoments (system_of model) run task place moments
      moments_are jobs same moments found = found_are moments
          (subst (λ (js : List Job). (length moments ≡ length js) × AreMomentsIn (entries_from 0 ss) js task place moments) same found)

    -- and so is one end over the task's own list, where the tasks stand apart
    pub ends_are_apart : (end : End) (apart : Run) → StandApart (system_of model) run apart → (ss : List Stretch) → AreStretchesOf (core_entries apart task) ss
        → (jobs : List Job) → jobs ≡ jobs_of run task → (ends : List (Option ℕ))
        → (length ends ≡ length jobs) × AreEndsIn end (entries_from 0 ss) jobs task place ends
        → AreEndsOfJobs end (system_of model) run task place ends
    ends_are_apart end apart is_apart ss stretches jobs same ends found =
        let alike = is_apart.alike task is_task in
        let own = subst (λ es. AreEndsIn end es jobs task place ends) stretches.entries_are found.1 in
        let on_its_core = ends_alike_in task (core_entries apart task) (core_entries run (timing_at (system_of model) task).core) alike end jobs place ends own in
        let as_jobs = subst (λ (js : List Job). (length ends ≡ length js) × AreEndsIn end (core_entries run (timing_at (system_of model) task).core) js task place ends)
        same (found.0, on_its_core) in
        record {
          one_a_job = as_jobs.0;
          each = λ job h. is_end (system_of model) sound run in_form task is_task times _ refl job place (omega (arith, h, as_jobs.0)) place_is end _ (as_jobs.1.each job h);
        }
