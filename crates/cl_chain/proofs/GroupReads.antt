-- When the jobs of a task's runnable read and write, from their starts, finishes, arrivals and deadlines.
use Rattle.std.proofs.Common.{◌≡◌, ℕ, ◌+◌, ◌-◌, ◌<◌, ◌≤◌, Option, Some, None, List, [], ◌∷◌, ◌++◌, length, get_or, map, refl, sym, ap, ◌∙◌, subst, arith}
use Rattle.std.proofs.lemmas.List.{get_or-map, length-map}
use Rattle.cl_model.specs.{declared.{task.AccessKind.{AccessKind, TheVariants.{Explicit, Implicit, Timed}}, model.SystemModel.SystemModel, group.Group.Group}, ByNumber.{task_at, deadline_of}, Groups.group_at}
use Rattle.cl_runs.specs.{declared.job.Job.Job, Table.{no_job, job_at}, TaskTiming.{System, Timing, timing_at}, SystemOf.system_of, Run.{Run, jobs_of}, Moments.{Starts, Finishes, JobFinishes, WritesAtDeadline, ReadsBy, WritesBy, Reads, Writes}}
use Rattle.cl_runs.proofs.{ModelSystem.{timing_is, range_count_is}, StartsFinishes.{starts_once, finishes_once}, MomentFacts.writes_once}
use Rattle.cl_check.specs.{declared.job_ends.End.{End, TheVariants.{Start, Finish}}, JobMoments.{IsMomentOf, EndsAt, AreEndsOfJobs}}
use Rattle.cl_check.proofs.MomentsFound.{each_pushed}
use Rattle.cl_chain.specs.{declared.group_moments.GroupMoments.GroupMoments, Inner.GroupTables.{moment_at, AreMomentsAt, no_table, reads_in, writes_in, HasFinishedBy, IsTimedWrite, AreTimedWrites}}
use Rattle.cl_chain.proofs.MomentLists.{all_moments, same_moments}

-- a list of what each item says
pub mapped_moments : {X : Type 0} (IsAt : (job t : ℕ) → Type 0) (f : X → Option ℕ) (xs : List X) (d : X) → ((job s t : ℕ) → IsAt job s → IsAt job t → s ≡ t)
    → ((job : ℕ) → job < length xs → IsMomentOf (IsAt job) (f (get_or xs job d)))
    → ((job t : ℕ) → IsAt job t → job < length xs) → AreMomentsAt IsAt (map f xs)
mapped_moments IsAt f xs d once each within = all_moments IsAt (map f xs) once
    (λ job h.
    let below : job < length xs = omega (arith, h, length-map xs f) in
    subst (IsMomentOf (IsAt job)) (sym (get_or-map f xs job d None below)) (each job below))
    (λ job t here. omega (arith, within job t here, length-map xs f))

module _ (system : System) (run : Run) (task place : ℕ) where
  -- a list of one end of a runnable, job by job, holds all of them
  pub ends_listed : (end : End) (ends : List (Option ℕ)) → AreEndsOfJobs end system run task place ends
      → AreMomentsAt (λ job t. EndsAt end system run task job place t) ends
  ends_listed Start ends are = all_moments (λ job t. Starts system run task job place t) ends
      (λ job s t. starts_once system run task job place s t) are.each (λ job t starts. omega (arith, starts.in_table, are.one_a_job))
  ends_listed Finish ends are = all_moments (λ job t. Finishes system run task job place t) ends
      (λ job s t. finishes_once system run task job place s t) are.each (λ job t finishes. omega (arith, finishes.in_table, are.one_a_job))

  module _ (is_runnable : place < length (timing_at system task).ranges) where
    pub explicit_reads : (timing_at system task).access ≡ Explicit → (moments : List (Option ℕ))
        → AreMomentsAt (λ job t. Starts system run task job place t) moments → AreMomentsAt (λ job t. Reads system run task job place t) moments
    explicit_reads kind moments = same_moments (λ job t. Starts system run task job place t) (λ job t. Reads system run task job place t) moments
        (λ job t starts. record {
          in_table = starts.in_table;
          is_runnable = starts.is_runnable;
          moment = subst (λ a. ReadsBy a system run task job place t) (sym kind) starts;
        })
        (λ job t reads. subst (λ a. ReadsBy a system run task job place t) kind reads.moment)

    pub implicit_reads : (timing_at system task).access ≡ Implicit → (moments : List (Option ℕ))
        → AreMomentsAt (λ job t. Starts system run task job 0 t) moments → AreMomentsAt (λ job t. Reads system run task job place t) moments
    implicit_reads kind moments = same_moments (λ job t. Starts system run task job 0 t) (λ job t. Reads system run task job place t) moments
        (λ job t starts. record {
          in_table = starts.in_table;
          is_runnable = is_runnable;
          moment = subst (λ a. ReadsBy a system run task job place t) (sym kind) starts;
        })
        (λ job t reads. subst (λ a. ReadsBy a system run task job place t) kind reads.moment)

    pub timed_reads : (timing_at system task).access ≡ Timed
        → AreMomentsAt (λ job t. Reads system run task job place t) (map (λ (job : Job). Some job.arrival) (jobs_of run task))
    timed_reads kind = mapped_moments (λ job t. Reads system run task job place t) (λ (job : Job). Some job.arrival) (jobs_of run task) no_job
        (λ job s t one other. arrival_of job s one ∙ sym (arrival_of job t other))
        (λ job below. record {
          in_table = below;
          is_runnable = is_runnable;
          moment = subst (λ a. ReadsBy a system run task job place (job_at (jobs_of run task) job).arrival) (sym kind) refl;
        })
        (λ job t reads. reads.in_table)
      where
        arrival_of : (job t : ℕ) → Reads system run task job place t → t ≡ (job_at (jobs_of run task) job).arrival
        arrival_of job t reads = subst (λ a. ReadsBy a system run task job place t) kind reads.moment

    pub explicit_writes : (timing_at system task).access ≡ Explicit → (moments : List (Option ℕ))
        → AreMomentsAt (λ job t. Finishes system run task job place t) moments → AreMomentsAt (λ job t. Writes system run task job place t) moments
    explicit_writes kind moments = same_moments (λ job t. Finishes system run task job place t) (λ job t. Writes system run task job place t) moments
        (λ job t finishes. record {
          in_table = finishes.in_table;
          is_runnable = finishes.is_runnable;
          moment = subst (λ a. WritesBy a system run task job place t) (sym kind) finishes;
        })
        (λ job t writes. subst (λ a. WritesBy a system run task job place t) kind writes.moment)

    pub implicit_writes : (timing_at system task).access ≡ Implicit → (moments : List (Option ℕ))
        → AreMomentsAt (λ job t. JobFinishes system run task job t) moments → AreMomentsAt (λ job t. Writes system run task job place t) moments
    implicit_writes kind moments = same_moments (λ job t. JobFinishes system run task job t) (λ job t. Writes system run task job place t) moments
        (λ job t finishes. record {
          in_table = finishes.in_table;
          is_runnable = is_runnable;
          moment = subst (λ a. WritesBy a system run task job place t) (sym kind) finishes;
        })
        (λ job t writes. subst (λ a. WritesBy a system run task job place t) kind writes.moment)

    module _ (kind : (timing_at system task).access ≡ Timed) (deadline : ℕ) (is_deadline : deadline ≡ (timing_at system task).deadline)
        (finishes : List (Option ℕ)) (finished : AreMomentsAt (λ job t. JobFinishes system run task job t) finishes) where
      finish_of : (found : Option ℕ) (t : ℕ) → HasFinishedBy found t → (f : ℕ) × (found ≡ Some f) × (f ≤ t)
      finish_of None t by = absurd by
      finish_of (Some f) t by = (f, refl, by)

      writes_then : (job t : ℕ) → IsTimedWrite (job_at (jobs_of run task) job) deadline run.table.ticks (moment_at finishes job) t
          → Writes system run task job place t
      writes_then job t write =
          let (f, found, by) = finish_of (moment_at finishes job) t write.in_time in
          let finish = finished.sound job f found in
          let at_deadline : WritesAtDeadline system run task job t
          = record {
            finish = f;
            finishes = finish;
            in_time = by;
            at_deadline = write.at_deadline ∙ ap (λ d. (job_at (jobs_of run task) job).arrival + d) is_deadline;
            by_end = write.by_end;
          } in
          record {
            in_table = finish.in_table;
            is_runnable = is_runnable;
            moment = subst (λ a. WritesBy a system run task job place t) (sym kind) at_deadline;
          }

      written_then : (job t : ℕ) → Writes system run task job place t
          → IsTimedWrite (job_at (jobs_of run task) job) deadline run.table.ticks (moment_at finishes job) t
      written_then job t writes =
          let write = subst (λ a. WritesBy a system run task job place t) kind writes.moment in
          record {
            at_deadline = write.at_deadline ∙ ap (λ d. (job_at (jobs_of run task) job).arrival + d) (sym is_deadline);
            by_end = write.by_end;
            in_time = subst (λ (o : Option ℕ). HasFinishedBy o t) (sym (finished.complete job write.finish write.finishes)) write.in_time;
          }

      write_is : (job : ℕ) (found : Option ℕ)
          → IsMomentOf (IsTimedWrite (job_at (jobs_of run task) job) deadline run.table.ticks (moment_at finishes job)) found
          → IsMomentOf (λ t. Writes system run task job place t) found
      write_is job None none = λ t writes. none t (written_then job t writes)
      write_is job (Some t) write = writes_then job t write

      pub timed_writes : (writes : List (Option ℕ)) → AreTimedWrites (jobs_of run task) deadline run.table.ticks finishes writes
          → AreMomentsAt (λ job t. Writes system run task job place t) writes
      timed_writes writes are = all_moments (λ job t. Writes system run task job place t) writes
          (λ job s t. writes_once system run task job place s t)
          (λ job h. write_is job (moment_at writes job) (are.each job h))
          (λ job t write. omega (arith, write.in_table, are.one_a_job))

-- ---- one group more

module _ (system : System) (run : Run) (groups : List Group) (tables : List GroupMoments) (group : Group) (is : group ≡ group_at groups (length tables))
    (reads writes : List (Option ℕ)) where
  pub reads_pushed : ((i : ℕ) → i < length tables → AreMomentsAt (λ job t. Reads system run (group_at groups i).task job (group_at groups i).first t) (reads_in tables i))
      → AreMomentsAt (λ job t. Reads system run group.task job group.first t) reads → (i : ℕ) → i < length (tables ++ record { reads = reads; writes = writes } ∷ [])
      → AreMomentsAt (λ job t. Reads system run (group_at groups i).task job (group_at groups i).first t) (reads_in (tables ++ record { reads = reads; writes = writes } ∷ []) i)
  reads_pushed old new = each_pushed
      (λ i (g : GroupMoments). AreMomentsAt (λ job t. Reads system run (group_at groups i).task job (group_at groups i).first t) g.reads) tables
      (record { reads = reads; writes = writes }) no_table old
      (subst (λ (g : Group). AreMomentsAt (λ job t. Reads system run g.task job g.first t) reads) is new)

  pub writes_pushed : ((i : ℕ) → i < length tables → AreMomentsAt (λ job t. Writes system run (group_at groups i).task job (group_at groups i).last t) (writes_in tables i))
      → AreMomentsAt (λ job t. Writes system run group.task job group.last t) writes → (i : ℕ) → i < length (tables ++ record { reads = reads; writes = writes } ∷ [])
      → AreMomentsAt (λ job t. Writes system run (group_at groups i).task job (group_at groups i).last t) (writes_in (tables ++ record { reads = reads; writes = writes } ∷ []) i)
  writes_pushed old new = each_pushed
      (λ i (g : GroupMoments). AreMomentsAt (λ job t. Writes system run (group_at groups i).task job (group_at groups i).last t) g.writes) tables
      (record { reads = reads; writes = writes }) no_table old
      (subst (λ (g : Group). AreMomentsAt (λ job t. Writes system run g.task job g.last t) writes) is new)

-- ---- a task of a model

module _ (model : SystemModel) (run : Run) (task place : ℕ) (is : task < length model.tasks) (is_runnable : place < length (task_at model task).runnables)
    (access : AccessKind) (is_access : access ≡ (task_at model task).access) where
  kind_is : (kind : AccessKind) → access ≡ kind → (timing_at (system_of model) task).access ≡ kind
  kind_is kind same = ap (λ (t : Timing). t.access) (timing_is model task is) ∙ sym is_access ∙ same

  pub places_are : length (timing_at (system_of model) task).ranges ≡ length (task_at model task).runnables
  places_are = range_count_is model task is

  place_is : place < length (timing_at (system_of model) task).ranges
  place_is = omega (arith, is_runnable, places_are)

  deadline_is : deadline_of model task ≡ (timing_at (system_of model) task).deadline
  deadline_is = sym (ap (λ (t : Timing). t.deadline) (timing_is model task is))

  pub reads_explicitly : access ≡ Explicit → (moments : List (Option ℕ)) → AreMomentsAt (λ job t. Starts (system_of model) run task job place t) moments
      → AreMomentsAt (λ job t. Reads (system_of model) run task job place t) moments
  reads_explicitly same = explicit_reads (system_of model) run task place place_is (kind_is Explicit same)

  pub reads_implicitly : access ≡ Implicit → (moments : List (Option ℕ)) → AreMomentsAt (λ job t. Starts (system_of model) run task job 0 t) moments
      → AreMomentsAt (λ job t. Reads (system_of model) run task job place t) moments
  reads_implicitly same = implicit_reads (system_of model) run task place place_is (kind_is Implicit same)

  pub reads_timed : access ≡ Timed → (jobs : List Job) → jobs ≡ jobs_of run task → (moments : List (Option ℕ)) → moments ≡ map (λ (job : Job). Some job.arrival) jobs
      → AreMomentsAt (λ job t. Reads (system_of model) run task job place t) moments
  reads_timed same jobs of moments are =
      subst (λ (xs : List (Option ℕ)). AreMomentsAt (λ job t. Reads (system_of model) run task job place t) xs)
      (sym (are ∙ ap (map (λ (job : Job). Some job.arrival)) of)) (timed_reads (system_of model) run task place place_is (kind_is Timed same))

  pub writes_explicitly : access ≡ Explicit → (moments : List (Option ℕ)) → AreMomentsAt (λ job t. Finishes (system_of model) run task job place t) moments
      → AreMomentsAt (λ job t. Writes (system_of model) run task job place t) moments
  writes_explicitly same = explicit_writes (system_of model) run task place place_is (kind_is Explicit same)

  module _ (last : ℕ) (is_last : last ≡ length (task_at model task).runnables - 1) where
    job_finishes : (moments : List (Option ℕ)) → AreMomentsAt (λ job t. Finishes (system_of model) run task job last t) moments
        → AreMomentsAt (λ job t. JobFinishes (system_of model) run task job t) moments
    job_finishes moments are =
        let same : last ≡ length (timing_at (system_of model) task).ranges - 1 = omega (arith, is_last, places_are) in
        subst (λ n. AreMomentsAt (λ job t. Finishes (system_of model) run task job n t) moments) same are

    pub writes_implicitly : access ≡ Implicit → (moments : List (Option ℕ)) → AreMomentsAt (λ job t. Finishes (system_of model) run task job last t) moments
        → AreMomentsAt (λ job t. Writes (system_of model) run task job place t) moments
    writes_implicitly same moments are = implicit_writes (system_of model) run task place place_is (kind_is Implicit same) moments (job_finishes moments are)

    pub writes_timed : access ≡ Timed → (finishes : List (Option ℕ)) → AreMomentsAt (λ job t. Finishes (system_of model) run task job last t) finishes
        → (jobs : List Job) → jobs ≡ jobs_of run task → (deadline ticks : ℕ) → deadline ≡ deadline_of model task → ticks ≡ run.table.ticks
        → (moments : List (Option ℕ)) → AreTimedWrites jobs deadline ticks finishes moments
        → AreMomentsAt (λ job t. Writes (system_of model) run task job place t) moments
    writes_timed same finishes finished jobs of deadline ticks is_deadline are_ticks moments are =
        timed_writes (system_of model) run task place place_is (kind_is Timed same) deadline (is_deadline ∙ deadline_is) finishes (job_finishes finishes finished) moments
        (subst (λ n. AreTimedWrites (jobs_of run task) deadline n finishes moments) are_ticks
        (subst (λ (js : List Job). AreTimedWrites js deadline ticks finishes moments) of are))
