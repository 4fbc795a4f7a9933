-- A run that is legal on some cores is a part of a legal run: that has its jobs and entries on these cores, and those of
-- any legal run of as many ticks elsewhere.
use Rattle.std.proofs.Common.{◌≡◌, ℕ, ◌<◌, inl, inr, Option, Bool, true, false, cond, List, [], length, sym, ap, ◌∙◌, subst}
use Rattle.std.proofs.lemmas.Bool.{cases_Bool, cond-true, cond-false}
use Rattle.cl_runs.specs.{declared.job.Job.Job, TaskTiming.{System, timing_at, IsSound}, Table.{AreLawfulJobs, IsLawful}, Run.{Run, jobs_of, core_entries, entry_at, executed}, Legal.{IsScheduled, IsLegal}}
use Rattle.cl_runs.proofs.{NextTable.{listed, length-listed, get_or-listed}, Filling.legal_from, Extension.some_legal}
use Rattle.cl_run_data.specs.Parts.{is_among, IsLegalOn, AreAlikeOn, HasWhole}
use Rattle.cl_run_data.proofs.AlikeRuns.{scheduled_moved}

module _ (system : System) (sound : IsSound system) (cores : List Bool) (part other : Run) (legal : IsLegalOn system cores part)
    (legal_other : IsLegal system other) (ticks : other.table.ticks ≡ part.table.ticks) where
  jobs_from : ℕ → List Job
  jobs_from task = cond (is_among cores (timing_at system task).core) (jobs_of part task) (jobs_of other task)

  entries_of : ℕ → List (Option ℕ)
  entries_of core = cond (is_among cores core) (core_entries part core) (core_entries other core)

  joined : Run
  joined = record {
    table = record { ticks = part.table.ticks; jobs = listed jobs_from (length system.tasks) };
    entries = listed entries_of system.cores;
  }

  joined_jobs : (task : ℕ) → task < length system.tasks → jobs_of joined task ≡ jobs_from task
  unfolding joined
  joined_jobs task is = get_or-listed jobs_from (length system.tasks) task [] is

  joined_entries : (core : ℕ) → core < system.cores → core_entries joined core ≡ entries_of core
  unfolding joined
  joined_entries core on = get_or-listed entries_of system.cores core [] on

  -- it is like the part on the cores of the part
  joined_part : (core : ℕ) → core < system.cores → is_among cores core ≡ true → AreAlikeOn system core part joined
  unfolding joined jobs_from entries_of
  joined_part core on among = record {
    ticks = λ _. part.table.ticks;
    entries = sym (joined_entries core on ∙ cond-true _ _ _ among);
    jobs = λ task is same. sym (joined_jobs task is ∙ cond-true _ _ _ (ap (is_among cores) same ∙ among));
  }

  -- and like the other run elsewhere
  joined_other : (core : ℕ) → core < system.cores → is_among cores core ≡ false → AreAlikeOn system core other joined
  unfolding joined jobs_from entries_of
  joined_other core on apart = record {
    ticks = ticks;
    entries = sym (joined_entries core on ∙ cond-false _ _ _ apart);
    jobs = λ task is same. sym (joined_jobs task is ∙ cond-false _ _ _ (ap (is_among cores) same ∙ apart));
  }

  moved : (task : ℕ) (one : Run) → AreAlikeOn system (timing_at system task).core one joined → task < length system.tasks
      → AreLawfulJobs (timing_at system task) one.table.ticks (jobs_of one task)
      → AreLawfulJobs (timing_at system task) joined.table.ticks (jobs_of joined task)
  moved task one alike is lawful =
      subst (λ n. AreLawfulJobs (timing_at system task) n (jobs_of joined task)) alike.ticks
      (subst (λ (jobs : List Job). AreLawfulJobs (timing_at system task) one.table.ticks jobs) (alike.jobs task is (λ _. (timing_at system task).core)) lawful)

  joined_lawful : IsLawful system joined.table
  unfolding joined
  joined_lawful = record {
    tasks = length-listed jobs_from (length system.tasks);
    jobs = λ task is. elim (cases_Bool (is_among cores (timing_at system task).core)) [
      | inl among ↦ moved task part (joined_part _ (sound.tasks task is).on_core among) is (legal.lawful.jobs task is among)
      | inr apart ↦ moved task other (joined_other _ (sound.tasks task is).on_core apart) is (legal_other.lawful.jobs task is)
    ];
  }

  joined_scheduled : (core tick : ℕ) → core < system.cores → tick < part.table.ticks
      → IsScheduled system joined.table (λ task. executed system joined task tick) tick core (entry_at joined core tick)
  joined_scheduled core tick on h = elim (cases_Bool (is_among cores core)) [
    | inl among ↦ scheduled_moved system core part joined (joined_part core on among) tick (legal.scheduled core tick on among h)
    | inr apart ↦ scheduled_moved system core other joined (joined_other core on apart) tick
        (legal_other.scheduled core tick on (subst (λ n. tick < n) (sym ticks) h))
  ]

  joined_ticks : (core : ℕ) → core < system.cores → length (core_entries joined core) ≡ part.table.ticks
  joined_ticks core on = elim (cases_Bool (is_among cores core)) [
    | inl among ↦ ap length (sym (joined_part core on among).entries) ∙ legal.in_form.ticks core on
    | inr apart ↦ ap length (sym (joined_other core on apart).entries) ∙ legal_other.in_form.ticks core on ∙ ticks
  ]

  joined_legal : IsLegal system joined
  unfolding joined
  joined_legal = legal_from system joined joined_lawful (record {
    cores = length-listed entries_of system.cores;
    ticks = joined_ticks;
    scheduled = joined_scheduled;
  })

  joined_whole : HasWhole system cores part
  joined_whole = record { whole = joined; legal = joined_legal; alike = joined_part }

-- each run that is legal on some cores is a part of a legal run
pub has_whole : (system : System) → IsSound system → (cores : List Bool) (part : Run) → IsLegalOn system cores part → HasWhole system cores part
has_whole system sound cores part legal =
    let (other, ticks, legal_other) = some_legal system sound part.table.ticks in
    joined_whole system sound cores part other legal legal_other ticks
