-- Tables of which each job has one time per runnable.
use Rattle.std.proofs.Common.{inl, inr, Bool, List, length, ap, arith}
use Rattle.std.proofs.lemmas.Bool.{cases_Bool}
use Rattle.cl_runs.specs.{TaskTiming.{System, timing_at}, declared.job.JobTable.JobTable, Table.{no_job, job_at, table_jobs}}
use Rattle.cl_runs.proofs.LawfulJobs.{times_length}
use Rattle.cl_run_data.specs.Parts.{is_among, IsLawfulOn, HasNoOtherJobs}
use Rattle.cl_sched.specs.CoreTables.{HaveTimes}

-- one that is lawful on some cores, and has no jobs of other tasks
pub part_have_times : (system : System) (cores : List Bool) (table : JobTable) → IsLawfulOn system cores table
    → HasNoOtherJobs system cores table → HaveTimes system table
part_have_times system cores table lawful none = record {
  each = λ task job is h. elim (cases_Bool (is_among cores (timing_at system task).core)) [
    | inl among ↦ times_length (timing_at system task) (job_at (table_jobs table task) job) ((lawful.jobs task is among).times job no_job h)
    | inr apart ↦ absurd (omega (arith, h, ap length (none task is apart)))
  ];
}
