-- In a legal run there are at most twice as many run lines as job lines.
use Rattle.std.proofs.Common.{◌≡◌, ℕ, ◌+◌, ◌*◌, ◌≤◌, length, ap, ◌∙◌, arith}
use Rattle.std.specs.Prelude.{sum_by}
use Rattle.std.specs.List.{range_with_len}
use Rattle.std.proofs.lemmas.List.{length-map}
use Rattle.std.proofs.lemmas.List.Concat.{length-flat_map}
use Rattle.cl_runs.specs.{TaskTiming.{System, timing_at, IsSound}, Run.{Run, jobs_of}, Legal.IsLegal}
use Rattle.cl_trace.specs.Trace.{JobOf, task_items, core_items, job_items, run_items}
use Rattle.cl_trace.proofs.{Totals.{total, total_mono, total_twice, of_key, keys_apart}, CoreTurns.core_lines}

module _ (system : System) (sound : IsSound system) (run : Run) (legal : IsLegal system run) where
  all_jobs : length (job_items run) ≡ total (λ i. length (jobs_of run i)) 0 (length system.tasks)
  unfolding job_items
  all_jobs = length-flat_map (task_items run) (range_with_len 0 (length run.table.jobs))
      ∙ ap (λ n. sum_by (λ i. length (task_items run i)) (range_with_len 0 n)) legal.in_form.tasks
      ∙ ap (λ (f : ℕ → ℕ). total f 0 (length system.tasks)) (λ k i. length-map (jobs_of run i) (JobOf i) k)

  all_lines : length (run_items run) ≡ total (λ c. length (core_items run c)) 0 system.cores
  unfolding run_items
  all_lines = length-flat_map (core_items run) (range_with_len 0 (length run.entries))
      ∙ ap (λ n. total (λ c. length (core_items run c)) 0 n) legal.in_form.cores

  abbrev jobs_on : (core : ℕ) → ℕ
  jobs_on core = total (of_key (λ i. (timing_at system i).core) (λ i. length (jobs_of run i)) core) 0 (length system.tasks)

  pub run_lines : length (run_items run) ≤ 2 * length (job_items run)
  run_lines = omega (
    arith,
    all_jobs,
    all_lines,
    total_mono (λ c. length (core_items run c)) (λ c. jobs_on c + jobs_on c) system.cores 0
        (λ c from below. core_lines system sound run legal c (omega (arith, below))),
    total_twice jobs_on system.cores 0,
    keys_apart (λ i. (timing_at system i).core) (λ i. length (jobs_of run i)) system.cores (length system.tasks) 0,
  )
