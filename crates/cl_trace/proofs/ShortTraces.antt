-- The traces of legal runs of valid models are short.
use Rattle.std.proofs.Common.{ℕ, ◌+◌, ◌*◌, ◌<◌, ◌≤◌, length, sym, subst, arith}
use Rattle.std.specs.Prelude.{All}
use Rattle.std.proofs.lemmas.List.Elements.{All-map}
use Rattle.cl_model.specs.{declared.{limits.TheConstants.MOST_TICKS, model.SystemModel.SystemModel}, AreNamed.AreNamed, ByNumber.{task_at, stimulus_of}, Timing.greatest_jitter, Validity.IsValid}
use Rattle.cl_model.proofs.ValidTasks.{kind_in_range, runnables_in_range}
use Rattle.cl_runs.specs.{TaskTiming.{TimeRange, Timing, timing_at}, SystemOf.{range_of, system_of}, Run.Run, Legal.IsLegal}
use Rattle.cl_runs.proofs.ModelSystem.{count_is, timing_is, system_sound}
use Rattle.cl_trace.specs.{Executions.executions, Trace.spelled}
use Rattle.cl_trace.proofs.{LegalTraces.jitter_small, TraceLength.spelled_short}

abbrev HasFewTicks : Timing → Type 0
HasFewTicks timing = (greatest_jitter timing.pattern ≤ MOST_TICKS) × All (λ (range : TimeRange). range.greatest ≤ MOST_TICKS) timing.ranges

few_ticks : (model : SystemModel) → IsValid model → (i : ℕ) → i < length (system_of model).tasks → HasFewTicks (timing_at (system_of model) i)
few_ticks model valid i is =
    let below : i < length model.tasks = omega (arith, is, count_is model) in
    subst HasFewTicks (sym (timing_is model i below)) (
      jitter_small (stimulus_of model i) (kind_in_range model valid i below),
      All-map (λ (range : TimeRange). range.greatest ≤ MOST_TICKS) range_of (task_at model i).runnables
          (λ k r h. (runnables_in_range model valid i below k r h).greatest.1),
    )

pub short_trace : (model : SystemModel) → IsValid model → AreNamed model → (run : Run) → IsLegal (system_of model) run
    → run.table.ticks ≤ 1000000000 → length (spelled model run) ≤ 41 + 305 * executions run.table
short_trace model valid named run legal few = spelled_short model named (system_of model) (system_sound model valid) run legal few
    (λ i is. (few_ticks model valid i is).0) (λ i is. (few_ticks model valid i is).1)
