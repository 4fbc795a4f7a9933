-- Starts and finishes: each is one moment, and a finish is where executed ticks reach the work up to it.
use Rattle.std.proofs.Common.{◌≡◌, ℕ, suc, ◌<◌, ◌≤◌, inl, inr, Option, Some, None, List, length, get_or, sym, ap, ◌∙◌, arith}
use Rattle.std.proofs.lemmas.Bool.{cases_lt}
use Rattle.std.proofs.lemmas.List.{get_or_past}
use Rattle.cl_runs.specs.{TaskTiming.{System, timing_at}, Run.{Run, jobs_of, core_entries, executed}, Work.{work_before, work_through}, Moments.{Starts, Finishes}}
use Rattle.cl_runs.proofs.{Climbing.{GrowsAt, climb_mono, climb_lt, climb_reaches, climb_grows, grows_once}, Executed.{executed_zero, executed_climbs, executed_grew, executed_more}}

-- a tick in which a task runs is one of the core's entries
pub runs_below : (entries : List (Option ℕ)) (t i : ℕ) → get_or entries t None ≡ Some i → t < length entries
runs_below entries t i runs = elim (cases_lt t (length entries)) [
  | inl below ↦ below
  | inr past ↦ let none : get_or entries t None ≡ None = get_or_past entries t None past in absurd (cc (runs, none))
]

module _ (system : System) (run : Run) (i : ℕ) where
  -- a start is where executed ticks grow from the work before
  pub start_grows : (k p t : ℕ) → Starts system run i k p t → GrowsAt (executed system run i) (work_before (jobs_of run i) k p) t
  start_grows k p t starts = record {
    before = starts.reached;
    after = executed_more system run i t (runs_below _ t i starts.runs) starts.runs ∙ ap suc starts.reached;
  }

  -- a runnable starts once
  pub starts_once : (k p s t : ℕ) → Starts system run i k p s → Starts system run i k p t → s ≡ t
  starts_once k p s t one other =
      grows_once (executed system run i) (executed_climbs system run i) _ s t (start_grows k p s one) (start_grows k p t other)

  -- a runnable finishes once
  pub finishes_once : (k p s t : ℕ) → Finishes system run i k p s → Finishes system run i k p t → s ≡ t
  finishes_once k p s t one other = omega (arith, one.least t other.reached, other.least s one.reached)

  -- where executed ticks grow from the work before, the runnable starts
  pub starts_where_grows : (k p t : ℕ) → k < length (jobs_of run i) → p < length (timing_at system i).ranges
      → length (core_entries run (timing_at system i).core) ≡ run.table.ticks
      → GrowsAt (executed system run i) (work_before (jobs_of run i) k p) t → Starts system run i k p t
  starts_where_grows k p t job place ticks grows =
      let ran = executed_grew system run i t (grows.after ∙ sym (ap suc grows.before)) in
      record { in_table = job; is_runnable = place; below_end = omega (arith, ran.0, ticks); reached = grows.before; runs = ran.1 }

  -- a runnable starts before each moment with more executed than the work before it
  pub starts_before : (k p t : ℕ) → k < length (jobs_of run i) → p < length (timing_at system i).ranges
      → length (core_entries run (timing_at system i).core) ≡ run.table.ticks
      → work_before (jobs_of run i) k p < executed system run i t → (r : ℕ) × (r < t) × Starts system run i k p r
  starts_before k p t job place ticks above =
      let (r, before, grows) = climb_grows (executed system run i) (executed_climbs system run i) (executed_zero system run i) _ t above in
      (r, before, starts_where_grows k p r job place ticks grows)

  -- from the tick after its start on, more than the work before a runnable is executed
  pub start_begun : (k p s t : ℕ) → Starts system run i k p s → s < t → work_before (jobs_of run i) k p < executed system run i t
  start_begun k p s t starts h =
      omega (arith, (start_grows k p s starts).after, climb_mono (executed system run i) (executed_climbs system run i) (suc s) t h)

  -- and not before
  pub start_earliest : (k p s t : ℕ) → Starts system run i k p s → work_before (jobs_of run i) k p < executed system run i t → s < t
  start_earliest k p s t starts h = climb_lt (executed system run i) (executed_climbs system run i) s t (omega (arith, starts.reached, h))

  -- from its finish on, the work up to a runnable is executed
  pub finish_reached : (k p f t : ℕ) → Finishes system run i k p f → f ≤ t → work_through (jobs_of run i) k p ≤ executed system run i t
  finish_reached k p f t finishes h = omega (arith, finishes.reached, climb_mono (executed system run i) (executed_climbs system run i) f t h)

  -- and not before
  pub finish_earliest : (k p f t : ℕ) → Finishes system run i k p f → work_through (jobs_of run i) k p ≤ executed system run i t → f ≤ t
  finish_earliest k p f t finishes h =
      let (s, within, first) = climb_reaches (executed system run i) (executed_climbs system run i) (executed_zero system run i) _ t h in
      omega (arith, within, finishes.least s first.reached)

  -- a runnable of the table finishes where the work up to it is executed by the end
  pub finishes_by : (k p t : ℕ) → k < length (jobs_of run i) → p < length (timing_at system i).ranges → t ≤ run.table.ticks
      → work_through (jobs_of run i) k p ≤ executed system run i t → (f : ℕ) × (f ≤ t) × Finishes system run i k p f
  finishes_by k p t job place by h =
      let (s, within, first) = climb_reaches (executed system run i) (executed_climbs system run i) (executed_zero system run i) _ t h in
      (s, within, record { in_table = job; is_runnable = place; by_end = omega (arith, within, by); reached = first.reached; least = first.least })
