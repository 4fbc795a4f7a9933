-- The leads and spots of runnables rest on no greatest times: they are the same in two systems whose tasks differ in no
-- more than these. Each proof is the definition with the numbers of one system turned into those of the other.
use Rattle.std.proofs.Common.{◌≡◌, ℕ, suc, Bool, ap, sym, ◌∙◌, List, map, take, drop, get_or}
use Rattle.std.specs.Prelude.{◌*◌, sum, sum_by}
use Rattle.std.proofs.lemmas.List.{take-map, drop-map}
use Rattle.std.proofs.lemmas.List.Sums.{sum-map}
use Rattle.std.proofs.Math.ListN.{get_or-map}
use Rattle.cl_runs.specs.TaskTiming.{TimeRange, Timing, System, timing_at, range_at, no_range}
use Rattle.cl_stim.specs.Phase.{phase_of}
use Rattle.cl_comm.specs.Windows.{least_times, spot_at}
use Rattle.cl_cycle.specs.{Counts.arrivals_of, Cycles.{is_one_of, in_phase_above, cycle_of}}
use Rattle.cl_cycle.proofs.SameCycles.{same_above, same_in_phase, same_cycle}
use Rattle.cl_lead.specs.{Ahead.least_lead, Leads.{surely_released, work_above, ahead_of, before_read, lead_if, lead_with, lead_at}, LeastTimes.{least_of_each, HaveSameLeastTimes}}

-- ---- sums of least times

abbrev least : TimeRange → ℕ
least range = range.least

same_sum : (ranges others : List TimeRange) → map least ranges ≡ map least others → least_times ranges ≡ least_times others
unfolding least_times
same_sum ranges others same = sym (sum-map least ranges) ∙ ap sum same ∙ sum-map least others

module _ (task other : Timing) (same : least_of_each task ≡ least_of_each other) (place : ℕ) where
  same_before : least_times (take place task.ranges) ≡ least_times (take place other.ranges)
  same_before = same_sum (take place task.ranges) (take place other.ranges)
      (sym (take-map least place task.ranges) ∙ ap (take place) same ∙ take-map least place other.ranges)

  same_after : least_times (drop (suc place) task.ranges) ≡ least_times (drop (suc place) other.ranges)
  same_after = same_sum (drop (suc place) task.ranges) (drop (suc place) other.ranges)
      (sym (drop-map least (suc place) task.ranges) ∙ ap (drop (suc place)) same ∙ drop-map least (suc place) other.ranges)

  same_own : (range_at task place).least ≡ (range_at other place).least
  same_own = sym (get_or-map least task.ranges place no_range)
      ∙ ap (λ (times : List ℕ). get_or times place (least no_range)) same
      ∙ get_or-map least other.ranges place no_range

module _ (one other : System) (same : HaveSameLeastTimes one other) (task : ℕ) where
  pub same_least_times : least_times (timing_at one task).ranges ≡ least_times (timing_at other task).ranges
  same_least_times = same_sum (timing_at one task).ranges (timing_at other task).ranges (same.least task)

  -- the spots of runnables are the same too
  pub same_spot : (place : ℕ) → spot_at (timing_at one task) place ≡ spot_at (timing_at other task) place
  unfolding spot_at
  same_spot place = λ i. record {
    before = same_before (timing_at one task) (timing_at other task) (same.least task) place i;
    own = same_own (timing_at one task) (timing_at other task) (same.least task) place i;
    after = same_after (timing_at one task) (timing_at other task) (same.least task) place i;
    deadline = same.alike.deadlines task i;
  }

-- ---- leads

module _ (one other : System) (same : HaveSameLeastTimes one other) (task : ℕ) where
  same_work : (in_phase : ℕ → Bool) → work_above one in_phase task ≡ work_above other in_phase task
  unfolding work_above
  same_work in_phase = λ i. λ from width. sum_by
      (λ above. surely_released (in_phase above) (same.alike.patterns above i) from width * same_least_times one other same above i)
      (same_above one other same.alike task i)

  -- what runs ahead of a runnable is the same, if as many least times stand before it
  same_ahead : (in_phase : ℕ → Bool) (cycle before : ℕ) → ahead_of one in_phase cycle task before ≡ ahead_of other in_phase cycle task before
  same_ahead in_phase cycle before = λ i. record {
    arrivals = arrivals_of (same.alike.patterns task i);
    cycle = cycle;
    before = before;
    deadline = same.alike.deadlines task i;
    work = same_work in_phase i;
  }

  same_lead_with : (in_phase : ℕ → Bool) (cycle place : ℕ) → lead_with one in_phase cycle task place ≡ lead_with other in_phase cycle task place
  unfolding lead_with
  same_lead_with in_phase cycle place = λ i.
      let before : ℕ = before_read (same.alike.accesses task i) (same_spot one other same task place i).before in
      lead_if (same.alike.accesses task i) (phase_of (same.alike.patterns task i)) before (least_lead (same_ahead in_phase cycle before i))

  -- the lead of a runnable is the same
  pub same_lead : (place : ℕ) → lead_at one task place ≡ lead_at other task place
  unfolding lead_at
  same_lead place =
      (λ i. lead_with one (is_one_of (same_in_phase one other same.alike task i)) (same_cycle one other same.alike task i) task place)
      ∙ same_lead_with (is_one_of (in_phase_above other task)) (cycle_of other task) place
