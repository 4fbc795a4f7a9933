-- Lags bound the arrivals of jobs of which one reads before the other writes, so those of neighbouring jobs of chains.
use Rattle.std.proofs.Common.{◌≡◌, ℕ, pos, ◌+◌, ◌-◌, ◌<◌, ◌≤◌, true, inl, inr, length, sym, ap, ◌∙◌, subst, arith}
use Rattle.std.specs.Prelude.{◌+ℤ◌, ◌≤ℤ◌}
use Rattle.std.proofs.lemmas.Bool.{cases_lt}
use Rattle.std.proofs.lemmas.Int.{ints}
use Rattle.cl_model.specs.declared.group.Group.{Group}
use Rattle.cl_runs.specs.{TaskTiming.{System, IsSound}, Table.job_at, Run.{Run, jobs_of}, Legal.IsLegal, Moments.{Reads, Writes}, Chains.{HasWritten, IsEarliestReader, IsLatestWriter}, RunChains.run_moments}
use Rattle.cl_runs.proofs.{RunArrivals.arrivals_rise, MomentFacts.earlier_has_read}
use Rattle.cl_hop.specs.{Hops.{saves, lag}, Timings.AlwaysKeeps, declared.group_timing.GroupTiming.GroupTiming}
use Rattle.cl_hop.proofs.{LagTable.lag_lines, ReadsBeforeWrites.{arrival_where_saved, arrival_before_write, job_before_write}}

-- a lag bounds an arrival where it does so in each line of its table
lag_bounds : (a b : ℕ) (writer reader : GroupTiming) → (writer.task ≡ reader.task → a ≤ b)
    → (saves writer reader ≡ true → a + reader.read + 1 ≤ b + writer.jitter)
    → a + reader.read + 1 ≤ b + writer.write → (pos a +ℤ pos 1) ≤ℤ (pos b +ℤ lag writer reader)
lag_bounds a b writer reader one_task saved every_other = lag_lines (λ z. (pos a +ℤ pos 1) ≤ℤ (pos b +ℤ z)) writer reader
    (λ same. let within : a ≤ b = one_task same in omega (arith, ints, within))
    (λ saves. let within : a + reader.read + 1 ≤ b + writer.jitter = saved saves in omega (arith, ints, within))
    (λ other. omega (arith, ints, every_other))

-- a job that is no later arrives no later
no_later : (system : System) → IsSound system → (run : Run) → IsLegal system run → (x y : ℕ) → x ≡ y → y < length system.tasks → (k l : ℕ)
    → k ≤ l → l < length (jobs_of run x) → (job_at (jobs_of run y) k).arrival ≤ (job_at (jobs_of run x) l).arrival
no_later system sound run legal x y same is k l h below =
    let along = ap (λ (i : ℕ). (job_at (jobs_of run i) l).arrival) same in
    elim (cases_lt k l) [
      | inl earlier ↦ omega (arith, along, arrivals_rise system sound run legal y is k l earlier (subst (λ (i : ℕ). l < length (jobs_of run i)) same below))
      | inr late ↦ let one : k ≡ l = omega arith in omega (arith, along, ap (λ (n : ℕ). (job_at (jobs_of run y) n).arrival) one)
    ]

module _ (system : System) (sound : IsSound system) (x y : Group) (writer reader : GroupTiming)
    (keeps_x : AlwaysKeeps system x writer) (keeps_y : AlwaysKeeps system y reader)
    (run : Run) (legal : IsLegal system run) where
  -- a job that reads before another writes arrives less than the lag after it
  pub arrival_within_lag : (m k r w : ℕ) → Reads system run y.task k y.first r → Writes system run x.task m x.last w → r < w
      → (pos (job_at (jobs_of run y.task) k).arrival +ℤ pos 1)
      ≤ℤ (pos (job_at (jobs_of run x.task) m).arrival +ℤ lag writer reader)
  arrival_within_lag m k r w reads writes before = lag_bounds _ _ writer reader
      (λ same.
      let one : x.task ≡ y.task = sym keeps_x.of_group.task ∙ same ∙ keeps_y.of_group.task in
      no_later system sound run legal x.task y.task one keeps_y.is_group.is_task k m
      (job_before_write system sound run legal x.task y.task k y.first r m x.last w one reads writes before) writes.in_table)
      (arrival_where_saved system sound x y writer reader keeps_x keeps_y run legal k m r w reads writes before)
      (arrival_before_write system sound x y writer reader keeps_x keeps_y run legal k m r w reads writes before)

  -- where a job is the earliest reader, the one before it has read before the write
  pub forward_lag : (m k : ℕ) → 1 ≤ k → IsEarliestReader (run_moments system run) x y m k
      → (pos (job_at (jobs_of run y.task) (k - 1)).arrival +ℤ pos 1)
      ≤ℤ (pos (job_at (jobs_of run x.task) m).arrival +ℤ lag writer reader)
  unfolding run_moments
  forward_lag m k some earliest =
      let missed = earlier_has_read system sound run legal y.task (k - 1) y.first k y.first earliest.read (omega (arith, some))
      earliest.reads.is_runnable earliest.reads in
      let before : missed.read < earliest.write = elim (cases_lt missed.read earliest.write) [
        | inl before ↦ before
        | inr after ↦ absurd (omega (arith, some, earliest.least (k - 1) missed.read missed.reads after))
      ] in
      arrival_within_lag m (k - 1) missed.read earliest.write missed.reads earliest.writes before

  -- where a job is the latest writer, the one after it writes after the read
  pub backward_lag : (m k : ℕ) → IsLatestWriter (run_moments system run) x y m k → HasWritten (run_moments system run) x (m + 1)
      → (pos (job_at (jobs_of run y.task) k).arrival +ℤ pos 1)
      ≤ℤ (pos (job_at (jobs_of run x.task) (m + 1)).arrival +ℤ lag writer reader)
  unfolding run_moments
  backward_lag m k latest written =
      let before : latest.read < written.write = elim (cases_lt latest.read written.write) [
        | inl after ↦ after
        | inr by ↦ absurd (omega (arith, latest.greatest (m + 1) written.write written.writes by))
      ] in
      arrival_within_lag (m + 1) k latest.read written.write latest.reads written.writes before
