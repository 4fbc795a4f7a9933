-- Hops bound the arrivals of neighbouring jobs of chains: by the lag, over the greatest distance of one of the groups.
use Rattle.std.proofs.Common.{◌≡◌, ℕ, ℤ, pos, suc, ◌+◌, ◌-◌, ◌<◌, ◌≤◌, inl, inr, length, ap, subst, arith}
use Rattle.std.specs.Prelude.{◌+ℤ◌, ◌-ℤ◌, ◌≤ℤ◌}
use Rattle.std.proofs.lemmas.Bool.{cases_lt}
use Rattle.std.proofs.lemmas.Int.{ints}
use Rattle.cl_model.specs.declared.group.Group.{Group}
use Rattle.cl_runs.specs.{TaskTiming.{System, IsSound}, Table.job_at, Run.{Run, jobs_of}, Legal.IsLegal, Chains.{IsEarliestReader, IsLatestWriter}, RunChains.run_moments}
use Rattle.cl_runs.proofs.{RunArrivals.next_within, MomentFacts.reads_below, Agreement.{arrival_kept, reads_kept, write_returns}}
use Rattle.cl_hop.specs.{Hops.{lag, forward_hop, backward_hop}, Timings.AlwaysKeeps, declared.group_timing.GroupTiming.GroupTiming}
use Rattle.cl_hop.proofs.{LaterRuns.{NextWrite, next_write}, LagBounds.{arrival_within_lag, forward_lag}}

-- a job arrives at most a distance after the one before it, so at most a hop after what a lag bounds that by
one_later : (a b before distance : ℕ) (lag : ℤ) → (pos before +ℤ pos 1) ≤ℤ (pos b +ℤ lag) → a ≤ before + distance
    → pos a ≤ℤ (pos b +ℤ ((pos distance -ℤ pos 1) +ℤ lag))
one_later a b before distance lag bounded soon = omega (arith, ints, bounded, soon)

-- a job arrives at least a distance before the one after it
one_earlier : (a a_longer b b_longer next distance : ℕ) (lag : ℤ) → a ≡ a_longer → b ≡ b_longer
    → (pos a_longer +ℤ pos 1) ≤ℤ (pos next +ℤ lag) → next ≤ b_longer + distance
    → pos a ≤ℤ (pos b +ℤ ((pos distance -ℤ pos 1) +ℤ lag))
one_earlier a a_longer b b_longer next distance lag same_a same_b bounded soon = omega (arith, ints, same_a, same_b, bounded, soon)

module _ (system : System) (sound : IsSound system) (x y : Group) (writer reader : GroupTiming)
    (keeps_x : AlwaysKeeps system x writer) (keeps_y : AlwaysKeeps system y reader)
    (run : Run) (legal : IsLegal system run) (m k : ℕ) where
  -- forward, from the reader's job before
  pub forward_arrival : 1 ≤ k → IsEarliestReader (run_moments system run) x y m k
      → pos (job_at (jobs_of run y.task) k).arrival
      ≤ℤ (pos (job_at (jobs_of run x.task) m).arrival +ℤ forward_hop writer reader)
  unfolding run_moments
  forward_arrival some earliest =
      let next : k ≡ suc (k - 1) = omega (arith, some) in
      let soon : (job_at (jobs_of run y.task) k).arrival ≤ (job_at (jobs_of run y.task) (k - 1)).arrival + reader.distance = omega (
        arith,
        ap (λ (n : ℕ). (job_at (jobs_of run y.task) n).arrival) next,
        next_within system sound run legal y.task keeps_y.is_group.is_task (k - 1) (subst (λ (n : ℕ). n < length (jobs_of run y.task)) next earliest.reads.in_table),
        keeps_y.of_group.distance,
      ) in
      one_later _ _ _ _ _ (forward_lag system sound x y writer reader keeps_x keeps_y run legal m k some earliest) soon

  -- backward, to the writer's next job, which writes after the read
  next_after : (n : NextWrite system run x.task m x.last) → (latest : IsLatestWriter (run_moments system run) x y m k) → latest.read < n.write
  unfolding run_moments
  next_after n latest = elim (cases_lt latest.read n.write) [
    | inl after ↦ after
    | inr by ↦
        let end = reads_below system sound run legal y.task k y.first latest.read latest.reads in
        absurd (omega (
          arith,
          latest.greatest (suc m) n.write
              (write_returns system sound run n.longer legal n.legal n.goes_on x.task (suc m) x.last n.write n.writes (omega arith)) by,
        ))
  ]

  pub backward_arrival : IsLatestWriter (run_moments system run) x y m k
      → pos (job_at (jobs_of run y.task) k).arrival
      ≤ℤ (pos (job_at (jobs_of run x.task) m).arrival +ℤ backward_hop writer reader)
  unfolding run_moments
  backward_arrival latest =
      let n = next_write system sound run legal x writer keeps_x m latest.writes.in_table in
      let soon : (job_at (jobs_of n.longer x.task) (suc m)).arrival ≤ (job_at (jobs_of n.longer x.task) m).arrival + writer.distance = omega (
        arith,
        next_within system sound n.longer n.legal x.task keeps_x.is_group.is_task m n.in_table,
        keeps_x.of_group.distance,
      ) in
      one_earlier _ _ _ _ _ _ _
      (arrival_kept system run n.longer n.goes_on y.task k latest.reads.in_table)
      (arrival_kept system run n.longer n.goes_on x.task m latest.writes.in_table)
      (arrival_within_lag system sound x y writer reader keeps_x keeps_y n.longer n.legal (suc m) k latest.read n.write
      (reads_kept system run n.longer n.goes_on y.task k y.first latest.read latest.reads) n.writes (next_after n latest))
      soon
