-- Over moments in order a complete chain ends after it begins.
use Rattle.std.proofs.Common.{◌≡◌, ℕ, zero, suc, ◌+◌, ◌-◌, ◌<◌, ◌≤◌, List, length, subst, arith}
use Rattle.std.specs.Prelude.{slice_index}
use Rattle.cl_model.specs.{declared.group.Group.Group, Groups.group_at}
use Rattle.cl_runs.specs.{Chains.{Moments, JobChain, first_group, last_group, first_job, last_job, IsForwardChain, AreBackwardLinks, IsAgeChain, IsReducedChain}, MomentOrder.{AreInOrder, HaveReadBeforeWriting}}

module _ (moments : Moments) (groups : List Group) (order : AreInOrder moments groups) (read_first : HaveReadBeforeWriting moments groups) where
  -- what a job writes comes after each read at or before that of the job
  write_after : (i m w from read : ℕ) → i < length groups → moments.writes (group_at groups i) m w
      → moments.reads (group_at groups i) m read → from ≤ read → from < w
  write_after i m w from read h writes reads before =
      let (r, earlier, again) = read_first i m w h writes in
      omega (arith, earlier, before, order.unique.reads i m r read h again reads)

  forward_after : (chain : JobChain) → IsForwardChain moments groups chain → (i w : ℕ) → i < length groups
      → moments.writes (group_at groups i) (slice_index chain.jobs i) w → chain.from < w
  forward_after chain complete zero w h writes =
      let (r, earlier, reads) = read_first 0 (first_job chain) w h writes in
      omega (
        arith,
        earlier,
        order.reads_rise 0 (first_job chain - 1) (first_job chain) chain.from r h
            (omega (arith, complete.not_first 0 h)) complete.from reads,
      )
  forward_after chain complete (suc i) w h writes =
      let link = complete.linked i h in
      write_after (suc i) (slice_index chain.jobs (suc i)) w chain.from link.read h writes link.reads
      (omega (arith, link.after, forward_after chain complete i link.write (omega arith) link.writes))

  -- a complete forward chain ends after it begins
  pub forward_ordered : (chain : JobChain) → IsForwardChain moments groups chain → chain.from < chain.to
  forward_ordered chain complete =
      let last : length chain.jobs - 1 ≡ length groups - 1 = omega (arith, complete.one_a_group) in
      forward_after chain complete (length groups - 1) chain.to (omega (arith, complete.some_group))
      (subst (λ i. moments.writes (last_group groups) (slice_index chain.jobs i) chain.to) last complete.to)

  backward_after : (jobs : List ℕ) → AreBackwardLinks moments groups jobs → (from : ℕ)
      → moments.reads (first_group groups) (slice_index jobs 0) from → (i w : ℕ) → i < length groups
      → moments.writes (group_at groups i) (slice_index jobs i) w → from < w
  backward_after jobs links from reads zero w h writes = write_after 0 (slice_index jobs 0) w from from h writes reads (omega arith)
  backward_after jobs links from reads (suc i) w h writes =
      let link = links.linked i h in
      write_after (suc i) (slice_index jobs (suc i)) w from link.read h writes link.reads
      (omega (arith, link.before, backward_after jobs links from reads i link.write (omega arith) link.writes))

  last_after : (jobs : List ℕ) → AreBackwardLinks moments groups jobs → (from w : ℕ)
      → moments.reads (first_group groups) (slice_index jobs 0) from
      → moments.writes (last_group groups) (slice_index jobs (length jobs - 1)) w → from < w
  last_after jobs links from w reads writes =
      let last : length jobs - 1 ≡ length groups - 1 = omega (arith, links.one_a_group) in
      backward_after jobs links from reads (length groups - 1) w (omega (arith, links.some_group))
      (subst (λ i. moments.writes (last_group groups) (slice_index jobs i) w) last writes)

  -- a complete backward chain ends after it begins, with its last write and with that of the job after the last
  pub reduced_ordered : (chain : JobChain) → IsReducedChain moments groups chain → chain.from < chain.to
  reduced_ordered chain complete = last_after chain.jobs complete.links chain.from chain.to complete.from complete.to

  pub age_ordered : (chain : JobChain) → IsAgeChain moments groups chain → chain.from < chain.to
  age_ordered chain complete =
      let written = complete.links.last_written in
      omega (
        arith,
        last_after chain.jobs complete.links chain.from written.write complete.from written.writes,
        order.writes_rise (length groups - 1) (last_job chain) (last_job chain + 1) written.write chain.to
            (omega (arith, complete.links.some_group)) (omega arith) written.writes complete.to,
      )
