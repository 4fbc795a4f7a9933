-- Over moments that last long enough, groups whose jobs keep up have a complete age chain and a complete reduced one.
use Rattle.std.proofs.Common.{◌≡◌, ℕ, zero, suc, ◌+◌, ◌-◌, ◌<◌, ◌≤◌, List, [], ◌∷◌, length, refl, ap, subst, arith}
use Rattle.std.specs.Prelude.{slice_index, sum_by}
use Rattle.std.proofs.lemmas.List.Sums.{get_or-le-sum_by}
use Rattle.cl_model.specs.{declared.group.Group.Group, Groups.{no_group, group_at}}
use Rattle.cl_runs.specs.{Chains.{Moments, HasWritten, IsLatestWriter, JobChain, first_group, last_group, AreBackwardLinks, IsAgeChain, IsReducedChain}, MomentOrder.AreInOrder}
use Rattle.cl_phase.proofs.JobsInTime.{HasJobBy, HasJobsBy, KeepsUp, AllKeepUp, later_by, has_writer}

-- one more group before those of backward links
one_more : (moments : Moments) (group : Group) (job : ℕ) (groups : List Group) (jobs : List ℕ) → AreBackwardLinks moments groups jobs
    → IsLatestWriter moments group (group_at groups 0) job (slice_index jobs 0)
    → AreBackwardLinks moments (group ∷ groups) (job ∷ jobs)
one_more moments group job groups jobs links link =
    let some = links.some_group in
    let last : suc (length jobs - 1) ≡ length (job ∷ jobs) - 1 = omega (arith, some, links.one_a_group) in
    let place : suc (length groups - 1) ≡ length (group ∷ groups) - 1 = omega (arith, some) in
    record {
      some_group = omega arith;
      one_a_group = ap suc links.one_a_group;
      linked = linked;
      last_written = subst (λ i. HasWritten moments (group_at (group ∷ groups) i) (slice_index (job ∷ jobs) (length (job ∷ jobs) - 1))) place
          (subst (λ i. HasWritten moments (last_group groups) (slice_index (job ∷ jobs) i)) last links.last_written);
      next_written = subst (λ i. HasWritten moments (group_at (group ∷ groups) i) (slice_index (job ∷ jobs) (length (job ∷ jobs) - 1) + 1)) place
          (subst (λ i. HasWritten moments (last_group groups) (slice_index (job ∷ jobs) i + 1)) last links.next_written);
    }
  where
    linked : (i : ℕ) → suc i < length (group ∷ groups)
        → IsLatestWriter moments (group_at (group ∷ groups) i) (group_at (group ∷ groups) (suc i))
        (slice_index (job ∷ jobs) i) (slice_index (job ∷ jobs) (suc i))
    linked zero h = link
    linked (suc i) h = links.linked i (omega (arith, h))

-- a job of one group
one_group : (moments : Moments) (group : Group) (job : ℕ) → HasWritten moments group job → HasWritten moments group (job + 1)
    → AreBackwardLinks moments (group ∷ []) (job ∷ [])
one_group moments group job written next = record {
  some_group = omega arith;
  one_a_group = refl;
  linked = λ i none. absurd (omega (arith, none));
  last_written = written;
  next_written = next;
}

-- ---- how long

-- by when the last job of a backward chain, and the one after it, have written, where its first has this number or a
-- greater one
abbrev ends_by : (latest : Group → ℕ → ℕ) → (first : Group) → List Group → (from : ℕ) → ℕ
ends_by latest first [] from = latest first (suc from)
ends_by latest first (next ∷ groups) from = ends_by latest next groups (latest first from)

-- how long moments have to last for a backward chain
abbrev pub backward_ticks : (latest : Group → ℕ → ℕ) → List Group → ℕ
backward_ticks latest [] = 0
backward_ticks latest (first ∷ groups) =
    let end = ends_by latest first groups 0 in
    end + sum_by (λ (group : Group). latest group end) (first ∷ groups)

-- ---- chains

-- backward links whose first job has this number or a greater one, and reads by some moment
record HasBackwardLinks (moments : Moments) (groups : List Group) (from by : ℕ) : Type 0 where
  jobs : List ℕ
  links : AreBackwardLinks moments groups jobs
  read : ℕ
  reads : moments.reads (first_group groups) (slice_index jobs 0) read
  not_early : from ≤ read
  in_time : read ≤ by

links_of_one : (moments : Moments) (group : Group) (job by : ℕ) → HasJobBy moments group job by → HasJobBy moments group (suc job) by
    → HasBackwardLinks moments (group ∷ []) job by
links_of_one moments group job by last next =
    let after : suc job ≡ job + 1 = omega arith in
    record {
      jobs = job ∷ [];
      links = one_group moments group job (record { write = last.write; writes = last.writes })
          (subst (HasWritten moments group) after (record { write = next.write; writes = next.writes }));
      read = last.read;
      reads = last.reads;
      not_early = last.not_early;
      in_time = omega (arith, last.reads_first, last.in_time);
    }

module _ (moments : Moments) (order : (groups : List Group) → AreInOrder moments groups) (ticks : ℕ) (latest : Group → ℕ → ℕ) where
  -- links, with a group before whose job of this number has written by the read of the first
  links_before : (first next : Group) (groups : List Group) (from by : ℕ) → KeepsUp moments ticks latest first
      → latest first by ≤ ticks → by ≤ ticks → HasBackwardLinks moments (next ∷ groups) (latest first from) by
      → HasBackwardLinks moments (first ∷ next ∷ groups) from by
  links_before first next groups from by keeps long ends rest =
      let jobs : HasJobsBy moments first by (latest first by) = keeps by long in
      let early : HasJobsBy moments first from (latest first from) = keeps from (omega (arith, ends, rest.not_early, rest.in_time)) in
      let written = later_by moments first from (latest first from) rest.read (early from (omega arith)) rest.not_early in
      let found = has_writer moments order first next (slice_index rest.jobs 0) rest.read (latest first by) rest.reads
      (later_by moments first 0 (latest first from) rest.read (early 0 (omega arith)) rest.not_early)
      (λ job h. jobs job (omega (arith, h, rest.in_time))) in
      record {
        jobs = found.job ∷ rest.jobs;
        links = one_more moments first found.job (next ∷ groups) rest.jobs rest.links found.link;
        read = found.is_job.read;
        reads = found.is_job.reads;
        not_early = omega (arith, found.is_job.not_early, found.greatest from written.write written.writes written.in_time);
        in_time = omega (arith, found.is_job.reads_first, found.not_after, rest.in_time);
      }

  backward_links : (groups : List Group) (first : Group) (from : ℕ) → AllKeepUp moments ticks latest (first ∷ groups)
      → ends_by latest first groups from ≤ ticks
      → ((i : ℕ) → i < length (first ∷ groups) → latest (group_at (first ∷ groups) i) (ends_by latest first groups from) ≤ ticks)
      → HasBackwardLinks moments (first ∷ groups) from (ends_by latest first groups from)
  backward_links [] first from keep ends long =
      let jobs : HasJobsBy moments first (suc from) (latest first (suc from)) = keep 0 (omega arith) (suc from) ends in
      links_of_one moments first from (latest first (suc from)) (jobs from (omega arith)) (jobs (suc from) (omega arith))
  backward_links (next ∷ groups) first from keep ends long =
      let end : ℕ = ends_by latest first (next ∷ groups) from in
      let keeps : KeepsUp moments ticks latest first = keep 0 (omega arith) in
      links_before first next groups from end keeps (long 0 (omega arith)) ends
      (backward_links groups next (latest first from) (λ i h. keep (suc i) (omega (arith, h))) ends (λ i h. long (suc i) (omega (arith, h))))

  -- the links of groups
  has_backward_links : (groups : List Group) → 0 < length groups → AllKeepUp moments ticks latest groups
      → backward_ticks latest groups ≤ ticks
      → (by : ℕ) × HasBackwardLinks moments groups 0 by
  has_backward_links [] some keep long = absurd (omega (arith, some))
  has_backward_links (first ∷ groups) some keep long =
      let end : ℕ = ends_by latest first groups 0 in (
        end,
        backward_links groups first 0 keep (omega (arith, long))
            (λ i h. omega (arith, long, get_or-le-sum_by (λ (group : Group). latest group end) (first ∷ groups) i no_group h)),
      )

  module _ (groups : List Group) (some : 0 < length groups) (keep : AllKeepUp moments ticks latest groups)
      (long : backward_ticks latest groups ≤ ticks) where
    pub has_age_chain : (chain : JobChain) × IsAgeChain moments groups chain
    has_age_chain =
        let has = (has_backward_links groups some keep long).1 in (
          record { from = has.read; to = has.links.next_written.write; jobs = has.jobs },
          record { links = has.links; from = has.reads; to = has.links.next_written.writes },
        )

    pub has_reduced_chain : (chain : JobChain) × IsReducedChain moments groups chain
    has_reduced_chain =
        let has = (has_backward_links groups some keep long).1 in (
          record { from = has.read; to = has.links.last_written.write; jobs = has.jobs },
          record { links = has.links; from = has.reads; to = has.links.last_written.writes },
        )
