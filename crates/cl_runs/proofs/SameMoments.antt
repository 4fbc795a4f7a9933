-- Job chains depend on the moments of their groups alone.
use Rattle.std.proofs.Common.{◌≡◌, ℕ, suc, ◌+◌, ◌-◌, ◌<◌, List, length, sym, subst, arith}
use Rattle.cl_model.specs.{declared.group.Group.Group, Groups.group_at}
use Rattle.cl_runs.specs.{Chains.{Moments, HasWritten, IsEarliestReader, IsLatestWriter, JobChain, first_group, last_group, first_job, last_job, IsForwardChain, AreBackwardLinks, IsAgeChain, IsReducedChain}, SameMoments.HaveSameMoments}

-- so it is the other way round
pub turned : (one other : Moments) (groups others : List Group) → HaveSameMoments one other groups others → HaveSameMoments other one others groups
turned one other groups others same = record {
  count = sym same.count;
  reads = λ place job tick h. let both = same.reads place job tick (omega (arith, h, same.count)) in (both.1, both.0);
  writes = λ place job tick h. let both = same.writes place job tick (omega (arith, h, same.count)) in (both.1, both.0);
}

module _ (one other : Moments) (groups others : List Group) (same : HaveSameMoments one other groups others) where
  reads_also : (i job tick : ℕ) → i < length groups → one.reads (group_at groups i) job tick → other.reads (group_at others i) job tick
  reads_also i job tick h reads = (same.reads i job tick h).0 reads

  writes_also : (i job tick : ℕ) → i < length groups → one.writes (group_at groups i) job tick → other.writes (group_at others i) job tick
  writes_also i job tick h writes = (same.writes i job tick h).0 writes

  -- the first and the last group as well
  pub first_reads : (job tick : ℕ) → 0 < length groups → one.reads (first_group groups) job tick → other.reads (first_group others) job tick
  first_reads job tick some = reads_also 0 job tick some

  pub last_reads : (job tick : ℕ) → 0 < length groups → one.reads (last_group groups) job tick → other.reads (last_group others) job tick
  last_reads job tick some reads =
      subst (λ n. other.reads (group_at others (n - 1)) job tick) same.count (reads_also (length groups - 1) job tick (omega (arith, some)) reads)

  last_writes : (job tick : ℕ) → 0 < length groups → one.writes (last_group groups) job tick → other.writes (last_group others) job tick
  last_writes job tick some writes =
      subst (λ n. other.writes (group_at others (n - 1)) job tick) same.count (writes_also (length groups - 1) job tick (omega (arith, some)) writes)

module _ (one other : Moments) (groups others : List Group) (same : HaveSameMoments one other groups others) where
  back : HaveSameMoments other one others groups
  back = turned one other groups others same

  as_many : length groups ≡ length others
  as_many = same.count

  written_also : (i job : ℕ) → i < length groups → HasWritten one (group_at groups i) job
      → HasWritten other (group_at others i) job
  written_also i job h written = record { write = written.write; writes = writes_also one other groups others same i job written.write h written.writes }

  last_written_also : (job : ℕ) → 0 < length groups → HasWritten one (last_group groups) job
      → HasWritten other (last_group others) job
  last_written_also job some written = record { write = written.write; writes = last_writes one other groups others same job written.write some written.writes }

  earliest_also : (i writing reading : ℕ) → suc i < length groups
      → IsEarliestReader one (group_at groups i) (group_at groups (suc i)) writing reading
      → IsEarliestReader other (group_at others i) (group_at others (suc i)) writing reading
  earliest_also i writing reading h link = record {
    write = link.write;
    read = link.read;
    writes = writes_also one other groups others same i writing link.write (omega (arith, h)) link.writes;
    reads = reads_also one other groups others same (suc i) reading link.read h link.reads;
    after = link.after;
    least = λ job tick reads. link.least job tick (reads_also other one others groups back (suc i) job tick (omega (arith, h, as_many)) reads);
  }

  latest_also : (i writing reading : ℕ) → suc i < length groups
      → IsLatestWriter one (group_at groups i) (group_at groups (suc i)) writing reading
      → IsLatestWriter other (group_at others i) (group_at others (suc i)) writing reading
  latest_also i writing reading h link = record {
    write = link.write;
    read = link.read;
    writes = writes_also one other groups others same i writing link.write (omega (arith, h)) link.writes;
    reads = reads_also one other groups others same (suc i) reading link.read h link.reads;
    before = link.before;
    greatest = λ job tick writes. link.greatest job tick (writes_also other one others groups back i job tick (omega (arith, h, as_many)) writes);
  }

  -- ---- chains

  pub forward_also : (chain : JobChain) → IsForwardChain one groups chain → IsForwardChain other others chain
  forward_also chain complete = record {
    some_group = omega (arith, complete.some_group, as_many);
    one_a_group = omega (arith, complete.one_a_group, as_many);
    not_first = λ i h. complete.not_first i (omega (arith, h, as_many));
    written = λ i h. written_also i _ (omega (arith, h, as_many)) (complete.written i (omega (arith, h, as_many)));
    linked = λ i h. earliest_also i _ _ (omega (arith, h, as_many)) (complete.linked i (omega (arith, h, as_many)));
    from = first_reads one other groups others same (first_job chain - 1) chain.from complete.some_group complete.from;
    to = last_writes one other groups others same (last_job chain) chain.to complete.some_group complete.to;
  }

  links_also : (jobs : List ℕ) → AreBackwardLinks one groups jobs → AreBackwardLinks other others jobs
  links_also jobs links = record {
    some_group = omega (arith, links.some_group, as_many);
    one_a_group = omega (arith, links.one_a_group, as_many);
    linked = λ i h. latest_also i _ _ (omega (arith, h, as_many)) (links.linked i (omega (arith, h, as_many)));
    last_written = last_written_also _ links.some_group links.last_written;
    next_written = last_written_also _ links.some_group links.next_written;
  }

  pub age_also : (chain : JobChain) → IsAgeChain one groups chain → IsAgeChain other others chain
  age_also chain complete = record {
    links = links_also chain.jobs complete.links;
    from = first_reads one other groups others same (first_job chain) chain.from complete.links.some_group complete.from;
    to = last_writes one other groups others same (last_job chain + 1) chain.to complete.links.some_group complete.to;
  }

  pub reduced_also : (chain : JobChain) → IsReducedChain one groups chain → IsReducedChain other others chain
  reduced_also chain complete = record {
    links = links_also chain.jobs complete.links;
    from = first_reads one other groups others same (first_job chain) chain.from complete.links.some_group complete.from;
    to = last_writes one other groups others same (last_job chain) chain.to complete.links.some_group complete.to;
  }
