-- Two runs that are alike on the core of each group have the same chains of these groups.
use Rattle.std.proofs.Common.{ℕ, suc, ◌+◌, ◌-◌, ◌<◌, ◌↔◌, List, length, arith, ◌∙◌}
use Rattle.std.specs.Prelude.{slice_index}
use Rattle.cl_model.specs.{declared.{chain.{LengthKind.{LengthKind, TheVariants.{Reaction, Age, Reduced}}, RequirementKind.{RequirementKind, TheVariants.{Length, Delay}}}, group.Group.Group}, Groups.group_at}
use Rattle.cl_runs.specs.{TaskTiming.{System, timing_at}, Run.Run, Chains.{Moments, HasWritten, IsEarliestReader, IsLatestWriter, JobChain, first_group, first_job, last_job, IsForwardChain, AreBackwardLinks, IsAgeChain, IsReducedChain}, RunChains.run_moments, Delays.IsDelayChain}
use Rattle.cl_runs.specs.Requirements.{IsChainOfKind, IsChainRequired}
use Rattle.cl_runs.proofs.LegalFacts.{place_of_task}
use Rattle.cl_run_data.specs.Parts.{AreAlikeOn}
use Rattle.cl_run_data.proofs.{AlikeRuns.alike_back, AlikeMoments.{arrival_alike, reads_alike, writes_alike}}

-- two sorts of moments are the same for some groups
pub record AreSameFor (groups : List Group) (one other : Moments) : Type 0 where
  pub reads : (place job tick : ℕ) → place < length groups → one.reads (group_at groups place) job tick → other.reads (group_at groups place) job tick
  pub writes : (place job tick : ℕ) → place < length groups → one.writes (group_at groups place) job tick → other.writes (group_at groups place) job tick
  pub reads_back : (place job tick : ℕ) → place < length groups → other.reads (group_at groups place) job tick → one.reads (group_at groups place) job tick
  pub writes_back : (place job tick : ℕ) → place < length groups → other.writes (group_at groups place) job tick → one.writes (group_at groups place) job tick

module _ (groups : List Group) (one other : Moments) (same : AreSameFor groups one other) where
  pub written_same : (place job : ℕ) → place < length groups → HasWritten one (group_at groups place) job → HasWritten other (group_at groups place) job
  written_same place job h written = record { write = written.write; writes = same.writes place job written.write h written.writes }

  pub earliest_same : (i j m k : ℕ) → i < length groups → j < length groups
      → IsEarliestReader one (group_at groups i) (group_at groups j) m k → IsEarliestReader other (group_at groups i) (group_at groups j) m k
  earliest_same i j m k writer reader link = record {
    write = link.write;
    read = link.read;
    writes = same.writes i m link.write writer link.writes;
    reads = same.reads j k link.read reader link.reads;
    after = link.after;
    least = λ l r reads after. link.least l r (same.reads_back j l r reader reads) after;
  }

  pub latest_same : (i j m k : ℕ) → i < length groups → j < length groups
      → IsLatestWriter one (group_at groups i) (group_at groups j) m k → IsLatestWriter other (group_at groups i) (group_at groups j) m k
  latest_same i j m k writer reader link = record {
    write = link.write;
    read = link.read;
    writes = same.writes i m link.write writer link.writes;
    reads = same.reads j k link.read reader link.reads;
    before = link.before;
    greatest = λ l w writes before. link.greatest l w (same.writes_back i l w writer writes) before;
  }

  pub forward_same : (chain : JobChain) → IsForwardChain one groups chain → IsForwardChain other groups chain
  forward_same chain complete = record {
    some_group = complete.some_group;
    one_a_group = complete.one_a_group;
    not_first = complete.not_first;
    written = λ i h. written_same i (slice_index chain.jobs i) h (complete.written i h);
    linked = λ i h. earliest_same i (suc i) (slice_index chain.jobs i) (slice_index chain.jobs (suc i)) (omega arith) h (complete.linked i h);
    from = same.reads 0 (first_job chain - 1) chain.from complete.some_group complete.from;
    to = same.writes (length groups - 1) (last_job chain) chain.to (omega (arith, complete.some_group)) complete.to;
  }

  pub links_same : (jobs : List ℕ) → AreBackwardLinks one groups jobs → AreBackwardLinks other groups jobs
  links_same jobs links = record {
    some_group = links.some_group;
    one_a_group = links.one_a_group;
    linked = λ i h. latest_same i (suc i) (slice_index jobs i) (slice_index jobs (suc i)) (omega arith) h (links.linked i h);
    last_written = written_same (length groups - 1) (slice_index jobs (length jobs - 1)) (omega (arith, links.some_group)) links.last_written;
    next_written = written_same (length groups - 1) (slice_index jobs (length jobs - 1) + 1) (omega (arith, links.some_group)) links.next_written;
  }

  pub age_same : (chain : JobChain) → IsAgeChain one groups chain → IsAgeChain other groups chain
  age_same chain complete = record {
    links = links_same chain.jobs complete.links;
    from = same.reads 0 (first_job chain) chain.from complete.links.some_group complete.from;
    to = same.writes (length groups - 1) (last_job chain + 1) chain.to (omega (arith, complete.links.some_group)) complete.to;
  }

  pub reduced_same : (chain : JobChain) → IsReducedChain one groups chain → IsReducedChain other groups chain
  reduced_same chain complete = record {
    links = links_same chain.jobs complete.links;
    from = same.reads 0 (first_job chain) chain.from complete.links.some_group complete.from;
    to = same.writes (length groups - 1) (last_job chain) chain.to (omega (arith, complete.links.some_group)) complete.to;
  }

  pub kind_same : (kind : LengthKind) (chain : JobChain) → IsChainOfKind kind one groups chain → IsChainOfKind kind other groups chain
  kind_same Reaction chain complete = forward_same chain complete
  kind_same Age chain complete = age_same chain complete
  kind_same Reduced chain complete = reduced_same chain complete

-- runs are alike on the core of each group
pub record AreAlikeFor (system : System) (groups : List Group) (one other : Run) : Type 0 where
  pub alike : (place : ℕ) → place < length groups → AreAlikeOn system (timing_at system (group_at groups place).task).core one other

pub alike_for_back : (system : System) (groups : List Group) (one other : Run) → AreAlikeFor system groups one other → AreAlikeFor system groups other one
alike_for_back system groups one other all = record {
  alike = λ place within. alike_back system (timing_at system (group_at groups place).task).core one other (all.alike place within);
}

module _ (system : System) (groups : List Group) (one other : Run) (all : AreAlikeFor system groups one other) where
  back : AreAlikeFor system groups other one
  back = alike_for_back system groups one other all

  -- their moments are the same
  pub run_moments_same : AreSameFor groups (run_moments system one) (run_moments system other)
  unfolding run_moments
  run_moments_same = record {
    reads = λ place job tick h. reads_alike system (group_at groups place).task one other (all.alike place h) job (group_at groups place).first tick;
    writes = λ place job tick h. writes_alike system (group_at groups place).task one other (all.alike place h) job (group_at groups place).last tick;
    reads_back = λ place job tick h. reads_alike system (group_at groups place).task other one (back.alike place h) job (group_at groups place).first tick;
    writes_back = λ place job tick h. writes_alike system (group_at groups place).task other one (back.alike place h) job (group_at groups place).last tick;
  }

  first_task : (job : ℕ) → HasWritten (run_moments system one) (first_group groups) job → (first_group groups).task < length system.tasks
  unfolding run_moments
  first_task job written = place_of_task system (first_group groups).task (first_group groups).last written.writes.is_runnable

  pub delay_alike : (chain : JobChain) → IsDelayChain system one groups chain → IsDelayChain system other groups chain
  delay_alike chain complete = record {
    some_group = complete.some_group;
    one_a_group = complete.one_a_group;
    not_first = complete.not_first;
    written = λ i h. written_same groups _ _ run_moments_same i (slice_index chain.jobs i) h (complete.written i h);
    linked = λ i h. earliest_same groups _ _ run_moments_same i (suc i) (slice_index chain.jobs i) (slice_index chain.jobs (suc i)) (omega arith) h (complete.linked i h);
    from = complete.from ∙ arrival_alike system (first_group groups).task one other (all.alike 0 complete.some_group)
        (first_task (first_job chain) (complete.written 0 complete.some_group)) (first_job chain);
    to = run_moments_same.writes (length groups - 1) (last_job chain) chain.to (omega (arith, complete.some_group)) complete.to;
  }

  pub required_alike : (kind : RequirementKind) (chain : JobChain) → IsChainRequired kind system one groups chain → IsChainRequired kind system other groups chain
  required_alike (Length kind) chain complete = kind_same groups (run_moments system one) (run_moments system other) run_moments_same kind chain complete
  required_alike Delay chain complete = delay_alike chain complete

-- a chain of one is a chain of the other
pub same_required : (system : System) (groups : List Group) (one other : Run) → AreAlikeFor system groups one other
    → (kind : RequirementKind) (chain : JobChain) → (IsChainRequired kind system one groups chain) ↔ (IsChainRequired kind system other groups chain)
same_required system groups one other all kind chain = (
  required_alike system groups one other all kind chain,
  required_alike system groups other one (alike_for_back system groups one other all) kind chain,
)
