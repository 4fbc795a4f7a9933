-- Complete chains over moments that agree up to an end are complete over the longer ones.
use Rattle.std.proofs.Common.{ℕ, suc, ◌+◌, ◌-◌, ◌<◌, ◌≤◌, inl, inr, List, length, arith}
use Rattle.std.specs.Prelude.{slice_index}
use Rattle.std.proofs.lemmas.Bool.{cases_lt}
use Rattle.cl_runs.specs.{TaskTiming.{System, IsSound}, Run.Run, Legal.IsLegal, GoesOn.GoesOn, Chains.{Moments, HasWritten, IsEarliestReader, IsLatestWriter, JobChain, first_group, last_group, first_job, last_job, IsForwardChain, AreBackwardLinks, IsAgeChain, IsReducedChain}}
use Rattle.cl_runs.specs.RunChains.{run_moments}
use Rattle.cl_model.specs.{declared.group.Group.Group, Groups.group_at}
use Rattle.cl_runs.proofs.{MomentFacts.{reads_below, reads_rise}, Agreement.{reads_kept, writes_kept, read_returns, write_returns}}

-- moments that go on from others: they have all of the old ones, reads below the end and writes at or before it are
-- old ones, old reads lie below the end, and reads rise with the job number
pub record GoOn (old new : Moments) (end : ℕ) : Type 0 where
  pub reads_kept : (g : Group) (k t : ℕ) → old.reads g k t → new.reads g k t
  pub writes_kept : (g : Group) (k t : ℕ) → old.writes g k t → new.writes g k t
  pub reads_back : (g : Group) (k t : ℕ) → new.reads g k t → t < end → old.reads g k t
  pub writes_back : (g : Group) (k t : ℕ) → new.writes g k t → t ≤ end → old.writes g k t
  pub reads_below : (g : Group) (k t : ℕ) → old.reads g k t → t < end
  pub reads_rise : (g : Group) (k l s t : ℕ) → k < l → new.reads g k s → new.reads g l t → s < t

module _ (old new : Moments) (end : ℕ) (go : GoOn old new end) where
  written_kept : (g : Group) (m : ℕ) → HasWritten old g m → HasWritten new g m
  written_kept g m written = record { write = written.write; writes = go.writes_kept g m written.write written.writes }

  earliest_kept : (x y : Group) (m k : ℕ) → IsEarliestReader old x y m k → IsEarliestReader new x y m k
  earliest_kept x y m k reader = record {
    write = reader.write;
    read = reader.read;
    writes = go.writes_kept x m reader.write reader.writes;
    reads = go.reads_kept y k reader.read reader.reads;
    after = reader.after;
    least = λ l r reads after. elim (cases_lt r end) [
      | inl below ↦ reader.least l r (go.reads_back y l r reads below) after
      | inr past ↦ elim (cases_lt l k) [
        | inl earlier ↦ absurd (omega (
          arith,
          past,
          go.reads_below y k reader.read reader.reads,
          go.reads_rise y l k r reader.read earlier reads (go.reads_kept y k reader.read reader.reads),
        ))
        | inr later ↦ later
      ]
    ];
  }

  latest_kept : (x y : Group) (m k : ℕ) → IsLatestWriter old x y m k → IsLatestWriter new x y m k
  latest_kept x y m k writer = record {
    write = writer.write;
    read = writer.read;
    writes = go.writes_kept x m writer.write writer.writes;
    reads = go.reads_kept y k writer.read writer.reads;
    before = writer.before;
    greatest = λ l w writes before.
        writer.greatest l w (go.writes_back x l w writes (omega (arith, before, go.reads_below y k writer.read writer.reads))) before;
  }

  pub forward_kept : (groups : List Group) (chain : JobChain) → IsForwardChain old groups chain → IsForwardChain new groups chain
  forward_kept groups chain complete = record {
    some_group = complete.some_group;
    one_a_group = complete.one_a_group;
    not_first = complete.not_first;
    written = λ i h. written_kept (group_at groups i) (slice_index chain.jobs i) (complete.written i h);
    linked = λ i h. earliest_kept (group_at groups i) (group_at groups (suc i)) (slice_index chain.jobs i) (slice_index chain.jobs (suc i)) (complete.linked i h);
    from = go.reads_kept (first_group groups) (first_job chain - 1) chain.from complete.from;
    to = go.writes_kept (last_group groups) (last_job chain) chain.to complete.to;
  }

  links_kept : (groups : List Group) (jobs : List ℕ) → AreBackwardLinks old groups jobs → AreBackwardLinks new groups jobs
  links_kept groups jobs links = record {
    some_group = links.some_group;
    one_a_group = links.one_a_group;
    linked = λ i h. latest_kept (group_at groups i) (group_at groups (suc i)) (slice_index jobs i) (slice_index jobs (suc i)) (links.linked i h);
    last_written = written_kept (last_group groups) (slice_index jobs (length jobs - 1)) links.last_written;
    next_written = written_kept (last_group groups) (slice_index jobs (length jobs - 1) + 1) links.next_written;
  }

  pub age_kept : (groups : List Group) (chain : JobChain) → IsAgeChain old groups chain → IsAgeChain new groups chain
  age_kept groups chain complete = record {
    links = links_kept groups chain.jobs complete.links;
    from = go.reads_kept (first_group groups) (first_job chain) chain.from complete.from;
    to = go.writes_kept (last_group groups) (last_job chain + 1) chain.to complete.to;
  }

  pub reduced_kept : (groups : List Group) (chain : JobChain) → IsReducedChain old groups chain → IsReducedChain new groups chain
  reduced_kept groups chain complete = record {
    links = links_kept groups chain.jobs complete.links;
    from = go.reads_kept (first_group groups) (first_job chain) chain.from complete.from;
    to = go.writes_kept (last_group groups) (last_job chain) chain.to complete.to;
  }

-- the moments of a legal run go on from those of a run that it goes on from
module _ (system : System) (sound : IsSound system) (shorter longer : Run) (legal : IsLegal system shorter) (legal_longer : IsLegal system longer)
    (goes_on : GoesOn shorter longer) where
  run_goes_on : GoOn (run_moments system shorter) (run_moments system longer) shorter.table.ticks
  unfolding run_moments
  run_goes_on = record {
    reads_kept = λ g k t. reads_kept system shorter longer goes_on g.task k g.first t;
    writes_kept = λ g k t. writes_kept system shorter longer goes_on g.task k g.last t;
    reads_back = λ g k t. read_returns system sound shorter longer legal legal_longer goes_on g.task k g.first t;
    writes_back = λ g k t. write_returns system sound shorter longer legal legal_longer goes_on g.task k g.last t;
    reads_below = λ g k t. reads_below system sound shorter legal g.task k g.first t;
    reads_rise = λ g k l s t. reads_rise system sound longer legal_longer g.task k g.first l g.first s t;
  }

  pub run_forward_kept : (groups : List Group) (chain : JobChain)
      → IsForwardChain (run_moments system shorter) groups chain → IsForwardChain (run_moments system longer) groups chain
  run_forward_kept = forward_kept (run_moments system shorter) (run_moments system longer) shorter.table.ticks run_goes_on

  pub run_age_kept : (groups : List Group) (chain : JobChain)
      → IsAgeChain (run_moments system shorter) groups chain → IsAgeChain (run_moments system longer) groups chain
  run_age_kept = age_kept (run_moments system shorter) (run_moments system longer) shorter.table.ticks run_goes_on

  pub run_reduced_kept : (groups : List Group) (chain : JobChain)
      → IsReducedChain (run_moments system shorter) groups chain → IsReducedChain (run_moments system longer) groups chain
  run_reduced_kept = reduced_kept (run_moments system shorter) (run_moments system longer) shorter.table.ticks run_goes_on
