-- Parts of complete forward chains: a part of the groups, with the jobs of that part, is a complete chain of its own.
use Rattle.std.proofs.Common.{◌≡◌, ℕ, suc, ◌+◌, ◌-◌, ◌<◌, ◌≤◌, List, length, take, drop, sym, ap, ◌∙◌, subst, arith}
use Rattle.std.specs.Prelude.{slice_index}
use Rattle.std.proofs.lemmas.List.{length-drop, length-take-le, get_or-drop, get_or-take}
use Rattle.cl_model.specs.{declared.group.Group.Group, Groups.{no_group, group_at}}
use Rattle.cl_runs.specs.{Chains.{Moments, HasWritten, IsEarliestReader, JobChain, IsForwardChain}, Run.Run, RunChains.run_moments, TaskTiming.System}

-- of groups and jobs that are the same
module _ (moments : Moments) where
  same_reads : (g h : Group) (j k t : ℕ) → h ≡ g → k ≡ j → moments.reads g j t → moments.reads h k t
  same_reads g h j k t e f reads = subst (λ x. moments.reads x k t) (sym e) (subst (λ n. moments.reads g n t) (sym f) reads)

  same_writes : (g h : Group) (j k t : ℕ) → h ≡ g → k ≡ j → moments.writes g j t → moments.writes h k t
  same_writes g h j k t e f writes = subst (λ x. moments.writes x k t) (sym e) (subst (λ n. moments.writes g n t) (sym f) writes)

  same_written : (g h : Group) (j k : ℕ) → h ≡ g → k ≡ j → HasWritten moments g j → HasWritten moments h k
  same_written g h j k e f written = record { write = written.write; writes = same_writes g h j k written.write e f written.writes }

  same_link : (g h g' h' : Group) (j k j' k' : ℕ) → g' ≡ g → h' ≡ h → j' ≡ j → k' ≡ k
      → IsEarliestReader moments g h j k → IsEarliestReader moments g' h' j' k'
  same_link g h g' h' j k j' k' eg eh ej ek link = record {
    write = link.write;
    read = link.read;
    writes = same_writes g g' j j' link.write eg ej link.writes;
    reads = same_reads h h' k k' link.read eh ek link.reads;
    after = link.after;
    least = λ other r reads after. subst (λ n. n ≤ other) (sym ek) (link.least other r (subst (λ x. moments.reads x other r) eh reads) after);
  }

module _ (moments : Moments) (groups : List Group) (chain : JobChain) (complete : IsForwardChain moments groups chain) (offset count : ℕ)
    (some : 0 < count) (fits : offset + count ≤ length groups) (own : List Group) (jobs : List ℕ) (own_count : length own ≡ count)
    (jobs_count : length jobs ≡ count) (own_are : (i : ℕ) → i < count → group_at own i ≡ group_at groups (offset + i))
    (jobs_are : (i : ℕ) → i < count → slice_index jobs i ≡ slice_index chain.jobs (offset + i)) (from to : ℕ)
    (reads : moments.reads (group_at groups offset) (slice_index chain.jobs offset - 1) from)
    (writes : moments.writes (group_at groups (offset + (count - 1))) (slice_index chain.jobs (offset + (count - 1))) to) where
  abbrev own_chain : JobChain
  own_chain = record { from = from; to = to; jobs = jobs }

  own_at : (i k : ℕ) → i < count → k ≡ offset + i → group_at own i ≡ group_at groups k
  own_at i k lt e = own_are i lt ∙ ap (group_at groups) (sym e)

  job_at : (i k : ℕ) → i < count → k ≡ offset + i → slice_index jobs i ≡ slice_index chain.jobs k
  job_at i k lt e = jobs_are i lt ∙ ap (slice_index chain.jobs) (sym e)

  pub part_complete : IsForwardChain moments own own_chain
  part_complete = record {
    some_group = omega (arith, own_count, some);
    one_a_group = jobs_count ∙ sym own_count;
    not_first = λ i lt.
        let within : i < count = omega (arith, lt, own_count) in
        subst (λ n. 1 ≤ n) (sym (jobs_are i within)) (complete.not_first (offset + i) (omega arith));
    written = λ i lt.
        let within : i < count = omega (arith, lt, own_count) in
        same_written moments _ _ _ _ (own_are i within) (jobs_are i within) (complete.written (offset + i) (omega arith));
    linked = λ i lt.
        let next : suc i < count = omega (arith, lt, own_count) in
        let here : i < count = omega arith in
        let e : suc (offset + i) ≡ offset + suc i = omega arith in
        same_link moments _ _ _ _ _ _ _ _ (own_are i here) (own_at (suc i) (suc (offset + i)) next e) (jobs_are i here)
        (job_at (suc i) (suc (offset + i)) next e) (complete.linked (offset + i) (omega arith));
    from =
        let e : offset ≡ offset + 0 = omega arith in
        same_reads moments _ _ _ _ from (own_at 0 offset some e) (ap (λ n. n - 1) (job_at 0 offset some e)) reads;
    to =
        let last : count - 1 < count = omega arith in
        let same : length own - 1 ≡ count - 1 = omega (arith, own_count) in
        let same_jobs : length jobs - 1 ≡ count - 1 = omega (arith, jobs_count) in
        same_writes moments _ _ _ _ to (ap (group_at own) same ∙ own_are (count - 1) last)
        (ap (slice_index jobs) same_jobs ∙ jobs_are (count - 1) last) writes;
  }

-- consecutive groups of a chain, with the jobs at their places
pub part_of_run : (system : System) (run : Run) (groups : List Group) (chain : JobChain) → IsForwardChain (run_moments system run) groups chain
    → (first count : ℕ) → 0 < count → first + count ≤ length groups → (from to : ℕ)
    → (run_moments system run).reads (group_at groups first) (slice_index chain.jobs first - 1) from
    → (run_moments system run).writes (group_at groups (first + (count - 1))) (slice_index chain.jobs (first + (count - 1))) to
    → IsForwardChain (run_moments system run) (take count (drop first groups)) (record { from = from; to = to; jobs = take count (drop first chain.jobs) })
part_of_run system run groups chain complete first count some fits from to =
    part_complete (run_moments system run) groups chain complete first count some fits (take count (drop first groups)) (take count (drop first chain.jobs))
    (length-take-le count (drop first groups) (omega (arith, fits, length-drop first groups)))
    (length-take-le count (drop first chain.jobs) (omega (arith, fits, length-drop first chain.jobs, complete.one_a_group)))
    (λ i lt. get_or-take count (drop first groups) i no_group lt ∙ get_or-drop first groups i no_group)
    (λ i lt. get_or-take count (drop first chain.jobs) i 0 lt ∙ get_or-drop first chain.jobs i 0) from to
