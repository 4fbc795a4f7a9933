-- The lists of moments of a run's groups: complete chains over them are those of the run.
use Rattle.std.proofs.Common.{◌≡◌, ℕ, suc, ◌+◌, ◌-◌, ◌<◌, ◌≤◌, Option, Some, None, List, length, sym, ap, ◌∙◌, subst, arith}
use Rattle.std.specs.Prelude.{slice_index}
use Rattle.cl_model.specs.{declared.{model.SystemModel.SystemModel, group.Group.Group}, ByNumber.chain_at, Groups.{groups_of, groups_at, group_at, steps_of}, Validity.IsValid}
use Rattle.cl_runs.specs.{TaskTiming.System, SystemOf.system_of, Run.{Run, IsInForm}, Chains.{JobChain, IsEarliestReader, IsLatestWriter, last_group, first_job, last_job, IsForwardChain, AreBackwardLinks, IsAgeChain, IsReducedChain}, RunChains.run_moments, MomentOrder.AreInOrder}
use Rattle.cl_runs.specs.{MomentOrder.HaveReadBeforeWriting, Measured.{IsMeasuredBy, IsCountOf, Measured, IsMeasured}}
use Rattle.cl_runs.proofs.{ModelSystem.system_sound, ChainsOrdered.{forward_ordered, age_ordered, reduced_ordered}}
use Rattle.cl_check.specs.InOrder.{AreGroupsInOrder}
use Rattle.cl_chain.specs.{declared.group_moments.GroupMoments.GroupMoments, JobChains.IsChainOf, Inner.{GroupTables.{moment_at, NeverFall, reads_in, writes_in, AreTables}, Hops.{IsForwardHop, IsBackwardHop}, ChainsOver.{IsForwardOver, AreBackwardJobs, last_writes, IsAgeOver}}}
use Rattle.cl_chain.specs.Inner.ChainsOver.{IsReducedOver, AreOrdered, IsMeasuredOver}
use Rattle.cl_chain.proofs.{ForwardFacts.forward_written, MomentsInOrder.{moments_in_order, have_read}}

module _ (system : System) (run : Run) (all : List Group) (tables : List GroupMoments) (are : AreTables system run all tables) where
  -- ---- moments

  pub read_there : (i : ℕ) → i < length tables → (job t : ℕ) → moment_at (reads_in tables i) job ≡ Some t → (run_moments system run).reads (group_at all i) job t
  unfolding run_moments
  read_there i h job t at = (are.reads i h).sound job t at

  pub there_read : (i : ℕ) → i < length tables → (job t : ℕ) → (run_moments system run).reads (group_at all i) job t → moment_at (reads_in tables i) job ≡ Some t
  unfolding run_moments
  there_read i h job t reads = (are.reads i h).complete job t reads

  pub write_there : (i : ℕ) → i < length tables → (job t : ℕ) → moment_at (writes_in tables i) job ≡ Some t → (run_moments system run).writes (group_at all i) job t
  unfolding run_moments
  write_there i h job t at = (are.writes i h).sound job t at

  pub there_write : (i : ℕ) → i < length tables → (job t : ℕ) → (run_moments system run).writes (group_at all i) job t → moment_at (writes_in tables i) job ≡ Some t
  unfolding run_moments
  there_write i h job t writes = (are.writes i h).complete job t writes

  -- ---- hops

  earliest : (i : ℕ) → suc i < length tables → (job reader : ℕ) → IsForwardHop (writes_in tables i) (reads_in tables (suc i)) job reader
      → IsEarliestReader (run_moments system run) (group_at all i) (group_at all (suc i)) job reader
  earliest i h job reader hop = record {
    write = hop.write;
    read = hop.is_reader.read;
    writes = write_there i (omega (arith, h)) job hop.write hop.is_write.writes_then;
    reads = read_there (suc i) h reader hop.is_reader.read hop.is_reader.reads_then;
    after = hop.is_reader.after;
    least = λ other r reads late. hop.is_reader.least other r (there_read (suc i) h other r reads) late;
  }

  forward_hop : (i : ℕ) → suc i < length tables → (job reader : ℕ) → 1 ≤ job
      → IsEarliestReader (run_moments system run) (group_at all i) (group_at all (suc i)) job reader
      → IsForwardHop (writes_in tables i) (reads_in tables (suc i)) job reader
  forward_hop i h job reader some is = record {
    write = is.write;
    is_write = record { not_first = some; writes_then = there_write i (omega (arith, h)) job is.write is.writes };
    is_reader = record {
      read = is.read;
      reads_then = there_read (suc i) h reader is.read is.reads;
      after = is.after;
      least = λ other r at late. is.least other r (read_there (suc i) h other r at) late;
    };
  }

  latest : (i : ℕ) → suc i < length tables → (writer job : ℕ) → IsBackwardHop (writes_in tables i) (reads_in tables (suc i)) writer job
      → IsLatestWriter (run_moments system run) (group_at all i) (group_at all (suc i)) writer job
  latest i h writer job hop = record {
    write = hop.is_writer.write;
    read = hop.read;
    writes = write_there i (omega (arith, h)) writer hop.is_writer.write hop.is_writer.writes_then;
    reads = read_there (suc i) h job hop.read hop.reads_then;
    before = hop.is_writer.before;
    greatest = λ other w writes by. hop.is_writer.greatest other w (there_write i (omega (arith, h)) other w writes) by;
  }

  backward_hop : (i : ℕ) → suc i < length tables → (writer job : ℕ)
      → IsLatestWriter (run_moments system run) (group_at all i) (group_at all (suc i)) writer job
      → IsBackwardHop (writes_in tables i) (reads_in tables (suc i)) writer job
  backward_hop i h writer job is = record {
    read = is.read;
    reads_then = there_read (suc i) h job is.read is.reads;
    is_writer = record {
      write = is.write;
      writes_then = there_write i (omega (arith, h)) writer is.write is.writes;
      before = is.before;
      greatest = λ other w at by. is.greatest other w (write_there i (omega (arith, h)) other w at) by;
    };
  }

  -- ---- chains

  pub forward_of_run : (chain : JobChain) → IsForwardOver tables chain → IsForwardChain (run_moments system run) all chain
  forward_of_run chain is =
      let count = are.one_a_group in
      let one_a = is.jobs.one_a_group in
      record {
        some_group = omega (arith, is.jobs.some, count);
        one_a_group = one_a ∙ count;
        not_first = λ i h. (forward_written tables chain.jobs (length tables) chain.to is.jobs i (omega (arith, h, count))).1.not_first;
        written = λ i h.
            let written = forward_written tables chain.jobs (length tables) chain.to is.jobs i (omega (arith, h, count)) in
            record { write = written.0; writes = write_there i (omega (arith, h, count)) _ written.0 written.1.writes_then };
        linked = λ i h. earliest i (omega (arith, h, count)) _ _ (is.jobs.linked i (omega (arith, h, count)));
        from = read_there 0 is.jobs.some _ chain.from is.from;
        to = subst (λ n. (run_moments system run).writes (group_at all n) (last_job chain) chain.to) (ap (λ n. n - 1) (one_a ∙ count))
            (write_there (length chain.jobs - 1) (omega (arith, one_a, is.jobs.some)) (last_job chain) chain.to
            (is.jobs.last (length chain.jobs - 1) (omega (arith, one_a, is.jobs.some))).writes_then);
      }

  pub run_of_forward : (chain : JobChain) → IsForwardChain (run_moments system run) all chain → IsForwardOver tables chain
  run_of_forward chain is =
      let count = are.one_a_group in
      let one_a = is.one_a_group in
      record {
        jobs = record {
          some = omega (arith, is.some_group, count);
          one_a_group = one_a ∙ sym count;
          linked = λ i h. forward_hop i h _ _ (is.not_first i (omega (arith, h, count))) (is.linked i (omega (arith, h, count)));
          last = λ i here.
              let end : length chain.jobs - 1 ≡ i = omega (arith, here, count, one_a) in
              let last : length all - 1 ≡ i = omega (arith, here, count) in
              record {
                not_first = is.not_first i (omega (arith, here, count));
                writes_then = there_write i (omega (arith, here)) (slice_index chain.jobs i) chain.to
                    (subst (λ n. (run_moments system run).writes (group_at all n) (slice_index chain.jobs i) chain.to) last
                    (subst (λ n. (run_moments system run).writes (last_group all) (slice_index chain.jobs n) chain.to) end is.to));
              };
        };
        from = there_read 0 (omega (arith, is.some_group, count)) _ chain.from is.from;
      }

  last_there : 0 < length tables → (job t : ℕ) → moment_at (last_writes tables) job ≡ Some t → (run_moments system run).writes (last_group all) job t
  last_there some job t at =
      subst (λ n. (run_moments system run).writes (group_at all n) job t) (ap (λ n. n - 1) are.one_a_group)
      (write_there (length tables - 1) (omega (arith, some)) job t at)

  there_last : 0 < length tables → (job t : ℕ) → (run_moments system run).writes (last_group all) job t → moment_at (last_writes tables) job ≡ Some t
  there_last some job t writes = there_write (length tables - 1) (omega (arith, some)) job t
      (subst (λ n. (run_moments system run).writes (group_at all n) job t) (ap (λ n. n - 1) (sym are.one_a_group)) writes)

  links_of_run : (jobs : List ℕ) → AreBackwardJobs tables (length tables) jobs → (write next : ℕ)
      → moment_at (last_writes tables) (slice_index jobs (length jobs - 1)) ≡ Some write
      → moment_at (last_writes tables) (slice_index jobs (length jobs - 1) + 1) ≡ Some next → AreBackwardLinks (run_moments system run) all jobs
  links_of_run jobs is write next last after =
      let count = are.one_a_group in
      record {
        some_group = omega (arith, is.some, count);
        one_a_group = is.one_a_group ∙ count;
        linked = λ i h. latest i (omega (arith, h, count)) _ _ (is.linked i (omega (arith, h, count)));
        last_written = record { write = write; writes = last_there is.some _ write last };
        next_written = record { write = next; writes = last_there is.some _ next after };
      }

  run_of_links : (jobs : List ℕ) → AreBackwardLinks (run_moments system run) all jobs → AreBackwardJobs tables (length tables) jobs
  run_of_links jobs is =
      let count = are.one_a_group in
      record {
        some = omega (arith, is.some_group, count);
        one_a_group = is.one_a_group ∙ sym count;
        linked = λ i h. backward_hop i h _ _ (is.linked i (omega (arith, h, count)));
      }

  pub age_of_run : (chain : JobChain) → IsAgeOver tables chain → IsAgeChain (run_moments system run) all chain
  age_of_run chain is = record {
    links = links_of_run chain.jobs is.jobs is.last.0 chain.to is.last.1 is.to;
    from = read_there 0 is.jobs.some _ chain.from is.from;
    to = last_there is.jobs.some _ chain.to is.to;
  }

  pub run_of_age : (chain : JobChain) → IsAgeChain (run_moments system run) all chain → IsAgeOver tables chain
  run_of_age chain is =
      let jobs = run_of_links chain.jobs is.links in
      record {
        jobs = jobs;
        from = there_read 0 jobs.some _ chain.from is.from;
        last = (is.links.last_written.write, there_last jobs.some _ _ is.links.last_written.writes);
        to = there_last jobs.some _ chain.to is.to;
      }

  pub reduced_of_run : (chain : JobChain) → IsReducedOver tables chain → IsReducedChain (run_moments system run) all chain
  reduced_of_run chain is = record {
    links = links_of_run chain.jobs is.jobs chain.to is.next.0 is.to is.next.1;
    from = read_there 0 is.jobs.some _ chain.from is.from;
    to = last_there is.jobs.some _ chain.to is.to;
  }

  pub run_of_reduced : (chain : JobChain) → IsReducedChain (run_moments system run) all chain → IsReducedOver tables chain
  run_of_reduced chain is =
      let jobs = run_of_links chain.jobs is.links in
      record {
        jobs = jobs;
        from = there_read 0 jobs.some _ chain.from is.from;
        to = there_last jobs.some _ chain.to is.to;
        next = (is.links.next_written.write, there_last jobs.some _ _ is.links.next_written.writes);
      }

  -- ---- order

  module _ (order : AreInOrder (run_moments system run) all) where
    pub reads_never_fall : (i : ℕ) → i < length tables → NeverFall (reads_in tables i)
    reads_never_fall i h = record {
      in_order = λ job later s t less one other.
          omega (arith, order.reads_rise i job later s t (omega (arith, h, are.one_a_group)) less (read_there i h job s one) (read_there i h later t other));
    }

    pub writes_never_fall : (i : ℕ) → i < length tables → NeverFall (writes_in tables i)
    writes_never_fall i h = record {
      in_order = λ job later s t less one other.
          omega (arith, order.writes_rise i job later s t (omega (arith, h, are.one_a_group)) less (write_there i h job s one) (write_there i h later t other));
    }

-- ---- what is said of chains of one kind is said of those of the other

module _ (IsChain Other : JobChain → Type 0) (to : (chain : JobChain) → IsChain chain → Other chain) (from : (chain : JobChain) → Other chain → IsChain chain) where
  pub same_chain : (job_of : JobChain → ℕ) (job : ℕ) (found : Option JobChain) → IsChainOf IsChain job_of job found → IsChainOf Other job_of job found
  same_chain job_of job None none = λ chain is. none chain (from chain is)
  same_chain job_of job (Some chain) is = (to chain is.0, is.1)

  pub same_measured : (job_of : JobChain → ℕ) (found : Option JobChain) → IsMeasuredBy IsChain job_of found → IsMeasuredBy Other job_of found
  same_measured job_of None none = λ chain is. none chain (from chain is)
  same_measured job_of (Some chain) is = record {
    is_chain = to chain is.is_chain;
    longest = λ other is_other. is.longest other (from other is_other);
    least = λ other is_other. is.least other (from other is_other);
  }

  pub same_count : (count : ℕ) → IsCountOf IsChain count → IsCountOf Other count
  same_count count is = record {
    chains = is.chains;
    sound = λ i d h. to _ (is.sound i d h);
    complete = λ chain is_other. is.complete chain (from chain is_other);
    once = is.once;
    counted = is.counted;
  }

-- ---- what is found over the lists is so of the run

module _ (system : System) (run : Run) (all : List Group) (tables : List GroupMoments) (are : AreTables system run all tables) where
  pub forward_answer : (job : ℕ) (found : Option JobChain) → IsChainOf (IsForwardOver tables) first_job job found
      → IsChainOf (IsForwardChain (run_moments system run) all) first_job job found
  forward_answer = same_chain (IsForwardOver tables) (IsForwardChain (run_moments system run) all)
      (forward_of_run system run all tables are) (run_of_forward system run all tables are) first_job

  pub backward_answer : (job : ℕ) (found : Option JobChain) → IsChainOf (IsAgeOver tables) last_job job found
      → IsChainOf (IsAgeChain (run_moments system run) all) last_job job found
  backward_answer = same_chain (IsAgeOver tables) (IsAgeChain (run_moments system run) all)
      (age_of_run system run all tables are) (run_of_age system run all tables are) last_job

  pub measured_answer : (measured : Measured) → IsMeasuredOver tables measured → IsMeasured (run_moments system run) all measured
  measured_answer measured is =
      let forward_to = forward_of_run system run all tables are in
      let forward_from = run_of_forward system run all tables are in
      let age_to = age_of_run system run all tables are in
      let age_from = run_of_age system run all tables are in
      record {
        is_reaction = same_measured (IsForwardOver tables) (IsForwardChain (run_moments system run) all)
            forward_to forward_from first_job measured.reaction is.is_reaction;
        is_age = same_measured (IsAgeOver tables) (IsAgeChain (run_moments system run) all)
            age_to age_from last_job measured.age is.is_age;
        is_reduced = same_measured (IsReducedOver tables) (IsReducedChain (run_moments system run) all)
            (reduced_of_run system run all tables are) (run_of_reduced system run all tables are)
            last_job measured.reduced is.is_reduced;
        forward_count = same_count (IsForwardOver tables) (IsForwardChain (run_moments system run) all)
            forward_to forward_from measured.forward is.forward_count;
        backward_count = same_count (IsAgeOver tables) (IsAgeChain (run_moments system run) all)
            age_to age_from measured.backward is.backward_count;
      }

-- ---- a chain of a valid model, in a run in order

module _ (model : SystemModel) (valid : IsValid model) (run : Run) (in_form : IsInForm (system_of model) run) (chain : ℕ)
    (ordered : AreGroupsInOrder (groups_at model chain) run) (some : 0 < length (groups_at model chain))
    (tables : List GroupMoments) (are : AreTables (system_of model) run (groups_at model chain) tables) where
  order : AreInOrder (run_moments (system_of model) run) (groups_at model chain)
  order = moments_in_order (system_of model) (system_sound model valid) run in_form (groups_at model chain) ordered

  read_first : HaveReadBeforeWriting (run_moments (system_of model) run) (groups_at model chain)
  unfolding groups_of
  read_first = have_read (system_of model) (system_sound model valid) run in_form (steps_of model (chain_at model chain)) ordered

  forward_later : (c : JobChain) → IsForwardChain (run_moments (system_of model) run) (groups_at model chain) c → c.from < c.to
  forward_later = forward_ordered (run_moments (system_of model) run) (groups_at model chain) order read_first

  age_later : (c : JobChain) → IsAgeChain (run_moments (system_of model) run) (groups_at model chain) c → c.from < c.to
  age_later = age_ordered (run_moments (system_of model) run) (groups_at model chain) order read_first

  reduced_later : (c : JobChain) → IsReducedChain (run_moments (system_of model) run) (groups_at model chain) c → c.from < c.to
  reduced_later = reduced_ordered (run_moments (system_of model) run) (groups_at model chain) order read_first

  pub tables_ordered : AreOrdered tables
  tables_ordered = record {
    some = omega (arith, some, are.one_a_group);
    reads = reads_never_fall (system_of model) run (groups_at model chain) tables are order;
    writes = writes_never_fall (system_of model) run (groups_at model chain) tables are order;
    forward = λ c is. omega (arith, forward_later c (forward_of_run (system_of model) run (groups_at model chain) tables are c is));
    age = λ c is. omega (arith, age_later c (age_of_run (system_of model) run (groups_at model chain) tables are c is));
    reduced = λ c is. omega (arith, reduced_later c (reduced_of_run (system_of model) run (groups_at model chain) tables are c is));
  }
