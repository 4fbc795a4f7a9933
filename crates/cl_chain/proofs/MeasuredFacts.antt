-- What is measured over the moments of groups: rows and complete chains are the same.
use Rattle.std.proofs.Common.{◌≡◌, ℕ, zero, suc, ◌+◌, ◌-◌, ◌<◌, ◌≤◌, Option, Some, None, List, ◌∷◌, length, refl, sym, ap, ◌∙◌, subst, arith}
use Rattle.std.specs.Prelude.{slice_index}
use Rattle.std.proofs.lemmas.List.{ext_get_or}
use Rattle.cl_runs.specs.Chains.{JobChain, first_job, last_job}
use Rattle.cl_runs.proofs.ChainsUnique.{chain_same}
use Rattle.cl_chain.specs.{declared.{group_moments.GroupMoments.GroupMoments, rows.Rows.Rows}, Inner.{GroupTables.{moment_at, AreMomentsAt, reads_in, writes_in}, Hops.{IsWrite, IsOfNext, IsBeforeNext}, ChainsOver.{IsForwardOver, IsTail, AreBackwardJobs, IsHead, last_writes, IsAgeOver}}}
use Rattle.cl_chain.specs.Inner.{ChainsOver.IsReducedOver, Rows.{IsOfRows, AreRows, AreRowsOf}}
use Rattle.cl_chain.proofs.{MomentLists.same_some, HopFacts.write_once, ForwardFacts.{forward_same, forward_written, tail_jobs, jobs_tail}, BackwardFacts.{backward_same, all_linked, IsHeadOf, head_jobs, jobs_head}}

-- ---- forward

earlier : (reads : List (Option ℕ)) (job from : ℕ) → moment_at (None ∷ reads) job ≡ Some from → (1 ≤ job) × (moment_at reads (job - 1) ≡ Some from)
earlier reads zero from at = absurd cc
earlier reads (suc job) from at = let same : suc job - 1 ≡ job = omega arith in (omega arith, ap (moment_at reads) same ∙ at)

pub later : (reads : List (Option ℕ)) (job from : ℕ) → 1 ≤ job → moment_at reads (job - 1) ≡ Some from → moment_at (None ∷ reads) job ≡ Some from
later reads zero from some at = absurd (omega arith)
later reads (suc job) from some at = let same : suc job - 1 ≡ job = omega arith in ap (moment_at reads) (sym same) ∙ at

module _ (tables : List GroupMoments) where
  last_of : (chain : JobChain) (n : ℕ) → length chain.jobs ≡ n → last_job chain ≡ slice_index chain.jobs (n - 1)
  last_of chain n count = ap (λ k. slice_index chain.jobs (k - 1)) count

  forward_once : (one other : JobChain) → IsForwardOver tables one → IsForwardOver tables other → first_job one ≡ first_job other → one ≡ other
  forward_once one other first second same =
      let each = λ (i : ℕ) (h : i < length tables).
      forward_same tables one.jobs (length tables) one.to first.jobs (length tables) other.jobs other.to second.jobs (omega arith) same i h in
      let jobs : one.jobs ≡ other.jobs = ext_get_or 0 one.jobs other.jobs (first.jobs.one_a_group ∙ sym second.jobs.one_a_group)
      (λ i h. each i (omega (arith, h, first.jobs.one_a_group))) in
      let some = first.jobs.some in
      let last : suc (length tables - 1) ≡ length tables = omega (arith, some) in
      chain_same one other
      (same_some (moment_at (reads_in tables 0) (first_job other - 1)) one.from other.from
      (ap (λ k. moment_at (reads_in tables 0) (k - 1)) (sym same) ∙ first.from) second.from)
      (write_once (writes_in tables (length tables - 1)) (slice_index other.jobs (length tables - 1)) one.to other.to
      (subst (λ k. IsWrite (writes_in tables (length tables - 1)) k one.to) (each (length tables - 1) (omega (arith, some))) (first.jobs.last (length tables - 1) last))
      (second.jobs.last (length tables - 1) last))
      jobs

  pub forward_rows : (reads tails : List (Option ℕ)) → reads ≡ reads_in tables 0 → AreMomentsAt (IsTail tables) tails
      → IsOfRows (IsForwardOver tables) first_job (None ∷ reads) tails
  forward_rows reads tails same are = record {
    chain = λ job from to start end.
        let (jobs, linked) = tail_jobs tables job to (are.sound job to end) in
        let chain : JobChain = record { from = from; to = to; jobs = job ∷ jobs } in
        let read = (earlier reads job from start).1 in
        (chain, record { jobs = linked; from = ap (λ (rs : List (Option ℕ)). moment_at rs (job - 1)) (sym same) ∙ read }, refl);
    start = λ chain is.
        let first = forward_written tables chain.jobs (length tables) chain.to is.jobs 0 is.jobs.some in
        later reads (first_job chain) chain.from first.1.not_first (ap (λ (rs : List (Option ℕ)). moment_at rs (first_job chain - 1)) same ∙ is.from);
    end = λ chain is. are.complete (first_job chain) chain.to (jobs_tail tables chain.jobs chain.to is.jobs);
    once = forward_once;
  }

  -- ---- backward

  module _ (some : 0 < length tables) where
    whole : suc (length tables - 1) ≡ length tables
    whole = omega (arith, some)

    same_jobs : (one other : JobChain) → AreBackwardJobs tables (length tables) one.jobs → AreBackwardJobs tables (length tables) other.jobs
        → last_job one ≡ last_job other → one.jobs ≡ other.jobs
    same_jobs one other first second same = ext_get_or 0 one.jobs other.jobs (first.one_a_group ∙ sym second.one_a_group)
        (λ i h. backward_same tables one.jobs other.jobs 0 first (all_linked tables other.jobs second)
        (sym (last_of one (length tables) first.one_a_group) ∙ same ∙ last_of other (length tables) second.one_a_group)
        (length tables - suc i) i (omega (arith, h, first.one_a_group)) (omega arith))

    age_once : (one other : JobChain) → IsAgeOver tables one → IsAgeOver tables other → last_job one ≡ last_job other → one ≡ other
    age_once one other first second same =
        let jobs = same_jobs one other first.jobs second.jobs same in
        chain_same one other
        (same_some (moment_at (reads_in tables 0) (first_job other)) one.from other.from
        (ap (λ (js : List ℕ). moment_at (reads_in tables 0) (slice_index js 0)) (sym jobs) ∙ first.from) second.from)
        (same_some (moment_at (last_writes tables) (last_job other + 1)) one.to other.to
        (ap (λ k. moment_at (last_writes tables) (k + 1)) (sym same) ∙ first.to) second.to)
        jobs

    reduced_once : (one other : JobChain) → IsReducedOver tables one → IsReducedOver tables other → last_job one ≡ last_job other → one ≡ other
    reduced_once one other first second same =
        let jobs = same_jobs one other first.jobs second.jobs same in
        chain_same one other
        (same_some (moment_at (reads_in tables 0) (first_job other)) one.from other.from
        (ap (λ (js : List ℕ). moment_at (reads_in tables 0) (slice_index js 0)) (sym jobs) ∙ first.from) second.from)
        (same_some (moment_at (last_writes tables) (last_job other)) one.to other.to
        (ap (moment_at (last_writes tables)) (sym same) ∙ first.to) second.to)
        jobs

    module _ (heads : List (Option ℕ)) (are : AreMomentsAt (IsHead tables (length tables - 1)) heads) where
      jobs_of_head : (job from : ℕ) → moment_at heads job ≡ Some from → IsHeadOf tables (length tables - 1) job from
      jobs_of_head job from at = head_jobs tables (length tables - 1) job from (are.sound job from at)

      linked_jobs : (job from : ℕ) (head : IsHeadOf tables (length tables - 1) job from) → AreBackwardJobs tables (length tables) head.jobs
      linked_jobs job from head = subst (λ n. AreBackwardJobs tables n head.jobs) whole head.linked

      last_is_job : (job from to : ℕ) (head : IsHeadOf tables (length tables - 1) job from) → slice_index head.jobs (length head.jobs - 1) ≡ job
      last_is_job job from to head = ap (λ n. slice_index head.jobs (n - 1)) (linked_jobs job from head).one_a_group ∙ head.is_last

      head_of_chain : (chain : JobChain) → AreBackwardJobs tables (length tables) chain.jobs → moment_at (reads_in tables 0) (first_job chain) ≡ Some chain.from
          → moment_at heads (last_job chain) ≡ Some chain.from
      head_of_chain chain jobs from = are.complete (last_job chain) chain.from
          (subst (λ k. IsHead tables (length tables - 1) k chain.from) (sym (last_of chain (length tables) jobs.one_a_group))
          (jobs_head tables (length tables) chain.jobs chain.from jobs from (length tables - 1) (omega (arith, some))))

      module _ (writes : List (Option ℕ)) (same : writes ≡ last_writes tables) (ends : List (Option ℕ)) where
        there : (job t : ℕ) → moment_at writes job ≡ Some t → (k : ℕ) → k ≡ job → moment_at (last_writes tables) k ≡ Some t
        there job t at k is = ap (moment_at (last_writes tables)) is ∙ ap (λ (ws : List (Option ℕ)). moment_at ws job) (sym same) ∙ at

        back : (job t : ℕ) → moment_at (last_writes tables) job ≡ Some t → moment_at writes job ≡ Some t
        back job t at = ap (λ (ws : List (Option ℕ)). moment_at ws job) same ∙ at

        pub age_rows : AreMomentsAt (IsOfNext writes) ends → IsOfRows (IsAgeOver tables) last_job heads ends
        age_rows next = record {
          chain = λ job from to start end.
              let head = jobs_of_head job from start in
              let (write, both) = next.sound job to end in
              let last = last_is_job job from to head in
              let chain : JobChain = record { from = from; to = to; jobs = head.jobs } in (
                chain,
                record {
                  jobs = linked_jobs job from head;
                  from = head.reads_then;
                  last = (write, there job write both.writes_then _ last);
                  to = there (job + 1) to both.next_then _ (ap (λ k. k + 1) last);
                },
                last,
              );
          start = λ chain is. head_of_chain chain is.jobs is.from;
          end = λ chain is. next.complete (last_job chain) chain.to
              (is.last.0, record { writes_then = back _ _ is.last.1; next_then = back _ _ is.to });
          once = age_once;
        }

        pub reduced_rows : AreMomentsAt (IsBeforeNext writes) ends → IsOfRows (IsReducedOver tables) last_job heads ends
        reduced_rows before = record {
          chain = λ job from to start end.
              let head = jobs_of_head job from start in
              let (next, both) = before.sound job to end in
              let last = last_is_job job from to head in
              let chain : JobChain = record { from = from; to = to; jobs = head.jobs } in (
                chain,
                record {
                  jobs = linked_jobs job from head;
                  from = head.reads_then;
                  to = there job to both.writes_then _ last;
                  next = (next, there (job + 1) next both.next_then _ (ap (λ k. k + 1) last));
                },
                last,
              );
          start = λ chain is. head_of_chain chain is.jobs is.from;
          end = λ chain is. before.complete (last_job chain) chain.to
              (is.next.0, record { writes_then = back _ _ is.to; next_then = back _ _ is.next.1 });
          once = reduced_once;
        }

-- ---- the ends of backward chains

pub next_once : (writes : List (Option ℕ)) (job s t : ℕ) → IsOfNext writes job s → IsOfNext writes job t → s ≡ t
next_once writes job s t one other = same_some (moment_at writes (job + 1)) s t one.1.next_then other.1.next_then

pub before_once : (writes : List (Option ℕ)) (job s t : ℕ) → IsBeforeNext writes job s → IsBeforeNext writes job t → s ≡ t
before_once writes job s t one other = same_some (moment_at writes job) s t one.1.writes_then other.1.writes_then

-- ---- rows as they are made

module _ (tables : List GroupMoments) where
  -- from starts and ends that are read from lists
  pub rows_of_forward : (reads : List (Option ℕ)) → reads ≡ reads_in tables 0 → (tails : List (Option ℕ)) → AreMomentsAt (IsTail tables) tails
      → (starts ends : List (Option ℕ)) → starts ≡ None ∷ reads → ends ≡ tails → (rows : Rows) → AreRows starts ends rows
      → AreRowsOf (IsForwardOver tables) first_job rows
  rows_of_forward reads same tails are starts ends is_starts is_ends rows made = record {
    starts = starts;
    ends = ends;
    chains = subst (λ (xs : List (Option ℕ)). IsOfRows (IsForwardOver tables) first_job xs ends) (sym is_starts)
        (subst (λ (xs : List (Option ℕ)). IsOfRows (IsForwardOver tables) first_job (None ∷ reads) xs) (sym is_ends) (forward_rows tables reads tails same are));
    are_rows = made;
  }

  module _ (some : 0 < length tables) (heads : List (Option ℕ)) (are : AreMomentsAt (IsHead tables (length tables - 1)) heads)
      (writes : List (Option ℕ)) (same : writes ≡ last_writes tables) where
    pub rows_of_ages : (listed : List (Option ℕ)) → AreMomentsAt (IsOfNext writes) listed → (ends : List (Option ℕ)) → ends ≡ listed
        → (rows : Rows) → AreRows heads ends rows → AreRowsOf (IsAgeOver tables) last_job rows
    rows_of_ages listed next ends is rows made = record {
      starts = heads;
      ends = ends;
      chains = subst (λ (xs : List (Option ℕ)). IsOfRows (IsAgeOver tables) last_job heads xs) (sym is) (age_rows tables some heads are writes same listed next);
      are_rows = made;
    }

    pub rows_of_reduced : (listed : List (Option ℕ)) → AreMomentsAt (IsBeforeNext writes) listed → (ends : List (Option ℕ)) → ends ≡ listed
        → (rows : Rows) → AreRows heads ends rows → AreRowsOf (IsReducedOver tables) last_job rows
    rows_of_reduced listed before ends is rows made = record {
      starts = heads;
      ends = ends;
      chains = subst (λ (xs : List (Option ℕ)). IsOfRows (IsReducedOver tables) last_job heads xs) (sym is) (reduced_rows tables some heads are writes same listed before);
      are_rows = made;
    }
