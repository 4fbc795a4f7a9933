-- Jobs that are linked backward, over the moments of groups.
use Rattle.std.proofs.Common.{◌≡◌, ℕ, zero, suc, ◌+◌, ◌-◌, ◌<◌, ◌≤◌, inl, inr, Option, Some, None, List, [], ◌∷◌, ◌++◌, length, length-append, refl, sym, ap, ◌∙◌, subst, arith}
use Rattle.std.specs.Prelude.{slice_index}
use Rattle.std.proofs.lemmas.Bool.{cases_lt}
use Rattle.cl_runs.specs.Chains.{JobChain, last_job}
use Rattle.cl_chain.specs.{declared.group_moments.GroupMoments.GroupMoments, Inner.{GroupTables.{moment_at, reads_in, writes_in}, Hops.{IsBackwardHop, IsNextWrite}, ChainsOver.{AreBackwardJobs, AreBackwardFrom, IsHead, IsBackwardTo, IsTheChain, IsAgeOver, IsReducedOver}}}
use Rattle.cl_chain.specs.JobChains.{IsChainOf}
use Rattle.cl_chain.proofs.{MomentLists.same_some, HopFacts.backward_hop_once, ForwardFacts.{job_before, job_pushed}}

module _ (tables : List GroupMoments) where
  -- ---- the walk back

  pub all_linked : (jobs : List ℕ) → AreBackwardJobs tables (length tables) jobs → AreBackwardFrom tables 0 jobs
  all_linked jobs are = record { one_a_group = are.one_a_group; linked = λ i h. are.linked i }

  -- ---- no other jobs

  module _ (others jobs : List ℕ) (place : ℕ) (second : AreBackwardJobs tables (length tables) others) (first : AreBackwardFrom tables place jobs)
      (last : slice_index others (length tables - 1) ≡ slice_index jobs (length tables - 1)) where
    pub backward_same : (d i : ℕ) → suc (d + i) ≡ length tables → place ≤ i → slice_index others i ≡ slice_index jobs i
    backward_same zero i h after =
        let here : length tables - 1 ≡ i = omega (arith, h) in ap (slice_index others) (sym here) ∙ last ∙ ap (slice_index jobs) here
    backward_same (suc d) i h after =
        backward_hop_once (writes_in tables i) (reads_in tables (suc i)) (slice_index jobs (suc i)) _ _
        (subst (λ k. IsBackwardHop (writes_in tables i) (reads_in tables (suc i)) (slice_index others i) k)
        (backward_same d (suc i) (omega (arith, h)) (omega (arith, after))) (second.linked i (omega (arith, h))))
        (first.linked i after (omega (arith, h)))

    -- where no job goes before, there are none that go further back
    pub backward_ends : (before job : ℕ) → suc before ≡ place → place < length tables → slice_index jobs place ≡ job
        → ((writer : ℕ) → IsBackwardHop (writes_in tables before) (reads_in tables place) writer job → ⊥) → ⊥
    backward_ends before job next within is_job none =
        none (slice_index others before)
        (subst (λ k. IsBackwardHop (writes_in tables before) (reads_in tables place) (slice_index others before) k)
        (backward_same (length tables - suc place) place (omega (arith, within)) (omega arith) ∙ is_job)
        (subst (λ n. IsBackwardHop (writes_in tables before) (reads_in tables n) (slice_index others before) (slice_index others n)) next
        (second.linked before (omega (arith, next, within)))))

    pub backward_ends_there : (before job : ℕ) → suc before ≡ place → place < length tables → slice_index jobs place ≡ job
        → (ws rs : List (Option ℕ)) → ws ≡ writes_in tables before → rs ≡ reads_in tables place → ((writer : ℕ) → IsBackwardHop ws rs writer job → ⊥) → ⊥
    backward_ends_there before job next within is_job ws rs writes reads none =
        backward_ends before job next within is_job
        (subst (λ (xs : List (Option ℕ)). (writer : ℕ) → IsBackwardHop xs (reads_in tables place) writer job → ⊥) writes
        (subst (λ (xs : List (Option ℕ)). (writer : ℕ) → IsBackwardHop ws xs writer job → ⊥) reads none))

  -- ---- heads are beginnings of linked jobs

  first_backward : (job : ℕ) → AreBackwardJobs tables 1 (job ∷ [])
  first_backward job = record { some = omega arith; one_a_group = refl; linked = λ i h. absurd (omega (arith, h)) }

  backward_pushed : (n : ℕ) (jobs : List ℕ) (job : ℕ) → AreBackwardJobs tables (suc n) jobs
      → IsBackwardHop (writes_in tables n) (reads_in tables (suc n)) (slice_index jobs n) job → AreBackwardJobs tables (suc (suc n)) (jobs ++ job ∷ [])
  backward_pushed n jobs job so_far hop = record {
    some = omega arith;
    one_a_group = omega (arith, length-append jobs (job ∷ []), so_far.one_a_group);
    linked = λ i h. elim (cases_lt i n) [
      | inl before ↦
          subst (λ m. IsBackwardHop (writes_in tables i) (reads_in tables (suc i)) m (slice_index (jobs ++ job ∷ []) (suc i)))
          (sym (job_before jobs job i (omega (arith, before, so_far.one_a_group))))
          (subst (λ k. IsBackwardHop (writes_in tables i) (reads_in tables (suc i)) (slice_index jobs i) k)
          (sym (job_before jobs job (suc i) (omega (arith, before, so_far.one_a_group)))) (so_far.linked i (omega (arith, before))))
      | inr not ↦ new_link i (omega (arith, h, not))
    ];
  }
    where
      new_link : (i : ℕ) → n ≡ i → IsBackwardHop (writes_in tables i) (reads_in tables (suc i)) (slice_index (jobs ++ job ∷ []) i) (slice_index (jobs ++ job ∷ []) (suc i))
      new_link i here =
          subst (λ m. IsBackwardHop (writes_in tables i) (reads_in tables (suc i)) m (slice_index (jobs ++ job ∷ []) (suc i)))
          (ap (slice_index jobs) here ∙ sym (job_before jobs job i (omega (arith, here, so_far.one_a_group))))
          (subst (λ k. IsBackwardHop (writes_in tables i) (reads_in tables (suc i)) (slice_index jobs n) k)
          (sym (job_pushed jobs job (suc i) (so_far.one_a_group ∙ ap suc here)))
          (subst (λ m. IsBackwardHop (writes_in tables m) (reads_in tables (suc m)) (slice_index jobs n) job) here hop))

  pub record IsHeadOf (i job from : ℕ) : Type 0 where
    pub jobs : List ℕ
    pub linked : AreBackwardJobs tables (suc i) jobs
    pub is_last : slice_index jobs i ≡ job
    pub reads_then : moment_at (reads_in tables 0) (slice_index jobs 0) ≡ Some from

  pub head_jobs : (i job from : ℕ) → IsHead tables i job from → IsHeadOf i job from
  head_jobs zero job from head = record { jobs = job ∷ []; linked = first_backward job; is_last = refl; reads_then = head }
  head_jobs (suc i) job from head =
      let rest = head_jobs i head.0 from head.2 in
      record {
        jobs = rest.jobs ++ job ∷ [];
        linked = backward_pushed i rest.jobs job rest.linked
            (subst (λ m. IsBackwardHop (writes_in tables i) (reads_in tables (suc i)) m job) (sym rest.is_last) head.1);
        is_last = job_pushed rest.jobs job (suc i) rest.linked.one_a_group;
        reads_then = ap (moment_at (reads_in tables 0)) (job_before rest.jobs job 0 (omega (arith, rest.linked.one_a_group))) ∙ rest.reads_then;
      }

  pub jobs_head : (count : ℕ) (jobs : List ℕ) (from : ℕ) → AreBackwardJobs tables count jobs → moment_at (reads_in tables 0) (slice_index jobs 0) ≡ Some from
      → (i : ℕ) → i < count → IsHead tables i (slice_index jobs i) from
  jobs_head count jobs from are reads zero h = reads
  jobs_head count jobs from are reads (suc i) h = (slice_index jobs i, are.linked i h, jobs_head count jobs from are reads i (omega (arith, h)))

  -- ---- complete chains

  last_is : (chain : JobChain) → AreBackwardJobs tables (length tables) chain.jobs → last_job chain ≡ slice_index chain.jobs (length tables - 1)
  last_is chain are = ap (λ n. slice_index chain.jobs (n - 1)) are.one_a_group

  -- no chain is there where the first of its jobs doesn't read
  pub no_first_read : (last to : ℕ) (jobs : List ℕ) → AreBackwardJobs tables (length tables) jobs → slice_index jobs (length tables - 1) ≡ last
      → moment_at (reads_in tables 0) (slice_index jobs 0) ≡ None → (chain : JobChain) → IsBackwardTo tables last to chain → ⊥
  no_first_read last to jobs are is_last none chain is =
      let same : slice_index chain.jobs 0 ≡ slice_index jobs 0
      = backward_same chain.jobs jobs 0 is.jobs (all_linked jobs are) (sym (last_is chain is.jobs) ∙ is.is_last ∙ sym is_last)
      (length tables - 1) 0 (omega (arith, are.some)) (omega arith) in
      let has : moment_at (reads_in tables 0) (slice_index jobs 0) ≡ Some chain.from = ap (moment_at (reads_in tables 0)) (sym same) ∙ is.from in
      cc

  module _ (writes : List (Option ℕ)) (same : writes ≡ writes_in tables (length tables - 1)) (last : ℕ) where
    at_writes : (job t : ℕ) → moment_at writes job ≡ Some t → (k : ℕ) → k ≡ job → moment_at (writes_in tables (length tables - 1)) k ≡ Some t
    at_writes job t has k is = ap (moment_at (writes_in tables (length tables - 1))) is ∙ ap (λ (ws : List (Option ℕ)). moment_at ws job) (sym same) ∙ has

    from_writes : (job t : ℕ) (k : ℕ) → moment_at (writes_in tables (length tables - 1)) k ≡ Some t → k ≡ job → moment_at writes job ≡ Some t
    from_writes job t k has is = ap (λ (ws : List (Option ℕ)). moment_at ws job) same ∙ ap (moment_at (writes_in tables (length tables - 1))) (sym is) ∙ has

    pub age_found : (write next : ℕ) → IsNextWrite writes last write next → (found : Option JobChain)
        → IsTheChain (IsBackwardTo tables last next) found → IsChainOf (IsAgeOver tables) last_job last found
    age_found write next both None none = λ chain age is_last. none chain (record {
      jobs = age.jobs;
      from = age.from;
      is_last = is_last;
      is_to = same_some (moment_at writes (last + 1)) chain.to next (from_writes (last + 1) chain.to _ age.to (ap (λ k. k + 1) is_last)) both.next_then;
    })
    age_found write next both (Some chain) is = (
      record {
        jobs = is.jobs;
        from = is.from;
        last = (write, at_writes last write both.writes_then _ is.is_last);
        to = at_writes (last + 1) next both.next_then _ (ap (λ k. k + 1) is.is_last) ∙ ap Some (sym is.is_to);
      },
      is.is_last,
    )

    pub reduced_found : (write next : ℕ) → IsNextWrite writes last write next → (found : Option JobChain)
        → IsTheChain (IsBackwardTo tables last write) found → IsChainOf (IsReducedOver tables) last_job last found
    reduced_found write next both None none = λ chain reduced is_last. none chain (record {
      jobs = reduced.jobs;
      from = reduced.from;
      is_last = is_last;
      is_to = same_some (moment_at writes last) chain.to write (from_writes last chain.to _ reduced.to is_last) both.writes_then;
    })
    reduced_found write next both (Some chain) is = (
      record {
        jobs = is.jobs;
        from = is.from;
        to = at_writes last write both.writes_then _ is.is_last ∙ ap Some (sym is.is_to);
        next = (next, at_writes (last + 1) next both.next_then _ (ap (λ k. k + 1) is.is_last));
      },
      is.is_last,
    )

    pub no_age : ((write next : ℕ) → IsNextWrite writes last write next → ⊥) → (chain : JobChain) → IsAgeOver tables chain → last_job chain ≡ last → ⊥
    no_age none chain age is_last = none age.last.0 chain.to (record {
      writes_then = from_writes last age.last.0 _ age.last.1 is_last;
      next_then = from_writes (last + 1) chain.to _ age.to (ap (λ k. k + 1) is_last);
    })

    pub no_reduced : ((write next : ℕ) → IsNextWrite writes last write next → ⊥) → (chain : JobChain) → IsReducedOver tables chain → last_job chain ≡ last → ⊥
    no_reduced none chain reduced is_last = none chain.to reduced.next.0 (record {
      writes_then = from_writes last chain.to _ reduced.to is_last;
      next_then = from_writes (last + 1) reduced.next.0 _ reduced.next.1 (ap (λ k. k + 1) is_last);
    })
