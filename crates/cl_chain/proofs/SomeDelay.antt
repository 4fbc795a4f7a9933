-- Each run has a greatest delay of some groups, or no chain of them that takes an event on.
use Rattle.std.proofs.Common.{◌≡◌, ℕ, zero, suc, ◌+◌, ◌-◌, ◌<◌, ◌≤◌, inl, inr, Option, Some, None, List, [], ◌∷◌, length, refl, sym, ap, ◌∙◌, subst, arith}
use Rattle.std.specs.Prelude.{slice_index}
use Rattle.std.proofs.lemmas.Bool.{cases_lt, cases_eq}
use Rattle.std.proofs.lemmas.List.{ext_get_or}
use Rattle.cl_model.specs.{declared.group.Group.Group, Groups.group_at}
use Rattle.cl_runs.specs.{TaskTiming.System, Table.job_at, Run.{Run, jobs_of}, Chains.{Moments, HasWritten, IsEarliestReader, JobChain, first_group, last_group, first_job, last_job}, RunChains.run_moments, Delays.IsDelayChain}
use Rattle.cl_runs.proofs.ChainsUnique.{chain_same}
use Rattle.cl_chain.specs.GreatestDelays.{IsGreatestDelay, IsGreatestDelayBy}
use Rattle.cl_chain.proofs.{DecidedMoments.Decided, LinkedJobs.{AreDecided, has_written, earliest, earliest_once, IsForward, HasForward, forward_or_not}, SomeMeasured.{most_jobs, run_decided}}

-- ---- a greatest delay of chains that are told by their first job

module _ (IsChain : JobChain → Type 0) where
  abbrev HasChain : (job : ℕ) → Type 0
  HasChain job = (chain : JobChain) × IsChain chain × (first_job chain ≡ job)

  abbrev IsBelow : (n : ℕ) → JobChain → Type 0
  IsBelow n chain = IsChain chain × (first_job chain < n)

  module _ (once : (one other : JobChain) → IsChain one → IsChain other → first_job one ≡ first_job other → one ≡ other) where
    -- ---- the chain of one job more

    module _ (n : ℕ) (chain : JobChain) (is : IsChain chain) (job : first_job chain ≡ n) where
      only : (other : JobChain) → IsChain other → first_job other ≡ n → other ≡ chain
      only other is_other last = once other chain is_other is (last ∙ sym job)

      first_found : ((other : JobChain) → IsBelow n other → ⊥) → IsGreatestDelay (IsBelow (suc n)) chain
      first_found none = record {
        is_chain = (is, omega (arith, job));
        greatest = λ other there. omega (arith, ap (λ (c : JobChain). c.to) (alone other there), ap (λ (c : JobChain). c.from) (alone other there));
        least = λ other there same. omega (arith, ap first_job (alone other there));
      }
        where
          alone : (other : JobChain) → IsBelow (suc n) other → other ≡ chain
          alone other there = elim (cases_eq (first_job other) n) [
            | inl last ↦ only other there.0 last
            | inr less ↦ absurd (none other (there.0, omega (arith, there.1, less)))
          ]

      module _ (best : JobChain) (is_best : IsGreatestDelay (IsBelow n) best) where
        later : best.to + chain.from < chain.to + best.from → IsGreatestDelay (IsBelow (suc n)) chain
        later more = record {
          is_chain = (is, omega (arith, job));
          greatest = λ other there. elim (cases_eq (first_job other) n) [
            | inl last ↦
                let same = only other there.0 last in
                omega (arith, ap (λ (c : JobChain). c.to) same, ap (λ (c : JobChain). c.from) same)
            | inr less ↦ omega (arith, is_best.greatest other (there.0, omega (arith, there.1, less)), more)
          ];
          least = λ other there same. elim (cases_eq (first_job other) n) [
            | inl last ↦ omega (arith, job, last)
            | inr less ↦ absurd (omega (arith, is_best.greatest other (there.0, omega (arith, there.1, less)), more, same))
          ];
        }

        no_later : chain.to + best.from ≤ best.to + chain.from → IsGreatestDelay (IsBelow (suc n)) best
        no_later most = record {
          is_chain = (is_best.is_chain.0, omega (arith, is_best.is_chain.1));
          greatest = λ other there. elim (cases_eq (first_job other) n) [
            | inl last ↦
                let same = only other there.0 last in
                omega (arith, most, ap (λ (c : JobChain). c.to) same, ap (λ (c : JobChain). c.from) same)
            | inr less ↦ is_best.greatest other (there.0, omega (arith, there.1, less))
          ];
          least = λ other there same. elim (cases_eq (first_job other) n) [
            | inl last ↦ omega (arith, last, is_best.is_chain.1)
            | inr less ↦ is_best.least other (there.0, omega (arith, there.1, less)) same
          ];
        }

      one_more : (found : Option JobChain) → IsGreatestDelayBy (IsBelow n) found → (more : Option JobChain) × IsGreatestDelayBy (IsBelow (suc n)) more
      one_more None none = (Some chain, first_found none)
      one_more (Some best) is_best = elim (cases_lt (best.to + chain.from) (chain.to + best.from)) [
        | inl more ↦ (Some chain, later best is_best more)
        | inr most ↦ (Some best, no_later best is_best most)
      ]

    -- ---- no chain of it

    none_more : (n : ℕ) → (HasChain n → ⊥) → (found : Option JobChain) → IsGreatestDelayBy (IsBelow n) found → IsGreatestDelayBy (IsBelow (suc n)) found
    none_more n none None best = λ chain there. elim (cases_eq (first_job chain) n) [
      | inl last ↦ none (chain, there.0, last)
      | inr less ↦ best chain (there.0, omega (arith, there.1, less))
    ]
    none_more n none (Some c) best = record {
      is_chain = (best.is_chain.0, omega (arith, best.is_chain.1));
      greatest = λ other there. elim (cases_eq (first_job other) n) [
        | inl last ↦ absurd (none (other, there.0, last))
        | inr less ↦ best.greatest other (there.0, omega (arith, there.1, less))
      ];
      least = λ other there same. elim (cases_eq (first_job other) n) [
        | inl last ↦ absurd (none (other, there.0, last))
        | inr less ↦ best.least other (there.0, omega (arith, there.1, less)) same
      ];
    }

    -- ---- of all jobs

    module _ (decided : (job : ℕ) → Decided (HasChain job)) (bound : ℕ) (few : (chain : JobChain) → IsChain chain → first_job chain < bound) where
      best_below : (n : ℕ) → (found : Option JobChain) × IsGreatestDelayBy (IsBelow n) found
      best_below zero = (None, λ chain there. omega (arith, there.1))
      best_below (suc n) = by_last (best_below n) (decided n)
        where
          by_last : (found : Option JobChain) × IsGreatestDelayBy (IsBelow n) found → Decided (HasChain n)
              → (more : Option JobChain) × IsGreatestDelayBy (IsBelow (suc n)) more
          by_last before (inl own) = one_more n own.0 own.1 own.2 before.0 before.1
          by_last before (inr none) = (before.0, none_more n none before.0 before.1)

      whole_best : (found : Option JobChain) → IsGreatestDelayBy (IsBelow bound) found → IsGreatestDelayBy IsChain found
      whole_best None best = λ chain is. best chain (is, few chain is)
      whole_best (Some c) best = record {
        is_chain = best.is_chain.0;
        greatest = λ other is. best.greatest other (is, few other is);
        least = λ other is same. best.least other (is, few other is) same;
      }

      some_greatest_delay : (found : Option JobChain) × IsGreatestDelayBy IsChain found
      some_greatest_delay = let best = best_below bound in (best.0, whole_best best.0 best.1)

-- ---- links of jobs of which the first may be job 0

module _ (moments : Moments) (bound : ℕ) (are : AreDecided moments bound) where
  -- each job has written, and each after the first has number 1 or more and is the earliest reader of the one before it
  record AreLinked (groups : List Group) (jobs : List ℕ) : Type 0 where
    one_a_group : length jobs ≡ length groups
    not_first : (i : ℕ) → suc i < length groups → 1 ≤ slice_index jobs (suc i)
    written : (i : ℕ) → i < length groups → HasWritten moments (group_at groups i) (slice_index jobs i)
    linked : (i : ℕ) → suc i < length groups
        → IsEarliestReader moments (group_at groups i) (group_at groups (suc i)) (slice_index jobs i) (slice_index jobs (suc i))

  abbrev HasLinked : List Group → (first : ℕ) → Type 0
  HasLinked groups first = (jobs : List ℕ) × AreLinked groups jobs × (slice_index jobs 0 ≡ first)

  one_linked : (g : Group) (m : ℕ) → HasWritten moments g m → AreLinked (g ∷ []) (m ∷ [])
  one_linked g m writes = record {
    one_a_group = refl;
    not_first = λ i lt. absurd (omega (arith, lt));
    written = written;
    linked = λ i lt. absurd (omega (arith, lt));
  }
    where
      written : (i : ℕ) → i < length (g ∷ []) → HasWritten moments (group_at (g ∷ []) i) (slice_index (m ∷ []) i)
      written zero lt = writes
      written (suc i) lt = absurd (omega (arith, lt))

  more_linked : (g h : Group) (gs : List Group) (m : ℕ) (jobs : List ℕ) → HasWritten moments g m
      → IsEarliestReader moments g h m (slice_index jobs 0) → IsForward moments bound are (h ∷ gs) jobs → AreLinked (g ∷ h ∷ gs) (m ∷ jobs)
  more_linked g h gs m jobs writes link further = record {
    one_a_group = omega (arith, further.one_a_group);
    not_first = λ i lt. further.not_first i (omega (arith, lt));
    written = written;
    linked = linked;
  }
    where
      written : (i : ℕ) → i < length (g ∷ h ∷ gs) → HasWritten moments (group_at (g ∷ h ∷ gs) i) (slice_index (m ∷ jobs) i)
      written zero lt = writes
      written (suc i) lt = further.written i (omega (arith, lt))

      linked : (i : ℕ) → suc i < length (g ∷ h ∷ gs)
          → IsEarliestReader moments (group_at (g ∷ h ∷ gs) i) (group_at (g ∷ h ∷ gs) (suc i)) (slice_index (m ∷ jobs) i) (slice_index (m ∷ jobs) (suc i))
      linked zero lt = link
      linked (suc i) lt = further.linked i (omega (arith, lt))

  -- the rest of the jobs is a forward chain of the rest
  rest_linked : (g h : Group) (gs : List Group) (jobs : List ℕ) → AreLinked (g ∷ h ∷ gs) jobs
      → (k : ℕ) × IsEarliestReader moments g h (slice_index jobs 0) k × HasForward moments bound are (h ∷ gs) k
  rest_linked g h gs [] links = absurd (omega (arith, links.one_a_group))
  rest_linked g h gs (m ∷ jobs) links = (
    slice_index jobs 0,
    links.linked 0 (omega arith),
    (
      jobs,
      record {
        one_a_group = omega (arith, links.one_a_group);
        not_first = λ i lt. links.not_first i (omega (arith, lt));
        written = λ i lt. links.written (suc i) (omega (arith, lt));
        linked = λ i lt. links.linked (suc i) (omega (arith, lt));
      },
      refl,
    ),
  )

  linked_or_not : (groups : List Group) (first : ℕ) → 0 < length groups → Decided (HasLinked groups first)
  linked_or_not [] first some = absurd (omega (arith, some))
  linked_or_not (g ∷ []) first some = by_job (has_written moments bound are g first)
    where
      by_job : Decided (HasWritten moments g first) → Decided (HasLinked (g ∷ []) first)
      by_job (inl writes) = inl (first ∷ [], one_linked g first writes, refl)
      by_job (inr not) = inr (λ has. not (subst (HasWritten moments g) has.2 (has.1.written 0 (omega arith))))
  linked_or_not (g ∷ h ∷ gs) first some = by_job (has_written moments bound are g first) (earliest moments bound are g h first) (λ k. forward_or_not moments bound are (h ∷ gs) k (omega arith))
    where
      no_rest : ((k : ℕ) → IsEarliestReader moments g h first k → HasForward moments bound are (h ∷ gs) k → ⊥) → HasLinked (g ∷ h ∷ gs) first → ⊥
      no_rest none has =
          let rest = rest_linked g h gs has.0 has.1 in
          none rest.0 (subst (λ m. IsEarliestReader moments g h m rest.0) has.2 rest.1) rest.2

      by_rest : HasWritten moments g first → (k : ℕ) → IsEarliestReader moments g h first k → Decided (HasForward moments bound are (h ∷ gs) k)
          → Decided (HasLinked (g ∷ h ∷ gs) first)
      by_rest writes k link (inl rest) = inl (
        first ∷ rest.0,
        more_linked g h gs first rest.0 writes (subst (λ n. IsEarliestReader moments g h first n) (sym rest.2) link) rest.1,
        refl,
      )
      by_rest writes k link (inr not) =
          inr (no_rest (λ other also rest. not (subst (HasForward moments bound are (h ∷ gs)) (earliest_once moments bound are g h first other k also link) rest)))

      by_job : Decided (HasWritten moments g first) → Decided ((k : ℕ) × IsEarliestReader moments g h first k)
          → ((k : ℕ) → Decided (HasForward moments bound are (h ∷ gs) k)) → Decided (HasLinked (g ∷ h ∷ gs) first)
      by_job (inr not) link rest = inr (λ has. not (subst (HasWritten moments g) has.2 (has.1.written 0 (omega arith))))
      by_job (inl writes) (inr none) rest = inr (no_rest (λ k link further. none (k, link)))
      by_job (inl writes) (inl link) rest = by_rest writes link.0 link.1 (rest link.0)

-- ---- delays

module _ (system : System) (run : Run) (groups : List Group) where
  abbrev moments_there : Moments
  moments_there = run_moments system run

  abbrev IsDelay : JobChain → Type 0
  IsDelay = IsDelayChain system run groups

  decided_there : AreDecided moments_there (most_jobs run)
  decided_there = run_decided system run

  delay_few : (chain : JobChain) → IsDelay chain → first_job chain < most_jobs run
  delay_few chain is =
      let writes = is.written 0 is.some_group in
      decided_there.writes_few (group_at groups 0) (slice_index chain.jobs 0) writes.write writes.writes

  -- the first job tells the chain
  same_jobs : (one other : JobChain) → IsDelay one → IsDelay other → first_job one ≡ first_job other → (i : ℕ) → i < length groups
      → slice_index one.jobs i ≡ slice_index other.jobs i
  same_jobs one other first second same zero lt = same
  same_jobs one other first second same (suc i) lt =
      let before = same_jobs one other first second same i (omega (arith, lt)) in
      let link : IsEarliestReader moments_there (group_at groups i) (group_at groups (suc i)) (slice_index other.jobs i) (slice_index one.jobs (suc i))
      = subst (λ m. IsEarliestReader moments_there (group_at groups i) (group_at groups (suc i)) m (slice_index one.jobs (suc i))) before (first.linked i lt) in
      earliest_once moments_there (most_jobs run) decided_there (group_at groups i) (group_at groups (suc i)) (slice_index other.jobs i)
      (slice_index one.jobs (suc i)) (slice_index other.jobs (suc i)) link (second.linked i lt)

  delay_once : (one other : JobChain) → IsDelay one → IsDelay other → first_job one ≡ first_job other → one ≡ other
  delay_once one other first second same =
      let jobs : one.jobs ≡ other.jobs = ext_get_or 0 one.jobs other.jobs (first.one_a_group ∙ sym second.one_a_group)
      (λ i lt. same_jobs one other first second same i (omega (arith, lt, first.one_a_group))) in
      chain_same one other
      (first.from ∙ ap (λ job. (job_at (jobs_of run (first_group groups).task) job).arrival) same ∙ sym second.from)
      (decided_there.writes_once (last_group groups) (last_job one) one.to other.to first.to
      (subst (λ (js : List ℕ). moments_there.writes (last_group groups) (slice_index js (length js - 1)) other.to) (sym jobs) second.to))
      jobs

  module _ (some : 0 < length groups) where
    a_delay : (job : ℕ) → HasLinked moments_there (most_jobs run) decided_there groups job → HasChain IsDelay job
    a_delay job links =
        let end : HasWritten moments_there (last_group groups) (slice_index links.0 (length groups - 1)) = links.1.written (length groups - 1) (omega (arith, some)) in
        let last : slice_index links.0 (length groups - 1) ≡ slice_index links.0 (length links.0 - 1)
        = ap (λ n. slice_index links.0 (n - 1)) (sym links.1.one_a_group) in (
          record { from = (job_at (jobs_of run (first_group groups).task) (slice_index links.0 0)).arrival; to = end.write; jobs = links.0 },
          record {
            some_group = some;
            one_a_group = links.1.one_a_group;
            not_first = links.1.not_first;
            written = links.1.written;
            linked = links.1.linked;
            from = refl;
            to = subst (λ m. moments_there.writes (last_group groups) m end.write) last end.writes;
          },
          links.2,
        )

    delay_decided : (job : ℕ) → Decided (HasChain IsDelay job)
    delay_decided job = by_links (linked_or_not moments_there (most_jobs run) decided_there groups job some)
      where
        by_links : Decided (HasLinked moments_there (most_jobs run) decided_there groups job) → Decided (HasChain IsDelay job)
        by_links (inl links) = inl (a_delay job links)
        by_links (inr none) = inr (λ has. none (
          has.0.jobs,
          record {
            one_a_group = has.1.one_a_group;
            not_first = has.1.not_first;
            written = has.1.written;
            linked = has.1.linked;
          },
          has.2,
        ))

    pub some_delay : (delay : Option JobChain) × IsGreatestDelayBy (IsDelayChain system run groups) delay
    some_delay = some_greatest_delay IsDelay delay_once delay_decided (most_jobs run) delay_few
