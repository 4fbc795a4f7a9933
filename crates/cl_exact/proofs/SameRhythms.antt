-- Groups of the same rhythms have the same exact lengths, and the same limit on them.
use Rattle.std.proofs.Common.{◌≡◌, ℕ, ◌+◌, ◌-◌, ◌<◌, ◌≤◌, Bool, List, [], ◌∷◌, length, get_or, refl, sym, ap, subst, ◌∙◌, arith}
use Rattle.std.specs.Prelude.{◌&&◌, ◌*◌, map, min, sum_by}
use Rattle.std.specs.Int.{◌∣◌}
use Rattle.std.specs.List.{list_all}
use Rattle.std.proofs.Math.ListN.{length-map}
use Rattle.std.proofs.lemmas.List.{get_or-map}
use Rattle.std.proofs.lemmas.List.Folds.{list_all-map}
use Rattle.std.proofs.lemmas.List.Sums.{sum_by-cons}
use Rattle.cl_model.specs.{declared.{group.Group.Group, stimulus.StimulusKind.StimulusKind}, Groups.{no_group, group_at}, Timing.least_distance, Kinds.{is_timed, is_periodic}}
use Rattle.cl_runs.specs.{Pattern.first_least, TaskTiming.{System, timing_at}, Chains.{JobChain, first_group, last_group, first_job, last_job}, RunChains.{ArrivesAt, ideal_moments}, SameMoments.HaveSameMoments}
use Rattle.cl_runs.proofs.SameMoments.{first_reads, last_reads, forward_also, age_also, reduced_also}
use Rattle.cl_exact.specs.{declared.{limit.TheConstants.MOST_FIRST_JOBS, witness.Witness.Witness}, TimedPeriodic.are_timed_periodic, Hyperperiod.{period_of, IsMultipleOfPeriods, IsHyperperiod, hyper_limit, IsWithinLimit, IsPastLimit}, ExactLengths.{HaveAllBegun, start_up, IsSteadyForward}}
use Rattle.cl_exact.specs.{ExactLengths.{IsSteadyAge, IsSteadyReduced, IsExact, Witnesses, AreExactLengths}, Rhythms.{Rhythm, rhythm_of, rhythms}}

-- a witness of one kind of chains is one of any other that has the same chains
exact_also : (IsChain IsOther : JobChain → Type 0) (job_of : JobChain → ℕ) → ((chain : JobChain) → IsChain chain → IsOther chain)
    → ((chain : JobChain) → IsOther chain → IsChain chain) → (witness : Witness) → IsExact IsChain job_of witness → IsExact IsOther job_of witness
exact_also IsChain IsOther job_of there back witness exact = record {
  longest = record {
    is_chain = there _ exact.longest.is_chain;
    longest = λ other is. exact.longest.longest other (back other is);
    least = λ other is. exact.longest.least other (back other is);
  };
  length = exact.length;
}

-- a sum over what is made of each element
sum_by-map : {X Y : Type 0} (number : Y → ℕ) (made : X → Y) (xs : List X) → sum_by number (map made xs) ≡ sum_by (λ x. number (made x)) xs
sum_by-map number made [] = refl
sum_by-map number made (x ∷ xs) =
    sum_by-cons number (made x) (map made xs)
    ∙ ap (λ n. number (made x) + n) (sum_by-map number made xs)
    ∙ sym (sum_by-cons (λ y. number (made y)) x xs)

-- what holds of the groups of the one holds of those of the other
module _ (one other : System) (groups others : List Group) (same : rhythms one groups ≡ rhythms other others) where
  count : length groups ≡ length others
  count = omega (arith, ap length same, length-map groups (rhythm_of one), length-map others (rhythm_of other))

  -- groups of one place have the same rhythm
  same_at : (i : ℕ) (d e : Group) → i < length groups → rhythm_of one (get_or groups i d) ≡ rhythm_of other (get_or others i e)
  same_at i d e h =
      sym (get_or-map (rhythm_of one) groups i d (rhythm_of one d) h)
      ∙ ap (λ list. get_or list i (rhythm_of one d)) same
      ∙ get_or-map (rhythm_of other) others i e (rhythm_of one d) (omega (arith, h, count))

  same_pattern : (i : ℕ) (d e : Group) → i < length groups
      → (timing_at one (get_or groups i d).task).pattern ≡ (timing_at other (get_or others i e).task).pattern
  same_pattern i d e h = ap (λ (rhythm : Rhythm). rhythm.pattern) (same_at i d e h)

  same_deadline : (i : ℕ) (d e : Group) → i < length groups
      → (timing_at one (get_or groups i d).task).deadline ≡ (timing_at other (get_or others i e).task).deadline
  same_deadline i d e h = ap (λ (rhythm : Rhythm). rhythm.deadline) (same_at i d e h)

  reads_also : (i job tick : ℕ) → i < length groups → (ideal_moments one).reads (group_at groups i) job tick
      → (ideal_moments other).reads (group_at others i) job tick
  unfolding ideal_moments
  reads_also i job tick h reads = subst (λ pattern. ArrivesAt pattern job tick) (same_pattern i no_group no_group h) reads

  writes_also : (i job tick : ℕ) → i < length groups → (ideal_moments one).writes (group_at groups i) job tick
      → (ideal_moments other).writes (group_at others i) job tick
  unfolding ideal_moments
  writes_also i job tick h writes = (
    writes.0,
    subst (λ pattern. ArrivesAt pattern job writes.0) (same_pattern i no_group no_group h) writes.1,
    omega (arith, writes.2, same_deadline i no_group no_group h),
  )

  -- sums and tests of their rhythms are the same
  pub same_start_up : start_up one groups ≡ start_up other others
  same_start_up =
      let number : Rhythm → ℕ = λ rhythm. (first_least rhythm.pattern + least_distance rhythm.pattern) + rhythm.deadline in
      sym (sum_by-map number (rhythm_of one) groups) ∙ ap (sum_by number) same ∙ sum_by-map number (rhythm_of other) others

  pub same_timed : are_timed_periodic one groups ≡ are_timed_periodic other others
  unfolding are_timed_periodic
  same_timed =
      let test : Rhythm → Bool = λ rhythm. is_timed rhythm.access && is_periodic rhythm.pattern in
      sym (list_all-map test (rhythm_of one) groups) ∙ ap (list_all test) same ∙ list_all-map test (rhythm_of other) others

  periods_at : (i : ℕ) (d e : Group) → i < length groups → period_of one (get_or groups i d) ≡ period_of other (get_or others i e)
  periods_at i d e h = ap least_distance (same_pattern i d e h)

  multiple_also : (ticks : ℕ) → IsMultipleOfPeriods one groups ticks → IsMultipleOfPeriods other others ticks
  multiple_also ticks multiple i d h = subst (λ period. period ∣ ticks) (periods_at i d d (omega (arith, h, count))) (multiple i d (omega (arith, h, count)))

  begun_also : (moment : ℕ) → HaveAllBegun one groups moment → HaveAllBegun other others moment
  begun_also moment begun i d h =
      subst (λ (pattern : StimulusKind). first_least pattern + least_distance pattern ≤ moment)
      (same_pattern i d d (omega (arith, h, count))) (begun i d (omega (arith, h, count)))

  first_period : 0 < length groups → period_of one (first_group groups) ≡ period_of other (first_group others)
  first_period some = periods_at 0 no_group no_group some

  last_period : 0 < length groups → period_of one (last_group groups) ≡ period_of other (last_group others)
  last_period some =
      periods_at (length groups - 1) no_group no_group (omega (arith, some))
      ∙ ap (λ n. period_of other (group_at others (n - 1))) count

  pub same_limit : 0 < length groups → hyper_limit one groups ≡ hyper_limit other others
  same_limit some =
      ap (λ period. MOST_FIRST_JOBS * min period (period_of one (last_group groups))) (first_period some)
      ∙ ap (λ period. MOST_FIRST_JOBS * min (period_of other (first_group others)) period) (last_period some)

-- ---- the chains that count

module _ (one other : System) (groups others : List Group) (same : rhythms one groups ≡ rhythms other others) where
  alike : HaveSameMoments (ideal_moments one) (ideal_moments other) groups others
  alike = record {
    count = count one other groups others same;
    reads = λ place job tick h. (
      reads_also one other groups others same place job tick h,
      reads_also other one others groups (sym same) place job tick (omega (arith, h, count one other groups others same)),
    );
    writes = λ place job tick h. (
      writes_also one other groups others same place job tick h,
      writes_also other one others groups (sym same) place job tick (omega (arith, h, count one other groups others same)),
    );
  }

  steady_forward_also : (chain : JobChain) → IsSteadyForward one groups chain → IsSteadyForward other others chain
  steady_forward_also chain steady = record {
    is_chain = forward_also (ideal_moments one) (ideal_moments other) groups others alike chain steady.is_chain;
    read = steady.read;
    reads = first_reads (ideal_moments one) (ideal_moments other) groups others alike (first_job chain) steady.read steady.is_chain.some_group steady.reads;
    steady = begun_also one other groups others same steady.read steady.steady;
  }

  steady_age_also : (chain : JobChain) → IsSteadyAge one groups chain → IsSteadyAge other others chain
  steady_age_also chain steady = record {
    is_chain = age_also (ideal_moments one) (ideal_moments other) groups others alike chain steady.is_chain;
    read = steady.read;
    reads = last_reads (ideal_moments one) (ideal_moments other) groups others alike (last_job chain) steady.read steady.is_chain.links.some_group steady.reads;
    steady = omega (arith, steady.steady, same_start_up one other groups others same);
  }

  steady_reduced_also : (chain : JobChain) → IsSteadyReduced one groups chain → IsSteadyReduced other others chain
  steady_reduced_also chain steady = record {
    is_chain = reduced_also (ideal_moments one) (ideal_moments other) groups others alike chain steady.is_chain;
    read = steady.read;
    reads = last_reads (ideal_moments one) (ideal_moments other) groups others alike (last_job chain) steady.read steady.is_chain.links.some_group steady.reads;
    steady = omega (arith, steady.steady, same_start_up one other groups others same);
  }

-- so the two have the same hyperperiod and the same exact lengths
module _ (one other : System) (groups others : List Group) (same : rhythms one groups ≡ rhythms other others) where
  hyperperiod_also : (ticks : ℕ) → IsHyperperiod one groups ticks → IsHyperperiod other others ticks
  hyperperiod_also ticks is = record {
    multiple = multiple_also one other groups others same ticks is.multiple;
    least = λ more multiple. is.least more (multiple_also other one others groups (sym same) more multiple);
  }

  pub within_also : 0 < length groups → IsWithinLimit one groups → IsWithinLimit other others
  within_also some limited = record {
    hyperperiod = limited.hyperperiod;
    is_hyperperiod = hyperperiod_also limited.hyperperiod limited.is_hyperperiod;
    within = omega (arith, limited.within, same_limit one other groups others same some);
  }

  pub past_also : 0 < length groups → IsPastLimit one groups → IsPastLimit other others
  past_also some limited = record {
    hyperperiod = limited.hyperperiod;
    is_hyperperiod = hyperperiod_also limited.hyperperiod limited.is_hyperperiod;
    past = omega (arith, limited.past, same_limit one other groups others same some);
  }

  pub lengths_also : (exact : Witnesses) → AreExactLengths one groups exact → AreExactLengths other others exact
  lengths_also exact are = record {
    reaction = exact_also (IsSteadyForward one groups) (IsSteadyForward other others) first_job
        (steady_forward_also one other groups others same) (steady_forward_also other one others groups (sym same)) exact.reaction are.reaction;
    age = exact_also (IsSteadyAge one groups) (IsSteadyAge other others) last_job
        (steady_age_also one other groups others same) (steady_age_also other one others groups (sym same)) exact.age are.age;
    reduced = exact_also (IsSteadyReduced one groups) (IsSteadyReduced other others) last_job
        (steady_reduced_also one other groups others same) (steady_reduced_also other one others groups (sym same)) exact.reduced are.reduced;
  }
