-- The exact lengths of a settled timed chain are the greatest over all legal runs, and each witness is a complete chain
-- of each legal run that lasts to its end.
use Rattle.std.proofs.Common.{◌≡◌, ℕ, ◌+◌, ◌-◌, ◌<◌, ◌≤◌, true, List, length, refl, sym, subst, arith}
use Rattle.std.specs.Prelude.{All}
use Rattle.std.proofs.lemmas.List.Sums.{get_or-le-sum_by}
use Rattle.cl_model.specs.{declared.{group.Group.Group, model.SystemModel.SystemModel}, Groups.{no_group, group_at, groups_at, IsGroupOf}, Validity.IsValid}
use Rattle.cl_model.proofs.GroupFacts.{groups_at_are}
use Rattle.cl_runs.specs.{TaskTiming.{System, timing_at, IsSound}, Pattern.IsPattern, SystemOf.system_of, Run.Run, Legal.IsLegal, Chains.{JobChain, last_group, first_job, last_job, IsForwardChain, AreBackwardLinks, IsAgeChain, IsReducedChain}, MomentOrder.AreInOrder}
use Rattle.cl_runs.specs.{MomentOrder.HaveReadBeforeWriting, RunChains.{run_moments, ideal_moments}}
use Rattle.cl_runs.proofs.{Extension.some_legal, ModelSystem.system_sound, OrderedMoments.{ideal_in_order, ideal_has_read}}
use Rattle.cl_exact.specs.{TimedPeriodic.{are_timed_periodic, is_timed_periodic_chain}, Hyperperiod.period_of, ExactLengths.{second_arrival, HaveAllBegun, start_up, IsSteadyForward, IsSteadyAge, IsSteadyReduced, chain_of, Witnesses, AreExactLengths}, RunPromises.HaveResponses}
use Rattle.cl_exact.specs.RunPromises.{IsSettledTimedChain, IsIdealUntilTheEnd, AreIdealUntilTheEnd, AlwaysIdealUntilTheEnd, AreGreatestIn, AreAttainedIn, AreExactInRuns, HasWitnessRun}
use Rattle.cl_exact.proofs.{RunMoments.{task_period, ideal_until_the_end}, RunTasks.{ideal_groups, groups_of_system, settled_timed_groups}, RunChains.{ideal_forward, ideal_age, ideal_reduced}, RunWitnesses.{forward_in_run, age_in_run, reduced_in_run}, RunMultiples.IsCommonMultiple}
use Rattle.cl_exact.proofs.{RunMultiples.common_multiple, RunShifts.{ArePeriodic, arrival_at, reads_at, write_is, writes_at, moved_chain, first_late, last_late, forward_moved, age_moved, reduced_moved}}

module _ (system : System) (sound : IsSound system) (groups : List Group) (chain : IsSettledTimedChain system groups) where
  in_order : AreInOrder (ideal_moments system) groups
  in_order = ideal_in_order system sound groups (groups_of_system system groups chain)

  has_read : HaveReadBeforeWriting (ideal_moments system) groups
  has_read = ideal_has_read system sound groups (groups_of_system system groups chain)

  periodic : ArePeriodic system groups
  periodic i h = (ideal_groups system groups chain i no_group h).task.periodic

  -- in a legal run each group reads and writes at its ideal moments until the end
  pub until_the_end : (run : Run) → IsLegal system run → All (IsIdealUntilTheEnd system run) groups
  until_the_end run legal i d h = ideal_until_the_end system sound _ (ideal_groups system groups chain i d h) run legal

  -- ---- no complete chain is longer

  some_period : (i : ℕ) → i < length groups → 1 ≤ task_period system (group_at groups i).task
  some_period i h = subst IsPattern (periodic i h) (sound.tasks _ (groups_of_system system groups chain i no_group h)).pattern

  -- a common multiple of the periods, after which all tasks have begun
  far : IsCommonMultiple (λ i. task_period system (group_at groups i).task) (length groups) (start_up system groups)
  far = common_multiple (λ i. task_period system (group_at groups i).task) (length groups) (start_up system groups) some_period

  abbrev moved : JobChain → JobChain
  moved other = moved_chain system groups periodic far.multiple far.times far.is other

  begun_by : (read : ℕ) → far.multiple ≤ read → HaveAllBegun system groups read
  begun_by read late i d h = omega (
    arith,
    late,
    far.great,
    get_or-le-sum_by (λ (group : Group). second_arrival system group + (timing_at system group.task).deadline) groups i d h,
  )

  steady_forward : (other : JobChain) → IsForwardChain (ideal_moments system) groups other → IsSteadyForward system groups (moved other)
  steady_forward other complete = record {
    is_chain = forward_moved system groups periodic far.multiple far.times far.is other complete;
    read = arrival_at system groups 0 (first_job (moved other));
    reads = reads_at system groups periodic 0 _ _ complete.some_group refl;
    steady = begun_by _ (first_late system groups periodic far.multiple far.times far.is other.jobs complete.some_group);
  }

  last_steady : (jobs : List ℕ) → AreBackwardLinks (ideal_moments system) groups jobs
      → start_up system groups ≤ arrival_at system groups (length groups - 1) (last_job (moved (record { from = 0; to = 0; jobs = jobs })))
  last_steady jobs links = omega (
    arith,
    far.great,
    last_late system groups periodic far.multiple far.times far.is jobs links.some_group links.one_a_group,
  )

  steady_age : (other : JobChain) → IsAgeChain (ideal_moments system) groups other → IsSteadyAge system groups (moved other)
  steady_age other complete = record {
    is_chain = age_moved system groups periodic far.multiple far.times far.is other complete;
    read = arrival_at system groups (length groups - 1) (last_job (moved other));
    reads = reads_at system groups periodic (length groups - 1) _ _ (omega (arith, complete.links.some_group)) refl;
    steady = last_steady other.jobs complete.links;
  }

  steady_reduced : (other : JobChain) → IsReducedChain (ideal_moments system) groups other → IsSteadyReduced system groups (moved other)
  steady_reduced other complete = record {
    is_chain = reduced_moved system groups periodic far.multiple far.times far.is other complete;
    read = arrival_at system groups (length groups - 1) (last_job (moved other));
    reads = reads_at system groups periodic (length groups - 1) _ _ (omega (arith, complete.links.some_group)) refl;
    steady = last_steady other.jobs complete.links;
  }

  module _ (exact : Witnesses) (are : AreExactLengths system groups exact) (run : Run) (legal : IsLegal system run) where
    greatest_in : AreGreatestIn system groups exact run
    greatest_in = record {
      reaction = λ other complete. omega (
        arith,
        are.reaction.length,
        are.reaction.longest.longest (moved other)
            (steady_forward other (ideal_forward system groups run (until_the_end run legal) in_order other complete)),
      );
      age = λ other complete. omega (
        arith,
        are.age.length,
        are.age.longest.longest (moved other) (steady_age other (ideal_age system groups run (until_the_end run legal) in_order other complete)),
      );
      reduced = λ other complete. omega (
        arith,
        are.reduced.length,
        are.reduced.longest.longest (moved other)
            (steady_reduced other (ideal_reduced system groups run (until_the_end run legal) in_order other complete)),
      );
    }

  -- ---- the complete chains of a run

  module _ (run : Run) (legal : IsLegal system run) where
    ends_within : (job to : ℕ) → 0 < length groups → (run_moments system run).writes (last_group groups) job to → to ≤ run.table.ticks
    ends_within job to some writes = (((until_the_end run legal (length groups - 1) no_group (omega (arith, some))).writes job to).0 writes).1

    -- the job after the last writes a period after it
    next_at : (job to : ℕ) → 0 < length groups → (ideal_moments system).writes (last_group groups) job to
        → (ideal_moments system).writes (last_group groups) (job + 1) (to + period_of system (last_group groups))
    next_at job to some writes =
        let place : length groups - 1 < length groups = omega (arith, some) in
        writes_at system groups periodic (length groups - 1) (job + 1) _ place
        (omega (arith, write_is system groups periodic (length groups - 1) job to place writes))

    next_within : (other : JobChain) → IsReducedChain (run_moments system run) groups other → IsReducedChain (ideal_moments system) groups other
        → other.to + period_of system (last_group groups) ≤ run.table.ticks
    next_within other complete ideal =
        let place : length groups - 1 < length groups = omega (arith, complete.links.some_group) in
        let next = complete.links.next_written in
        let (writes, within) = ((until_the_end run legal (length groups - 1) no_group place).writes (last_job other + 1) next.write).0 next.writes in
        omega (
          arith,
          within,
          in_order.unique.writes (length groups - 1) (last_job other + 1) next.write _ place writes
              (next_at (last_job other) other.to complete.links.some_group ideal.to),
        )

    -- the complete chains of a run are those over the ideal moments that are complete by its end
    pub chains_until_the_end : AreIdealUntilTheEnd system groups run
    chains_until_the_end = record {
      forward = λ other. (
        λ complete. (
          ideal_forward system groups run (until_the_end run legal) in_order other complete,
          ends_within (last_job other) other.to complete.some_group complete.to,
        ),
        λ ideal. forward_in_run system groups run (until_the_end run legal) in_order has_read other ideal.0 ideal.1,
      );
      age = λ other. (
        λ complete. (
          ideal_age system groups run (until_the_end run legal) in_order other complete,
          ends_within (last_job other + 1) other.to complete.links.some_group complete.to,
        ),
        λ ideal. age_in_run system groups run (until_the_end run legal) in_order has_read other ideal.0 ideal.1,
      );
      reduced = λ other. (
        λ complete.
            let ideal = ideal_reduced system groups run (until_the_end run legal) in_order other complete in
            (ideal, next_within other complete ideal),
        λ ideal.
            reduced_in_run system groups run (until_the_end run legal) in_order has_read other ideal.0 _
            (next_at (last_job other) other.to ideal.0.links.some_group ideal.0.to) ideal.1,
      );
    }

  -- ---- witnesses

  module _ (exact : Witnesses) (are : AreExactLengths system groups exact) (run : Run) (legal : IsLegal system run) where
    attained_in : AreAttainedIn system groups exact run
    attained_in = record {
      reaction = λ lasts. record {
        is_chain = ((chains_until_the_end run legal).forward (chain_of exact.reaction)).1 (are.reaction.longest.is_chain.is_chain, lasts);
        length = sym are.reaction.length;
      };
      age = λ lasts. record {
        is_chain = ((chains_until_the_end run legal).age (chain_of exact.age)).1 (are.age.longest.is_chain.is_chain, lasts);
        length = sym are.age.length;
      };
      reduced = λ lasts. record {
        is_chain = ((chains_until_the_end run legal).reduced (chain_of exact.reduced)).1 (are.reduced.longest.is_chain.is_chain, lasts);
        length = sym are.reduced.length;
      };
    }

  -- the exact lengths of a settled timed chain are exact
  pub exact_in_runs : (exact : Witnesses) → AreExactLengths system groups exact → AreExactInRuns system groups exact
  exact_in_runs exact are = record { greatest = greatest_in exact are; attained = attained_in exact are }

  -- and there is a legal run that lasts to the ends of all witnesses
  pub witness_run : (exact : Witnesses) → AreExactLengths system groups exact → HasWitnessRun system groups exact
  witness_run exact are =
      let (run, ticks, legal) = some_legal system sound (exact.reaction.to + (exact.age.to + (exact.reduced.to + period_of system (last_group groups)))) in
      let attained = attained_in exact are run legal in
      record {
        run = run;
        legal = legal;
        reaction = attained.reaction (omega (arith, ticks));
        age = attained.age (omega (arith, ticks));
        reduced = attained.reduced (omega (arith, ticks));
      }

-- ---- groups of a model

module _ (model : SystemModel) (valid : IsValid model) (groups : List Group) (of_tasks : All (IsGroupOf model) groups)
    (timed : are_timed_periodic (system_of model) groups ≡ true) (settled : HaveResponses (system_of model) groups) where
  -- groups of a valid model whose tasks are all timed and periodic, and none of them late, are ideal until the end
  pub groups_always_ideal : AlwaysIdealUntilTheEnd (system_of model) groups
  groups_always_ideal =
      let chain = settled_timed_groups model groups of_tasks timed settled in
      record {
        moments = until_the_end (system_of model) (system_sound model valid) groups chain;
        chains = chains_until_the_end (system_of model) (system_sound model valid) groups chain;
      }

  -- and their exact lengths are exact
  pub groups_exact_in_runs : (exact : Witnesses) → AreExactLengths (system_of model) groups exact → AreExactInRuns (system_of model) groups exact
  groups_exact_in_runs = exact_in_runs (system_of model) (system_sound model valid) groups (settled_timed_groups model groups of_tasks timed settled)

-- so are those of a chain
pub model_exact_in_runs : (model : SystemModel) → IsValid model → (chain : ℕ) → is_timed_periodic_chain model chain ≡ true
    → HaveResponses (system_of model) (groups_at model chain) → (exact : Witnesses) → AreExactLengths (system_of model) (groups_at model chain) exact
    → AreExactInRuns (system_of model) (groups_at model chain) exact
model_exact_in_runs model valid chain = groups_exact_in_runs model valid (groups_at model chain) (groups_at_are model valid chain)
