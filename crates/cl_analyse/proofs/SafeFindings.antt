-- The findings of a valid model are safe.
use Rattle.std.proofs.Common.{◌≡◌, ◌⊎◌, ℕ, ◌+◌, ◌<◌, ◌≤◌, Bool, true, false, Option, Some, None, inl, inr, List, length, refl, sym, ap, ◌∙◌, subst, arith}
use Rattle.std.specs.Prelude.{All, find}
use Rattle.std.specs.Option.{option_map}
use Rattle.std.proofs.Math.ListN.{length-map}
use Rattle.std.proofs.Math.Nat.{lt_of_not-le}
use Rattle.std.proofs.lemmas.List.{get_or-map, get_or_past}
use Rattle.std.proofs.lemmas.List.Elements.{All-map}
use Rattle.cl_model.specs.{declared.{model.SystemModel.SystemModel, chain.RequirementDef.RequirementDef, group.Step.Step}, Groups.{step_named, steps_of, no_step, groups_at}, ByNumber.{no_chain, chain_at, no_requirement, requirement_at}, Validity.IsValid}
use Rattle.cl_model.proofs.{GroupFacts.groups_at_are, StepFacts.step_is_known, NamesKnown.steps_known}
use Rattle.cl_runs.specs.{SystemOf.system_of, Chains.last_group, Requirements.{IsChainRequired, required_chain, IsKept, IsBroken}, Responses.AlwaysFinishesWithin}
use Rattle.cl_runs.proofs.{ModelSystem.{count_is, system_sound}, Extension.some_legal, FirstFound.first_found}
use Rattle.cl_hop.specs.{Bounds.{Lengths, AreBoundsOf}, Promises.AreSafe}
use Rattle.cl_resp.specs.Response.{Response, IsSettled}
use Rattle.cl_resp.proofs.BusyWindowTask.{settled_finish}
use Rattle.cl_bound.specs.{declared.answer.TaskAnswer.TaskAnswer, Answers.{answers_of, answer_at, is_late, response_in}, Bounds.{settled_timings, bounds_of}, SettledChains.IsSettledChain}
use Rattle.cl_bound.specs.declared.answer.TaskAnswer.TheVariants as answer
use Rattle.cl_bound.proofs.{ModelGroups.settled_chain, SettledTasks.settled_task, SettledChains.{settled_sums, settled_safe}}
use Rattle.cl_exact.specs.{TimedPeriodic.is_timed_periodic_chain, Hyperperiod.period_of, ExactLengths.{Witnesses, chain_of}, RunPromises.AreExactInRuns}
use Rattle.cl_exact.proofs.RunExact.{model_exact_in_runs}
use Rattle.cl_analyse.specs.{declared.findings.{ChainAnswer.{ChainAnswer, TheVariants.{Bounds, Late}}, ExactAnswer.{ExactAnswer, TheVariants.{Exact, Past, NotTimed, ChainLate}}, Verdict.{Verdict, TheVariants.{Met, Broken, Unshown}}, Findings.Findings}, ChainAnswers.first_late}
use Rattle.cl_analyse.specs.{ChainAnswers.{chain_answer, chain_answer_of, chain_answers_of, chain_answer_at, exact_answer_at, IsTimelyAnswer, IsExactAnswer, AreExactAnswers}, Verdicts.{required_bound, required_exact, verdict_of, verdicts_of, verdict_at}, Findings.AreFindings}
use Rattle.cl_analyse.specs.Headline.{task_of_step, IsFirstWithoutFixpoint, IsExactBecause, AreWithinBounds, AreSafeFindings}
use Rattle.cl_analyse.proofs.{FirstLate.settled_groups, LateTasks.{late_without, timely_with}, ExactAnswers.{one_exacts, settled_have_responses}, KeptRequirements.{met_by, broken_by, kind_attained, required_valued, bound_valued, kind_exact, kind_bound}}

-- ---- the answers

-- the answer for a chain of the model
pub answer_of_chain : (model : SystemModel) (i : ℕ) → i < length model.chains
    → chain_answer_at (chain_answers_of model) i ≡ chain_answer_of model (chain_at model i)
answer_of_chain model i within = get_or-map (chain_answer_of model) model.chains i no_chain (Late 0) within

-- bounds are the answer only where no task is late, and a late task only where it is the first
bounds_where : (first : Option ℕ) (own bounds : Lengths) → chain_answer first own ≡ Bounds bounds → (first ≡ None) × (own ≡ bounds)
bounds_where None own bounds is = (refl, cc)
bounds_where (Some task) own bounds is = absurd (cc)

pub late_where : (first : Option ℕ) (own : Lengths) (task : ℕ) → chain_answer first own ≡ Late task → first ≡ Some task
late_where None own task is = absurd (cc)
late_where (Some other) own task is = cc

task_of_system : (model : SystemModel) (task : ℕ) → task < length model.tasks → task < length (system_of model).tasks
task_of_system model task within = omega (arith, within, count_is model)

-- ---- the first late task of a chain

some_mapped : {X : Type 0} (f : X → ℕ) (found : Option X) (n : ℕ) → option_map f found ≡ Some n → (x : X) × (found ≡ Some x) × (f x ≡ n)
some_mapped f None n is = absurd (cc)
some_mapped f (Some x) n is = (x, refl, cc)

-- the task is that of a step of the chain, and late, and that of no step before it is
record IsFirstLate (model : SystemModel) (chain task : ℕ) : Type 0 where
  step : ℕ
  within : step < length (steps_of model (chain_at model chain))
  is_task : task_of_step model chain step ≡ task
  late : is_late (answer_at (answers_of (system_of model)) task) ≡ true
  timely_before : (earlier : ℕ) → earlier < step → is_late (answer_at (answers_of (system_of model)) (task_of_step model chain earlier)) ≡ false

first_late_stands : (model : SystemModel) (chain task : ℕ) → first_late (answers_of (system_of model)) (steps_of model (chain_at model chain)) ≡ Some task
    → IsFirstLate model chain task
first_late_stands model chain task is =
    let steps : List Step = steps_of model (chain_at model chain) in
    let late : Step → Bool = λ (step : Step). is_late (answer_at (answers_of (system_of model)) step.task) in
    let (step, found, same) = some_mapped (λ (step : Step). step.task) (find late steps) task is in
    let first = first_found late steps step found in
    record {
      step = first.place;
      within = first.within;
      is_task = ap (λ (s : Step). s.task) (first.is no_step) ∙ same;
      late = subst (λ (n : ℕ). is_late (answer_at (answers_of (system_of model)) n) ≡ true) same first.passes;
      timely_before = λ earlier before. first.fails_before earlier no_step before;
    }

-- ---- chains of a valid model

module _ (model : SystemModel) (valid : IsValid model) where
  -- each step of a chain stands in a task
  steps_of_tasks : (chain : ℕ) → chain < length model.chains
      → All (λ (step : Step). step.task < length model.tasks) (steps_of model (chain_at model chain))
  steps_of_tasks chain within = All-map (λ (step : Step). step.task < length model.tasks) (step_named model) (chain_at model chain).runnables
      (λ k d k_within. (step_is_known model _ (steps_known model valid chain no_chain within k d k_within)).0)

  -- a chain without a late task is settled
  pub chain_settled : (chain : ℕ) → first_late (answers_of (system_of model)) (steps_of model (chain_at model chain)) ≡ None
      → IsSettledChain (system_of model) (groups_at model chain)
  chain_settled chain none =
      settled_chain model (groups_at model chain) (groups_at_are model valid chain) (settled_groups (answers_of (system_of model)) model (chain_at model chain) none)

  late_of_chain : (chain task : ℕ) → chain < length model.chains → chain_answer_at (chain_answers_of model) chain ≡ Late task → IsFirstLate model chain task
  unfolding chain_answer_of
  late_of_chain chain task within is =
      first_late_stands model chain task (late_where (first_late (answers_of (system_of model)) (steps_of model (chain_at model chain)))
      (bounds_of (system_of model) (groups_at model chain)) task (sym (answer_of_chain model chain within) ∙ is))

  -- the task of each step of a chain is a task of the model
  step_within : (chain step : ℕ) → chain < length model.chains → step < length (steps_of model (chain_at model chain))
      → task_of_step model chain step < length model.tasks
  step_within chain step within at = steps_of_tasks chain within step no_step at

  late_task_within : (chain task : ℕ) → chain < length model.chains → IsFirstLate model chain task → task < length model.tasks
  late_task_within chain task within first = subst (λ (n : ℕ). n < length model.tasks) first.is_task (step_within chain first.step within first.within)

  -- a late task that an answer names is a task of the model
  pub named_task_within : (chain task : ℕ) → chain < length model.chains → chain_answer_at (chain_answers_of model) chain ≡ Late task → task < length model.tasks
  named_task_within chain task within is = late_task_within chain task within (late_of_chain chain task within is)

  -- ---- what the findings promise

  -- responses of settled tasks hold
  pub responses_hold : (task : ℕ) (response : Response) → task < length model.tasks → answer_at (answers_of (system_of model)) task ≡ answer.Settled response
      → AlwaysFinishesWithin (system_of model) task response.response
  responses_hold task response within is =
      let settled = settled_task (system_of model) task (task_of_system model task within) (ap is_late is) in
      settled_finish (system_of model) (system_sound model valid) task response.response
      (subst (IsSettled (system_of model) task) (ap response_in is) settled)

  -- bounds are given only to settled chains, and are theirs
  bounds_given : (chain : ℕ) (bounds : Lengths) → chain < length model.chains → chain_answer_at (chain_answers_of model) chain ≡ Bounds bounds
      → IsSettledChain (system_of model) (groups_at model chain) × (bounds_of (system_of model) (groups_at model chain) ≡ bounds)
  unfolding chain_answer_of
  bounds_given chain bounds within is =
      let (none, own) = bounds_where (first_late (answers_of (system_of model)) (steps_of model (chain_at model chain)))
      (bounds_of (system_of model) (groups_at model chain)) bounds (sym (answer_of_chain model chain within) ∙ is) in
      (chain_settled chain none, own)

  -- bounds are safe
  pub bounds_hold : (chain : ℕ) (bounds : Lengths) → chain < length model.chains → chain_answer_at (chain_answers_of model) chain ≡ Bounds bounds
      → AreSafe (system_of model) (groups_at model chain) bounds
  bounds_hold chain bounds within is =
      let (settled, own) = bounds_given chain bounds within is in
      subst (AreSafe (system_of model) (groups_at model chain)) own
      (settled_safe (system_of model) (system_sound model valid) (groups_at model chain) settled)

  -- and are the signed sums that define them
  pub bounds_found : (chain : ℕ) (bounds : Lengths) → chain < length model.chains → chain_answer_at (chain_answers_of model) chain ≡ Bounds bounds
      → AreBoundsOf (settled_timings (system_of model) (groups_at model chain)) bounds
  bounds_found chain bounds within is =
      let (settled, own) = bounds_given chain bounds within is in
      subst (AreBoundsOf (settled_timings (system_of model) (groups_at model chain))) own
      (settled_sums (system_of model) (system_sound model valid) (groups_at model chain) settled)

  -- a missing bound names the first task without a fixpoint
  missing_named : (chain task : ℕ) → chain < length model.chains → chain_answer_at (chain_answers_of model) chain ≡ Late task → IsFirstWithoutFixpoint model chain task
  missing_named chain task within is =
      let first = late_of_chain chain task within is in
      record {
        step = first.step;
        within = first.within;
        is_task = first.is_task;
        none = late_without (system_of model) task (task_of_system model task (late_task_within chain task within first)) first.late;
        first = λ earlier before.
            timely_with (system_of model) (task_of_step model chain earlier)
            (task_of_system model (task_of_step model chain earlier) (step_within chain earlier within (omega (arith, before, first.within))))
            (system_sound model valid) (first.timely_before earlier before);
      }

  -- ---- exact lengths

  module _ (chain : ℕ) (within : chain < length model.chains) where
    timely_because : (timed : Bool) → is_timed_periodic_chain model chain ≡ timed → (answer : ExactAnswer) → IsTimelyAnswer model chain timed answer
        → IsSettledChain (system_of model) (groups_at model chain) → IsExactBecause model chain answer
    timely_because false is answer not settled = subst (IsExactBecause model chain) (sym not) is
    timely_because true is (Exact lengths) exact settled =
        model_exact_in_runs model valid chain is (settled_have_responses (system_of model) (system_sound model valid) (groups_at model chain) settled) lengths exact.1
    timely_because true is (Past limit) past settled = past
    timely_because true is NotTimed not settled = absurd not
    timely_because true is ChainLate late settled = absurd late

    because : (bounds : ChainAnswer) → chain_answer_of model (chain_at model chain) ≡ bounds → (answer : ExactAnswer) → IsExactAnswer model chain bounds answer
        → IsExactBecause model chain answer
    because (Late task) is answer late =
        subst (IsExactBecause model chain) (sym late) (task, missing_named chain task within (answer_of_chain model chain within ∙ is))
    because (Bounds bounds) is answer timely =
        timely_because (is_timed_periodic_chain model chain) refl answer timely (bounds_given chain bounds within (answer_of_chain model chain within ∙ is)).0

    pub exact_because : (exacts : List ExactAnswer) → AreExactAnswers model exacts → IsExactBecause model chain (exact_answer_at exacts chain)
    exact_because exacts are = because (chain_answer_of model (chain_at model chain)) refl (exact_answer_at exacts chain) (are.each chain within)

    pub exact_found : (exacts : List ExactAnswer) (lengths : Witnesses) → AreExactAnswers model exacts → exact_answer_at exacts chain ≡ Exact lengths
        → AreExactInRuns (system_of model) (groups_at model chain) lengths
    exact_found exacts lengths are is = subst (IsExactBecause model chain) is (exact_because exacts are)

    -- each exact length is at most the bound of its kind, since it is attained in some legal run
    pub exact_within : (exacts : List ExactAnswer) (lengths : Witnesses) (bounds : Lengths) → AreExactAnswers model exacts → exact_answer_at exacts chain ≡ Exact lengths
        → chain_answer_at (chain_answers_of model) chain ≡ Bounds bounds → AreWithinBounds lengths bounds
    exact_within exacts lengths bounds are exact is =
        let last : ℕ = lengths.reaction.to + lengths.age.to + (lengths.reduced.to + period_of (system_of model) (last_group (groups_at model chain))) in
        let (run, ticks, legal) = some_legal (system_of model) (system_sound model valid) last in
        let attained = (exact_found exacts lengths are exact).attained run legal in
        let safe = bounds_hold chain bounds within is run legal in
        let reaction = attained.reaction (omega (arith, ticks)) in
        let age = attained.age (omega (arith, ticks)) in
        let reduced = attained.reduced (omega (arith, ticks)) in
        record {
          reaction = subst (λ (n : ℕ). n ≤ bounds.reaction) reaction.length (safe.reaction (chain_of lengths.reaction) reaction.is_chain);
          age = subst (λ (n : ℕ). n ≤ bounds.age) age.length (safe.age (chain_of lengths.age) age.is_chain);
          reduced = subst (λ (n : ℕ). n ≤ bounds.reduced) reduced.length (safe.reduced (chain_of lengths.reduced) reduced.is_chain);
        }

  -- ---- requirements

  -- a chain of which something was found is a chain of the model
  exact_chain : (exacts : List ExactAnswer) (chain : ℕ) (lengths : Witnesses) → AreExactAnswers model exacts → exact_answer_at exacts chain ≡ Exact lengths → chain < length model.chains
  exact_chain exacts chain lengths are is = lt_of_not-le (λ past. not_late (sym (get_or_past exacts chain ChainLate (omega (arith, past, are.one_a_chain))) ∙ is))
    where
      not_late : ChainLate ≡ Exact lengths → ⊥
      not_late e = cc

  bounded_chain : (chain : ℕ) (bounds : Lengths) → chain_answer_at (chain_answers_of model) chain ≡ Bounds bounds → chain < length model.chains
  bounded_chain chain bounds is =
      lt_of_not-le (λ past. not_late (sym (get_or_past (chain_answers_of model) chain (Late 0) (omega (arith, past, length-map model.chains (chain_answer_of model)))) ∙ is))
    where
      not_late : Late 0 ≡ Bounds bounds → ⊥
      not_late e = cc

  module _ (requirement : RequirementDef) where
    kept_by : (exacts : List ExactAnswer) → AreExactAnswers model exacts → (value : ℕ) → value ≤ requirement.most
        → (required_exact requirement.kind (exact_answer_at exacts (required_chain model requirement)) ≡ Some value)
        ⊎ (required_bound requirement.kind (chain_answer_at (chain_answers_of model) (required_chain model requirement)) ≡ Some value)
        → IsKept model requirement
    kept_by exacts are value within (inl exact) =
        let chain : ℕ = required_chain model requirement in
        let (kind, of_kind, lengths, is, same) = required_valued requirement.kind (exact_answer_at exacts chain) value exact in
        let found = exact_found chain (exact_chain exacts chain lengths are is) exacts lengths are is in
        λ run legal job_chain complete.
        let own = subst (λ k. IsChainRequired k (system_of model) run (groups_at model chain) job_chain) of_kind complete in
        let longest = kind_exact (system_of model) (groups_at model chain) run job_chain kind lengths (found.greatest run legal) own in
        omega (arith, longest, same, within)
    kept_by exacts are value within (inr bound) =
        let chain : ℕ = required_chain model requirement in
        let (bounds, is, same) = bound_valued requirement.kind (chain_answer_at (chain_answers_of model) chain) value bound in
        let found = bounds_hold chain bounds (bounded_chain chain bounds is) is in
        λ run legal job_chain complete.
        let longest = kind_bound (system_of model) (groups_at model chain) run job_chain requirement.kind bounds (found run legal) complete in
        omega (arith, longest, same, within)

    kept : (exacts : List ExactAnswer) → AreExactAnswers model exacts → (value : ℕ) → verdict_of model (chain_answers_of model) exacts requirement ≡ Met value → IsKept model requirement
    unfolding verdict_of
    kept exacts are value is =
        let chain : ℕ = required_chain model requirement in
        let (own, within, from) = met_by requirement.most value (required_exact requirement.kind (exact_answer_at exacts chain)) (required_bound requirement.kind (chain_answer_at (chain_answers_of model) chain)) is in
        kept_by exacts are own within from

    -- what is found broken is broken in a run that lasts to the end of its witness
    broken_from : (exacts : List ExactAnswer) → AreExactAnswers model exacts → (value : ℕ) → requirement.most < value
        → required_exact requirement.kind (exact_answer_at exacts (required_chain model requirement)) ≡ Some value → IsBroken model requirement
    broken_from exacts are value past exact =
        let chain : ℕ = required_chain model requirement in
        let (kind, of_kind, lengths, is, same) = required_valued requirement.kind (exact_answer_at exacts chain) value exact in
        let last : ℕ = lengths.reaction.to + lengths.age.to + (lengths.reduced.to + period_of (system_of model) (last_group (groups_at model chain))) in
        let (run, ticks, legal) = some_legal (system_of model) (system_sound model valid) last in
        let attained = (exact_found chain (exact_chain exacts chain lengths are is) exacts lengths are is).attained run legal in
        let found = kind_attained (system_of model) (groups_at model chain) run kind lengths attained (omega (arith, ticks)) in
        let complete = subst (λ k. IsChainRequired k (system_of model) run (groups_at model chain) found.chain) (sym of_kind) found.complete in
        record { run = run; legal = legal; chain = found.chain; complete = complete; longer = omega (arith, past, same, found.is_long) }

    broken : (exacts : List ExactAnswer) → AreExactAnswers model exacts → (value : ℕ) → verdict_of model (chain_answers_of model) exacts requirement ≡ Broken value
        → IsBroken model requirement
    unfolding verdict_of
    broken exacts are value is =
        let chain : ℕ = required_chain model requirement in
        let (exact, past) = broken_by requirement.most value (required_exact requirement.kind (exact_answer_at exacts chain)) (required_bound requirement.kind (chain_answer_at (chain_answers_of model) chain)) is in
        broken_from exacts are value past exact

  -- the verdict on the requirement of a number
  verdict_is : (findings : Findings) → AreFindings model findings → (i : ℕ) → i < length model.requirements
      → verdict_of model (chain_answers_of model) findings.exacts (requirement_at model i) ≡ verdict_at findings.verdicts i
  verdict_is findings found i within =
      ap (λ (list : List ChainAnswer). verdict_of model list findings.exacts (requirement_at model i)) (sym found.chains)
      ∙ sym (get_or-map (verdict_of model findings.chains findings.exacts) model.requirements i no_requirement (Unshown None) within)
      ∙ ap (λ (verdicts : List Verdict). verdict_at verdicts i) (sym found.verdicts)

  pub broken_found : (findings : Findings) → AreFindings model findings → (i value : ℕ) → i < length model.requirements
      → verdict_at findings.verdicts i ≡ Broken value → IsBroken model (requirement_at model i)
  broken_found findings found i value within is =
      broken (requirement_at model i) findings.exacts found.exacts value (verdict_is findings found i within ∙ is)

  pub met_found : (findings : Findings) → AreFindings model findings → (i value : ℕ) → i < length model.requirements
      → verdict_at findings.verdicts i ≡ Met value → IsKept model (requirement_at model i)
  met_found findings found i value within is =
      kept (requirement_at model i) findings.exacts found.exacts value (verdict_is findings found i within ∙ is)

  -- ---- the findings

  pub findings_safe : (findings : Findings) → AreFindings model findings → AreSafeFindings model findings
  findings_safe findings found = record {
    responses = λ task response within is. responses_hold task response within (sym (ap (λ (answers : List TaskAnswer). answer_at answers task) found.tasks) ∙ is);
    bounds = λ chain bounds within is. bounds_hold chain bounds within (sym (ap (λ (answers : List ChainAnswer). chain_answer_at answers chain) found.chains) ∙ is);
    missing = λ chain task within is. missing_named chain task within (sym (ap (λ (answers : List ChainAnswer). chain_answer_at answers chain) found.chains) ∙ is);
    exact = λ chain within. exact_because chain within findings.exacts found.exacts;
    met = met_found findings found;
    broken = broken_found findings found;
  }

  -- each exact length that is found is at most the bound that is found
  pub found_within : (findings : Findings) → AreFindings model findings → (chain : ℕ) (lengths : Witnesses) (bounds : Lengths) → chain < length model.chains
      → exact_answer_at findings.exacts chain ≡ Exact lengths → chain_answer_at findings.chains chain ≡ Bounds bounds → AreWithinBounds lengths bounds
  found_within findings found chain lengths bounds within exact is =
      exact_within chain within findings.exacts lengths bounds found.exacts exact (sym (ap (λ (answers : List ChainAnswer). chain_answer_at answers chain) found.chains) ∙ is)

-- ---- a model has one findings

same_findings : (one other : Findings) → one.tasks ≡ other.tasks → one.chains ≡ other.chains → one.exacts ≡ other.exacts → one.verdicts ≡ other.verdicts → one ≡ other
same_findings one other tasks chains exacts verdicts = λ i. record { tasks = tasks i; chains = chains i; exacts = exacts i; verdicts = verdicts i }

pub one_findings : (model : SystemModel) (one other : Findings) → AreFindings model one → AreFindings model other → one ≡ other
one_findings model one other first second =
    let chains : one.chains ≡ other.chains = first.chains ∙ sym second.chains in
    let exacts : one.exacts ≡ other.exacts = one_exacts model one.exacts other.exacts first.exacts second.exacts in
    same_findings one other (first.tasks ∙ sym second.tasks) chains exacts
    (first.verdicts ∙ ap (λ (list : List ChainAnswer). verdicts_of model list one.exacts) chains
    ∙ ap (λ (list : List ExactAnswer). verdicts_of model other.chains list) exacts ∙ sym second.verdicts)
