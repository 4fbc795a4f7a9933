-- What tight findings say of the tasks and the chains of a valid model, by themselves and beside the report.
use Rattle.std.proofs.Common.{◌≡◌, ℕ, ◌≤◌, ◌<◌, Bool, true, false, Option, Some, None, List, length, get_or, refl, sym, ap, ◌∙◌, subst, arith}
use Rattle.std.specs.Prelude.{All}
use Rattle.std.proofs.lemmas.List.{get_or-map}
use Rattle.std.proofs.lemmas.List.Elements.{All-weaker}
use Rattle.cl_model.specs.{declared.{model.SystemModel.SystemModel, group.Group.Group}, ByNumber.{no_chain, chain_at}, Groups.{steps_of, groups_at, IsGroupOf}, Validity.IsValid}
use Rattle.cl_model.proofs.GroupFacts.{groups_at_are, groups_at_some}
use Rattle.cl_runs.specs.{TaskTiming.System, SystemOf.system_of, Responses.{AlwaysFinishesWithin, IsTimely}}
use Rattle.cl_runs.proofs.ModelSystem.{count_is, system_sound}
use Rattle.cl_hop.specs.{Bounds.Lengths, NoGreater.AreNoGreater, Promises.AreSafe, Timings.{IsGroupOfTask, AlwaysKeeps}}
use Rattle.cl_hop.proofs.{KeptWindows.response_timing_is, ModelGroups.group_of_system}
use Rattle.cl_resp.specs.{ByPhase.IsSettledByPhase, Response.Response}
use Rattle.cl_resp.proofs.LeastParts.{settled_timely}
use Rattle.cl_bound.specs.{declared.answer.TaskAnswer.TaskAnswer, Answers.{answer_with, answers_of, answer_at, is_late, response_in, NoneIsLate}, Bounds.{settled_timing, bounds_of}, SettledChains.IsSettledChain}
use Rattle.cl_bound.specs.declared.answer.TaskAnswer.TheVariants as answer
use Rattle.cl_bound.proofs.{SettledChains.settled_sums, SettledTasks.settled_task}
use Rattle.cl_exact.specs.{TimedPeriodic.is_timed_periodic_chain, ExactLengths.Witnesses}
use Rattle.cl_phase.specs.{TightBounds.tight_bounds, CompleteChains.{HasCompleteChains, AreSomeTicks}}
use Rattle.cl_phase.proofs.{TightSafety.{kept_safe, tight_within_sums}, WiderWalks.tight_within_wider, ChainsComplete.has_complete_chains, SomeTicks.take_time}
use Rattle.cl_analyse.specs.{declared.findings.{ChainAnswer.{ChainAnswer, TheVariants.{Bounds, Late}}, ExactAnswer.{ExactAnswer, TheVariants.{Exact, NotTimed, ChainLate}}}, ChainAnswers.{first_late, chain_answer, chain_answer_of, chain_answers_of, chain_answer_at, exact_answer_at}}
use Rattle.cl_analyse.specs.ChainAnswers.{IsTimelyAnswer, IsExactAnswer, AreExactAnswers}
use Rattle.cl_analyse.proofs.{FirstLate.{settled_groups, none_late}, SafeFindings.{answer_of_chain, chain_settled}}
use Rattle.cl_tight.specs.{TightAnswers.{tight_answers_of, tight_response}, TightTimings.tight_timing, ExactBounds.AreLengthsOf, TightFindings.{tight_chain_answer_of, tight_chain_answers_of}}
use Rattle.cl_tight.proofs.{ModelTight.phased_of_chain, PhasedTimings.{tight_keeps, stays_by_report}, TightTasks.{phased_answer, tight_task, tight_of_settled, tight_group}}

-- bounds are the answer only where no task is late
bounds_where : (first : Option ℕ) (own bounds : Lengths) → chain_answer first own ≡ Bounds bounds → (first ≡ None) × (own ≡ bounds)
bounds_where None own bounds is = (refl, cc)
bounds_where (Some task) own bounds is = absurd (cc)

-- bounds that are no greater than some that are no greater than others
no_greater_through : (bounds middle other : Lengths) → AreNoGreater bounds middle → AreNoGreater middle other → AreNoGreater bounds other
no_greater_through bounds middle other first second = record {
  reaction = omega (arith, first.reaction, second.reaction);
  age = omega (arith, first.age, second.age);
  reduced = omega (arith, first.reduced, second.reduced);
  delay = omega (arith, first.delay, second.delay);
}

module _ (model : SystemModel) (valid : IsValid model) where
  abbrev system : System
  system = system_of model

  abbrev answers : List TaskAnswer
  answers = tight_answers_of system

  -- ---- tasks

  in_system : (task : ℕ) → task < length model.tasks → task < length system.tasks
  in_system task within = omega (arith, within, count_is model)

  -- a task that isn't late is timely
  pub timely_task : (task : ℕ) → task < length model.tasks → is_late (answer_at answers task) ≡ false → IsTimely system task (tight_response system task)
  timely_task task within timely =
      settled_timely system (system_sound model valid) task (tight_response system task) (tight_task system task (in_system task within) timely)

  -- so its response holds
  pub tight_responses_hold : (task : ℕ) (response : Response) → task < length model.tasks → answer_at answers task ≡ answer.Settled response
      → AlwaysFinishesWithin system task response.response
  tight_responses_hold task response within is =
      subst (AlwaysFinishesWithin system task) (ap response_in is) (timely_task task within (ap is_late is)).always

  -- the answer for a task with a response by phases
  settled_answer : (task response : ℕ) → (settled : IsSettledByPhase system task response)
      → answer_at answers task ≡ answer.Settled (record { window = settled.window; response = response })
  settled_answer task response settled = phased_answer system task settled.is_task ∙ ap answer_with settled.answered

  -- a task that the report doesn't call late has a response by phases, and one that is no later
  pub tight_where_settled : (task : ℕ) (response : Response) → task < length model.tasks → answer_at (answers_of system) task ≡ answer.Settled response
      → (tight : Response) × (answer_at answers task ≡ answer.Settled tight) × (tight.response ≤ response.response)
  tight_where_settled task response within is =
      let settled = settled_task system task (in_system task within) (ap is_late is) in
      let (phased, no_later) = tight_of_settled system task (in_system task within) (system_sound model valid) (response_in (answer_at (answers_of system) task)) settled in (
        record { window = phased.window; response = tight_response system task },
        settled_answer task (tight_response system task) phased,
        omega (arith, no_later, ap response_in is),
      )

  -- ---- chains

  module _ (chain : ℕ) where
    abbrev groups : List Group
    groups = groups_at model chain

    pub of_tasks : All (IsGroupOfTask system) groups
    of_tasks = All-weaker (IsGroupOf model) (IsGroupOfTask system) (group_of_system model) groups (groups_at_are model valid chain)

    -- the tight bounds of the chain
    abbrev pub own_bounds : Lengths
    own_bounds = tight_bounds system (tight_timing system) groups

    module _ (within : chain < length model.chains) where
      pub tight_answer : chain_answer_at (tight_chain_answers_of model) chain ≡ tight_chain_answer_of model (chain_at model chain)
      tight_answer = get_or-map (tight_chain_answer_of model) model.chains chain no_chain (Late 0) within

      -- tight bounds are given only where no task is late, and are those of the chain
      pub tight_given : (bounds : Lengths) → chain_answer_at (tight_chain_answers_of model) chain ≡ Bounds bounds
          → NoneIsLate answers groups × (own_bounds ≡ bounds)
      unfolding tight_chain_answer_of
      tight_given bounds is =
          let (none, own) = bounds_where (first_late answers (steps_of model (chain_at model chain))) own_bounds bounds (sym tight_answer ∙ is) in
          (settled_groups answers model (chain_at model chain) none, own)

      -- and they are given where none is
      pub tight_where : NoneIsLate answers groups → chain_answer_at (tight_chain_answers_of model) chain ≡ Bounds own_bounds
      unfolding tight_chain_answer_of
      tight_where timely =
          tight_answer ∙ ap (λ (first : Option ℕ). chain_answer first own_bounds) (none_late answers model (chain_at model chain) timely)

      -- what is known of the groups of a chain without a late task always holds
      pub timings_keep : NoneIsLate answers groups → All (λ (group : Group). AlwaysKeeps system group (tight_timing system group)) groups
      timings_keep timely place d h = tight_keeps model valid (get_or groups place d) (groups_at_are model valid chain place d h) (timely place d h)

      -- such a chain has complete chains of each kind in some legal run
      pub timely_complete : NoneIsLate answers groups → HasCompleteChains system groups
      timely_complete timely =
          has_complete_chains system (system_sound model valid) (tight_timing system) groups (groups_at_some model valid chain within) (timings_keep timely)

      -- so its bounds are 1 tick or more
      pub tight_bounds_some : (bounds : Lengths) → chain_answer_at (tight_chain_answers_of model) chain ≡ Bounds bounds → AreSomeTicks bounds
      tight_bounds_some bounds is =
          let (timely, own) = tight_given bounds is in
          subst AreSomeTicks own
          (take_time system (system_sound model valid) (tight_timing system) groups (groups_at_some model valid chain within) (timings_keep timely))

      -- they are safe
      pub tight_bounds_hold : (bounds : Lengths) → chain_answer_at (tight_chain_answers_of model) chain ≡ Bounds bounds → AreSafe system groups bounds
      tight_bounds_hold bounds is =
          let (timely, own) = tight_given bounds is in
          subst (AreSafe system groups) own (kept_safe system (system_sound model valid) (tight_timing system) groups (timings_keep timely))

      -- ---- beside the report

      -- the bounds of the report are those of a settled chain
      reported : (bounds : Lengths) → chain_answer_of model (chain_at model chain) ≡ Bounds bounds → IsSettledChain system groups × (bounds_of system groups ≡ bounds)
      unfolding chain_answer_of
      reported bounds is =
          let (none, own) = bounds_where (first_late (answers_of system) (steps_of model (chain_at model chain))) (bounds_of system groups) bounds is in
          (chain_settled model valid chain none, own)

      -- none of whose tasks is late by phases
      timely_of_settled : IsSettledChain system groups → NoneIsLate answers groups
      timely_of_settled settled place d h =
          let task : ℕ = (get_or groups place d).task in
          ap is_late (settled_answer task (tight_response system task) (tight_group system (system_sound model valid) groups settled place d h).0)

      -- so its tight bounds are no greater than over the timings by the report, and so than the sums over these
      no_greater : IsSettledChain system groups → AreNoGreater own_bounds (bounds_of system groups)
      no_greater settled =
          let sound = system_sound model valid in
          let response_of : ℕ → ℕ = λ task. response_in (answer_at (answers_of system) task) in
          no_greater_through own_bounds (tight_bounds system (settled_timing system) groups) (bounds_of system groups)
          (tight_within_wider system sound (tight_timing system) (settled_timing system) groups of_tasks
          (λ place d h. stays_by_report system sound (get_or groups place d) (of_tasks place d h) (settled.settled place d h)))
          (tight_within_sums system sound (settled_timing system) groups of_tasks
          (λ place d h. response_timing_is system response_of (get_or groups place d))
          (groups_at_some model valid chain within) (bounds_of system groups) (settled_sums system sound groups settled))

      pub tight_where_bounded : (bounds : Lengths) → chain_answer_at (chain_answers_of model) chain ≡ Bounds bounds
          → (chain_answer_at (tight_chain_answers_of model) chain ≡ Bounds own_bounds) × AreNoGreater own_bounds bounds
      tight_where_bounded bounds is =
          let (settled, own) = reported bounds (sym (answer_of_chain model chain within) ∙ is) in (
            tight_where (timely_of_settled settled),
            subst (AreNoGreater own_bounds) own (no_greater settled),
          )

      module _ (lengths : Witnesses) where
        not_timed : Exact lengths ≡ NotTimed → ⊥
        not_timed is = cc

        not_late : Exact lengths ≡ ChainLate → ⊥
        not_late is = cc

        -- where the report has exact lengths, these are tight bounds
        timely_exact : (timed : Bool) → is_timed_periodic_chain model chain ≡ timed → IsTimelyAnswer model chain timed (Exact lengths) → AreLengthsOf own_bounds lengths
        timely_exact false is exact = absurd (not_timed exact)
        timely_exact true is exact = phased_of_chain model valid chain within is exact.0 lengths exact.1

        exact_of : (own : ChainAnswer) → chain_answer_of model (chain_at model chain) ≡ own → IsExactAnswer model chain own (Exact lengths)
            → (chain_answer_at (tight_chain_answers_of model) chain ≡ Bounds own_bounds) × AreLengthsOf own_bounds lengths
        exact_of (Late task) is exact = absurd (not_late exact)
        exact_of (Bounds bounds) is exact = (
          tight_where (timely_of_settled (reported bounds is).0),
          timely_exact (is_timed_periodic_chain model chain) refl exact,
        )

        pub tight_where_exact : (exacts : List ExactAnswer) → AreExactAnswers model exacts → exact_answer_at exacts chain ≡ Exact lengths
            → (chain_answer_at (tight_chain_answers_of model) chain ≡ Bounds own_bounds) × AreLengthsOf own_bounds lengths
        tight_where_exact exacts are is =
            exact_of (chain_answer_of model (chain_at model chain)) refl
            (subst (IsExactAnswer model chain (chain_answer_of model (chain_at model chain))) is (are.each chain within))
