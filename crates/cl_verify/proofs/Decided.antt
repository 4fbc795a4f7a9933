-- What decisions say of legal runs, and of whether a model is verified.
use Rattle.std.proofs.Common.{◌≡◌, ℕ, zero, suc, ◌<◌, Bool, true, false, not, cond, Some, None, List, [], ◌∷◌, length, get_or, refl, sym, ap, ◌∙◌, subst, arith}
use Rattle.std.specs.List.{count_by}
use Rattle.std.proofs.lemmas.List.Sums.{sum_by-cons}
use Rattle.cl_model.specs.declared.{model.SystemModel.SystemModel, chain.RequirementDef.RequirementDef}
use Rattle.cl_runs.specs.Requirements.{IsBroken, IsBrokenBy}
use Rattle.cl_resp.specs.Response.{Response}
use Rattle.cl_bound.specs.{declared.answer.TaskAnswer.TaskAnswer, Answers.is_late}
use Rattle.cl_bound.specs.declared.answer.TaskAnswer.TheVariants as answer
use Rattle.cl_analyse.specs.{declared.findings.Verdict.Verdict, Verdicts.is_met}
use Rattle.cl_analyse.specs.declared.findings.Verdict.TheVariants as verdict
use Rattle.cl_near.specs.Seen.{MissesDeadline}
use Rattle.cl_verify.specs.{declared.decision.{TaskDecision.TaskDecision, Decision.Decision}, Decisions.{IsDecisionOnLate, IsDecisionOnTask, IsDecisionByRuns, IsDecisionOn}, VerifyText.{is_task_broken, is_task_unshown, is_requirement_broken, is_requirement_unshown}}
use Rattle.cl_verify.specs.declared.decision.TaskDecision.TheVariants as task
use Rattle.cl_verify.specs.declared.decision.Decision.TheVariants as requirement

-- ---- a task

module _ (model : SystemModel) (i : ℕ) where
  -- what is met isn't late, and has its response
  pub met_settled : (found : TaskAnswer) (decision : TaskDecision) (response : ℕ) → IsDecisionOnTask model i found decision → decision ≡ task.Met response
      → (settled : Response) × (found ≡ answer.Settled settled) × (settled.response ≡ response)
  met_settled (answer.Settled settled) decision response is named =
      let same : task.Met settled.response ≡ task.Met response = sym is ∙ named in (settled, refl, cc)
  met_settled answer.Late decision response is named = absurd (subst (IsDecisionOnLate model i) named is)

  -- what is broken misses its deadline
  pub broken_missed : (found : TaskAnswer) (decision : TaskDecision) → IsDecisionOnTask model i found decision → decision ≡ task.Broken → MissesDeadline model i
  broken_missed (answer.Settled settled) decision is named = let same : task.Met settled.response ≡ task.Broken = sym is ∙ named in absurd cc
  broken_missed answer.Late decision is named = subst (IsDecisionOnLate model i) named is

  -- a task that isn't late is neither broken nor unshown, and one that is neither isn't late
  pub timely_passes : (found : TaskAnswer) (decision : TaskDecision) → IsDecisionOnTask model i found decision → not (is_late found) ≡ true
      → (is_task_broken decision ≡ false) × (is_task_unshown decision ≡ false)
  timely_passes (answer.Settled settled) decision is timely = (ap is_task_broken is, ap is_task_unshown is)
  timely_passes answer.Late decision is timely = absurd cc

  pub passing_timely : (found : TaskAnswer) (decision : TaskDecision) → IsDecisionOnTask model i found decision → is_task_broken decision ≡ false
      → is_task_unshown decision ≡ false → not (is_late found) ≡ true
  passing_timely (answer.Settled settled) decision is broken unshown = refl
  passing_timely answer.Late (task.Met response) is broken unshown = absurd is
  passing_timely answer.Late task.Broken is broken unshown = absurd cc
  passing_timely answer.Late (task.Unshown seen) is broken unshown = absurd cc

-- ---- a requirement

module _ (model : SystemModel) (required : RequirementDef) where
  -- what is met is so by its verdict
  pub met_verdict : (found : Verdict) (decision : Decision) (bound : ℕ) → IsDecisionOn model required found decision → decision ≡ requirement.Met bound
      → found ≡ verdict.Met bound
  met_verdict (verdict.Met own) decision bound is named = let same : requirement.Met own ≡ requirement.Met bound = sym is ∙ named in cc
  met_verdict (verdict.Broken own) decision bound is named = let same : requirement.Broken own own ≡ requirement.Met bound = sym is.0 ∙ named in absurd cc
  met_verdict (verdict.Unshown (Some own)) decision bound is named = absurd (subst (IsDecisionByRuns model required own) named is)
  met_verdict (verdict.Unshown None) decision bound is named = let same : requirement.Late is.late ≡ requirement.Met bound = sym is.decided ∙ named in absurd cc

  -- what is broken is so by what was seen
  pub broken_seen : (found : Verdict) (decision : Decision) (bound seen : ℕ) → IsDecisionOn model required found decision → decision ≡ requirement.Broken bound seen
      → IsBrokenBy model required seen
  broken_seen (verdict.Met own) decision bound seen is named = let same : requirement.Met own ≡ requirement.Broken bound seen = sym is ∙ named in absurd cc
  broken_seen (verdict.Broken own) decision bound seen is named =
      let same : requirement.Broken own own ≡ requirement.Broken bound seen = sym is.0 ∙ named in
      let value : own ≡ seen = cc in
      subst (IsBrokenBy model required) value is.1
  broken_seen (verdict.Unshown (Some own)) decision bound seen is named = (subst (IsDecisionByRuns model required own) named is).1
  broken_seen (verdict.Unshown None) decision bound seen is named =
      let same : requirement.Late is.late ≡ requirement.Broken bound seen = sym is.decided ∙ named in absurd cc

  pub is_broken : (seen : ℕ) → IsBrokenBy model required seen → IsBroken model required
  is_broken seen by = record {
    run = by.occurs.run;
    legal = by.occurs.legal;
    chain = by.occurs.jobs;
    complete = by.occurs.complete;
    longer = omega (arith, by.longer, by.occurs.lasts);
  }

  -- a requirement that is met is neither broken nor unshown, and one that is neither is met
  pub met_passes : (found : Verdict) (decision : Decision) → IsDecisionOn model required found decision → is_met found ≡ true
      → (is_requirement_broken decision ≡ false) × (is_requirement_unshown decision ≡ false)
  met_passes (verdict.Met own) decision is met = (ap is_requirement_broken is, ap is_requirement_unshown is)
  met_passes (verdict.Broken own) decision is met = absurd cc
  met_passes (verdict.Unshown value) decision is met = absurd cc

  passing_by_runs : (own : ℕ) (decision : Decision) → IsDecisionByRuns model required own decision → is_requirement_broken decision ≡ false
      → is_requirement_unshown decision ≡ false → ⊥
  passing_by_runs own (requirement.Met bound) is broken unshown = is
  passing_by_runs own (requirement.Broken bound seen) is broken unshown = cc
  passing_by_runs own (requirement.Unshown bound seen) is broken unshown = cc
  passing_by_runs own (requirement.Late late) is broken unshown = is

  pub passing_met : (found : Verdict) (decision : Decision) → IsDecisionOn model required found decision → is_requirement_broken decision ≡ false
      → is_requirement_unshown decision ≡ false → is_met found ≡ true
  passing_met (verdict.Met own) decision is broken unshown = refl
  passing_met (verdict.Broken own) decision is broken unshown =
      let wrong : true ≡ false = sym (ap is_requirement_broken is.0) ∙ broken in absurd cc
  passing_met (verdict.Unshown (Some own)) decision is broken unshown = absurd (passing_by_runs own decision is broken unshown)
  passing_met (verdict.Unshown None) decision is broken unshown =
      let wrong : true ≡ false = sym (ap is_requirement_unshown is.decided) ∙ unshown in absurd cc

-- ---- counts

-- what a test adds to a count
abbrev once : Bool → ℕ
once test = cond test 1 0

fails_at_none : (test : Bool) → once test ≡ 0 → test ≡ false
fails_at_none true is = absurd (omega (arith, is))
fails_at_none false is = refl

-- nothing is counted where nothing passes, and nothing passes where nothing is counted
module _ {X : Type 0} (test : X → Bool) (d : X) where
  pub none_counted : (xs : List X) → ((k : ℕ) → k < length xs → test (get_or xs k d) ≡ false) → count_by test xs ≡ 0
  none_counted [] none = refl
  none_counted (x ∷ xs) none =
      let first = none zero (omega arith) in
      let rest = none_counted xs (λ k h. none (suc k) (omega (arith, h))) in
      omega (arith, sum_by-cons (λ y. once (test y)) x xs, ap once first, rest)

  pub counted_none : (xs : List X) → count_by test xs ≡ 0 → (k : ℕ) → k < length xs → test (get_or xs k d) ≡ false
  counted_none [] is k h = absurd (omega (arith, h))
  counted_none (x ∷ xs) is zero h = fails_at_none (test x) (omega (arith, sum_by-cons (λ y. once (test y)) x xs, is))
  counted_none (x ∷ xs) is (suc k) h = counted_none xs (omega (arith, sum_by-cons (λ y. once (test y)) x xs, is)) k (omega (arith, h))
