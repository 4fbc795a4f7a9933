-- What is newly broken in a grown model that a trial has: what growing times don't touch never is.
use Rattle.std.proofs.Common.{◌≡◌, ℕ, ◌<◌, Bool, true, false, not, List, length, get_or, refl, sym, ap, ◌∙◌, subst, arith}
use Rattle.std.specs.Prelude.{nat_lt, nat_le}
use Rattle.std.proofs.lemmas.Bool.{true≢false, MatchBool-at_true}
use Rattle.std.proofs.lemmas.Bool.Decides.{nat_tests}
use Rattle.std.proofs.lemmas.List.{get_or_default}
use Rattle.cl_model.specs.{declared.{chain.RequirementDef.RequirementDef, model.SystemModel.SystemModel}, Ranges.IsInRange, Validity.IsValid, ByNumber.{no_requirement, requirement_at}}
use Rattle.cl_runs.specs.{Requirements.required_chain, SystemOf.system_of}
use Rattle.cl_bound.specs.Answers.{answer_at, is_late}
use Rattle.cl_analyse.specs.{declared.findings.ChainAnswer.ChainAnswer, ChainAnswers.chain_answer_at, Verdicts.required_bound}
use Rattle.cl_tight.specs.{TightAnswers.tight_answers_of, TightFindings.{tight_chain_answers_of, tight_findings_of}}
use Rattle.cl_margin.specs.{declared.{trial.Trial.Trial, whose.Whose.Whose}, Grown.{grown_by, grown}, Margins.{is_met_task, is_met_requirement, IsFirstLost}, Inner.{Searches.{KeepsTask, IsNewlyBroken}, Touched.{touches, touches_chain}, Trials.IsTrialAt}}
use Rattle.cl_margin.proofs.{GrownSystem.chains_grown, GrownValid.count_grown, MetByBounds.{is_within, task_met_is, requirement_met_is}, StaysMet.{task_untouched, requirement_untouched}}

-- what isn't met then is broken, where it is met now
pub broken_where : (broken met met_then : Bool) → broken ≡ not met_then → met ≡ true → IsNewlyBroken broken met met_then
broken_where true met true is now = absurd (true≢false is)
broken_where true met false is now = (now, refl)
broken_where false met true is now = λ _. refl
broken_where false met false is now = absurd (true≢false (sym is))

not_twice : (b : Bool) → b ≡ not (not b)
not_twice true = refl
not_twice false = refl

-- so is a task that is late then
pub late_where : (model other : SystemModel) (task : ℕ) (late : Bool) → late ≡ is_late (answer_at (tight_answers_of (system_of other)) task)
    → is_met_task (tight_findings_of model) task ≡ true
    → IsNewlyBroken late (is_met_task (tight_findings_of model) task) (is_met_task (tight_findings_of other) task)
late_where model other task late is = broken_where late (is_met_task (tight_findings_of model) task) (is_met_task (tight_findings_of other) task)
    (is ∙ not_twice (is_late (answer_at (tight_answers_of (system_of other)) task)) ∙ sym (ap not (task_met_is other task)))

-- what isn't met now never is
pub never_broken : (met met_then : Bool) → met ≡ false → IsNewlyBroken false met met_then
never_broken met met_then is now = absurd (true≢false (sym now ∙ is))

-- a bound is over where it isn't within
pub over_where : (bound most : ℕ) → nat_lt most bound ≡ not (nat_le bound most)
over_where bound most = grind (arith, nat_tests)

-- the requirement that is read from the list of them is the one of its number
pub requirement_read : (model : SystemModel) (i : ℕ) → i < length model.requirements → (list : List RequirementDef) → list ≡ model.requirements
    → (requirement : RequirementDef) → requirement ≡ get_or list i requirement → requirement ≡ requirement_at model i
requirement_read model i h list same requirement is =
    is ∙ ap (λ (l : List RequirementDef). get_or l i requirement) same ∙ get_or_default model.requirements i requirement no_requirement h

-- a requirement of the model is met by the bound of its chain that is found of another one
abbrev is_met_by : (model other : SystemModel) → RequirementDef → Bool
is_met_by model other requirement =
    is_within requirement.most (required_bound requirement.kind (chain_answer_at (tight_chain_answers_of other) (required_chain model requirement)))

grown_met_is : (model : SystemModel) (whose : Whose) (percent i : ℕ) → i < length model.requirements
    → is_met_requirement (tight_findings_of (grown model whose percent)) i ≡ is_met_by model (grown model whose percent) (requirement_at model i)
unfolding grown_by
grown_met_is model whose percent i h = requirement_met_is (grown model whose percent) i h

module _ (model : SystemModel) (valid : IsValid model) (whose : Whose) (percent : ℕ) (trial : Trial) (is : IsTrialAt model whose percent trial)
    (in_range : IsInRange trial.model) where
  grown_in_range : IsInRange (grown model whose percent)
  grown_in_range = subst IsInRange is.is in_range

  pub task_kept : (task : ℕ) → task < length model.tasks → touches model whose task ≡ false → KeepsTask model trial.model task
  task_kept task h out =
      subst (λ (m : SystemModel). KeepsTask model m task) (sym is.is) (task_untouched model valid whose percent grown_in_range task h out)

  pub requirement_kept : (i : ℕ) → i < length model.requirements → touches_chain model whose (required_chain model (requirement_at model i)) ≡ false
      → is_met_requirement (tight_findings_of model) i ≡ true → is_met_requirement (tight_findings_of trial.model) i ≡ true
  requirement_kept i h out met = subst (λ (m : SystemModel). is_met_requirement (tight_findings_of m) i ≡ true) (sym is.is)
      (requirement_untouched model valid whose percent grown_in_range i h out met)

  -- the tasks and the chains of that model are as many
  pub task_known : (task : ℕ) → task < length model.tasks → task < length trial.model.tasks
  task_known task h = omega (arith, h, ap (λ (m : SystemModel). length m.tasks) is.is, count_grown model whose percent)

  pub chain_known : (chain : ℕ) → chain < length model.chains → chain < length trial.model.chains
  chain_known chain h = omega (arith, h, ap (λ (m : SystemModel). length m.chains) is.is, ap length (chains_grown model whose percent))

  -- a requirement is met by the answer that is found for its chain
  pub found_within : (i : ℕ) → i < length model.requirements → (requirement : RequirementDef) → requirement ≡ requirement_at model i
      → (chain : ℕ) → chain ≡ required_chain model requirement
      → (answer : ChainAnswer) → answer ≡ chain_answer_at (tight_chain_answers_of trial.model) chain
      → is_met_requirement (tight_findings_of trial.model) i ≡ is_within requirement.most (required_bound requirement.kind answer)
  found_within i h requirement own chain on answer found =
      subst (λ (m : SystemModel). is_met_requirement (tight_findings_of m) i ≡ is_met_by model m (requirement_at model i))
      (sym is.is) (grown_met_is model whose percent i h)
      ∙ ap (is_met_by model trial.model) (sym own)
      ∙ ap (λ (a : ChainAnswer). is_within requirement.most (required_bound requirement.kind a))
      (sym (found ∙ ap (chain_answer_at (tight_chain_answers_of trial.model)) on))

-- ---- the first that is broken

pub first_where : (met met_then : ℕ → Bool) (number : ℕ) → ((earlier : ℕ) → earlier < number → met earlier ≡ true → met_then earlier ≡ true)
    → (broken : Bool) → IsNewlyBroken broken (met number) (met_then number) → broken ≡ true → IsFirstLost met met_then number
first_where met met_then number none broken is there =
    let both : (met number ≡ true) × (met_then number ≡ false) =
    MatchBool-at_true ((met number ≡ true) × (met_then number ≡ false)) (met number ≡ true → met_then number ≡ true) there is in
    record { met = both.0; broken = both.1; first = none }

-- what is found of the model of a trial is so of the model that it is
pub broken_in : (other : SystemModel) (trial : Trial) → trial.model ≡ other → (broken met : Bool) (met_in : SystemModel → Bool)
    → IsNewlyBroken broken met (met_in trial.model) → IsNewlyBroken broken met (met_in other)
broken_in other trial same broken met met_in is = subst (λ (m : SystemModel). IsNewlyBroken broken met (met_in m)) same is
