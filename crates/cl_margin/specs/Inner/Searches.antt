-- How a margin is searched for.
use Rattle.std.specs.Prelude.{◌≡◌, ℕ, ◌<◌, ◌≤◌, Bool, true, false, not, List, length, MatchBool}
use Rattle.cl_model.specs.{declared.model.SystemModel.SystemModel, Ranges.IsInRange, ByNumber.requirement_at}
use Rattle.cl_runs.specs.{Requirements.required_chain, SystemOf.system_of}
use Rattle.cl_bound.specs.Answers.{answer_at, is_late}
use Rattle.cl_analyse.specs.{declared.findings.ChainAnswer.{ChainAnswer, TheVariants.{Bounds, Late}}, ChainAnswers.chain_answer_at}
use Rattle.cl_tight.specs.{TightAnswers.tight_answers_of, TightFindings.{tight_chain_answers_of, tight_findings_of}}
use Rattle.cl_scale.specs.declared.percent.TheConstants.{MOST_PERCENT}
use Rattle.cl_margin.specs.{declared.{allowed.Allowed.Allowed, searching.{Item.{Item, TheVariants.{Task, Chain}}, Search.Search}, whose.Whose.Whose}, Grown.grown, Margins.{is_met_task, is_met_requirement, KeepsMet}, Inner.Allowing.{any_allowed, most_bounds, allows, allows_answer}}
use Rattle.cl_margin.specs.Inner.{Allowing.allowed_at, Trials.IsTrialAt}

-- something is asked of a task or of a chain of the model
abbrev pub IsItemOf : SystemModel → Item → Type 0
IsItemOf model (Task task) = task < length model.tasks
IsItemOf model (Chain chain allowed) = chain < length model.chains

-- whether something holds of a model
abbrev pub holds : Item → SystemModel → Bool
holds (Task task) model = not (is_late (answer_at (tight_answers_of (system_of model)) task))
holds (Chain chain allowed) model = allows_answer allowed (chain_answer_at (tight_chain_answers_of model) chain)

-- the bounds in an answer for a chain fit
abbrev pub FitsAnswer : ChainAnswer → Type 0
FitsAnswer (Bounds bounds) = allows any_allowed bounds ≡ true
FitsAnswer (Late task) = Unit {0}

-- so do those that something is asked of
abbrev pub FitsItem : Item → SystemModel → Type 0
FitsItem (Task task) model = Unit {0}
FitsItem (Chain chain allowed) model = FitsAnswer (chain_answer_at (tight_chain_answers_of model) chain)

-- it stands for what is met as the model stands: a task that isn't late, or what is allowed of a chain, where not all is
abbrev pub IsMetItem : SystemModel → List Allowed → Item → Type 0
IsMetItem model most (Task task) = is_met_task (tight_findings_of model) task ≡ true
IsMetItem model most (Chain chain allowed) = (allowed ≡ allowed_at most chain) × (allows allowed most_bounds ≡ true → ⊥)

-- something is met in the one model and isn't in the other, or that isn't so
abbrev pub IsNewlyBroken : Bool → (met met_then : Bool) → Type 0
IsNewlyBroken broken met met_then = MatchBool broken ((met ≡ true) × (met_then ≡ false)) (met ≡ true → met_then ≡ true)

-- a task that is met in a model is met in another
abbrev pub KeepsTask : (model other : SystemModel) → (task : ℕ) → Type 0
KeepsTask model other task = is_met_task (tight_findings_of model) task ≡ true → is_met_task (tight_findings_of other) task ≡ true

-- each requirement on a chain that is met in a model is met in another
abbrev pub KeepsChain : (model other : SystemModel) → (chain : ℕ) → Type 0
KeepsChain model other chain = (i : ℕ) → i < length model.requirements → required_chain model (requirement_at model i) ≡ chain
    → is_met_requirement (tight_findings_of model) i ≡ true → is_met_requirement (tight_findings_of other) i ≡ true

-- what something stands for is met in another model where it is in a model
abbrev pub KeepsItem : (model other : SystemModel) → Item → Type 0
KeepsItem model other (Task task) = KeepsTask model other task
KeepsItem model other (Chain chain allowed) = KeepsChain model other chain

-- A search has come to a percentage: the times are in range there, and no greater one keeps what is met.
pub record IsMarginSearch (model : SystemModel) (whose : Whose) (search : Search) : Type 0 where
  pub some : 100 ≤ search.percent
  pub few : search.percent ≤ MOST_PERCENT
  pub in_range : IsInRange (grown model whose search.percent)
  pub trial : IsTrialAt model whose search.percent search.trial
  pub greatest : (other : ℕ) → search.percent < other → other ≤ MOST_PERCENT → KeepsMet model (grown model whose other) → ⊥
