-- What a few checks answer is what all checks of the changed model answer.
use Rattle.std.proofs.Common.{◌≡◌, ℕ, Bool, List, [], sym, ◌∙◌, subst}
use Rattle.std.specs.Prelude.{Result, Ok, Err}
use Rattle.cl_model.specs.{declared.{group.Step.Step, model.SystemModel.SystemModel, model_fault.ModelFault.ModelFault, refusal.Refusal.Refusal, task.AccessKind.AccessKind}, Answers.{Answers, Passes}, Validity.{IsValid, refusals_of}}
use Rattle.cl_edit.specs.{declared.change.Change.Change, Changing.{with_change, IsChangeOf}}
use Rattle.cl_edit.specs.declared.change.Change.TheVariants as changes
use Rattle.cl_edit.proofs.{RequirementLaws.requirement_dropped, TaskSetters.{access_needs_none, whole_needs_none}}

-- the few checks are those of the changed model
pub passes_as : (result : Result (Unit {0}) ModelFault) (few refusals : List Refusal) → refusals ≡ few → Answers result few tt → Passes result refusals
passes_as (Ok value) few refusals same h = same ∙ h.0
passes_as (Err fault) few refusals same h = rw same h

-- ---- changes that can break nothing

module _ (model : SystemModel) (valid : IsValid model) (change : Change) (known : IsChangeOf model change) where
  pub whole_passes : (step : Step) (whole : Bool) → change ≡ changes.Whole step whole → refusals_of (with_change model change) ≡ []
  whole_passes step whole is =
      subst (λ (c : Change). IsChangeOf model c → refusals_of (with_change model c) ≡ []) (sym is) (λ at. whole_needs_none model valid step at whole) known

  pub access_passes : (task : ℕ) (access : AccessKind) → change ≡ changes.Access task access → refusals_of (with_change model change) ≡ []
  access_passes task access is =
      subst (λ (c : Change). IsChangeOf model c → refusals_of (with_change model c) ≡ []) (sym is) (λ at. access_needs_none model valid task at access) known

  pub dropped_passes : (r : ℕ) → change ≡ changes.DropRequirement r → refusals_of (with_change model change) ≡ []
  dropped_passes r is = subst (λ (c : Change). refusals_of (with_change model c) ≡ []) (sym is) (requirement_dropped model valid r)

  pub nothing_passes : change ≡ changes.Nothing → refusals_of (with_change model change) ≡ []
  nothing_passes is = subst (λ (c : Change). refusals_of (with_change model c) ≡ []) (sym is) valid.accepted
