-- `why`: why what is asked of is answered or bounded.
use Rattle.std.proofs.Common.{◌≡◌, ℕ, ◌<◌, inl, inr, List, length, Option, Some, None, refl, ap, arith}
use Rattle.std.proofs.Math.ListN.{length-map}
use Rattle.cl_model.specs.{declared.{chain.{ChainDef.ChainDef, RequirementDef.RequirementDef}, model.SystemModel.SystemModel, task.TaskDef.TaskDef}, Named.index_of, Validity.IsValid}
use Rattle.cl_model.proofs.NamePlaces.{found_below}
use Rattle.cl_why.proofs.{SafeWalks.last_as_bounds, WindowShares.shares_add_up, SomeReasons.{some_why_task, some_why_chain, some_why_requirement}}
use Rattle.cl_engine.specs.declared.files.Files.TheVariants as files
use Rattle.cl_engine.specs.{declared.{outcome.Outcome.Outcome, status.TheConstants.DONE}, Language.IsOfContent}
use Rattle.cl_engine.proofs.Outcomes.{SomeOutcome}
use Rattle.cl_top.specs.{declared.subject.What.{What, TheVariants.{Response, Bound, Requirement}}, Subject.names_asked, Commands.{Why.{IsWhyOf, IsWhyBy, IsReasoned, IsSafeWhy, reasoning}, Witness.name_unknown}, Meaning.{at_most, task_steps, promises, of_one_model}}
use Rattle.cl_top.proofs.Meanings.{IsMeantWell, done_some, model_well}

module _ (model : SystemModel) (valid : IsValid model) where
  -- each name of a model has a text of it
  some_why : (what : What) (number : ℕ) → number < length (names_asked what model) → (text : List ℕ) × IsWhyOf what model number text
  some_why Response number within =
      some_why_task model valid number (omega (arith, within, length-map model.tasks (λ (task : TaskDef). task.name)))
  some_why (Bound kind) number within =
      some_why_chain model valid number kind (omega (arith, within, length-map model.chains (λ (chain : ChainDef). chain.name)))
  some_why Requirement number within =
      some_why_requirement model valid number (omega (arith, within, length-map model.requirements (λ (requirement : RequirementDef). requirement.name)))

module _ (what : What) (name : List ℕ) (model : SystemModel) where
  reasoned_some : IsValid model → (number : Option ℕ) → index_of name (names_asked what model) ≡ number → SomeOutcome (IsWhyBy what name model number)
  reasoned_some valid (Some number) named =
      let text = some_why model valid what number (found_below name (names_asked what model) number named) in
      done_some (IsWhyOf what model number) text.0 text.1
  reasoned_some valid None named = (name_unknown what name, refl)

  reasoned_content : (number : Option ℕ) (found : Outcome) → IsWhyBy what name model number found → IsOfContent found.status
  reasoned_content (Some number) found is = inl is.status_is
  reasoned_content None found is = let fifteen : found.status ≡ 15 = ap (λ (o : Outcome). o.status) is in inr (inr (omega arith))

  reasoned_holds : IsValid model → (number : Option ℕ) → index_of name (names_asked what model) ≡ number
      → (found : Outcome) → IsWhyBy what name model number found → found.status ≡ DONE → IsSafeWhy what name model found.text
  reasoned_holds valid (Some number) named found is done = record {
    number = number;
    named = named;
    is_why = is.text_is;
    safe = record { shares = shares_add_up model valid; walks = last_as_bounds model valid };
  }
  reasoned_holds valid None named found is done =
      let fifteen : found.status ≡ 15 = ap (λ (o : Outcome). o.status) is in absurd (omega (arith, done))

pub reasoning_well : (what : What) (name : List ℕ) (limited : Type 0) → IsMeantWell files.Model (reasoning what name) limited
reasoning_well what name limited = model_well (at_most task_steps) (promises (IsSafeWhy what name)) (of_one_model (IsReasoned what name)) limited (λ one other is. inl is)
    (IsReasoned what name)
    (λ model valid named few. reasoned_some what name model valid (index_of name (names_asked what model)) refl)
    (λ model valid one other h k. inr (model, h, k))
    (λ model found is. reasoned_content what name model (index_of name (names_asked what model)) found is)
    (λ model steps. omega arith)
    (λ model valid found is done. reasoned_holds what name model valid (index_of name (names_asked what model)) refl found is done)
