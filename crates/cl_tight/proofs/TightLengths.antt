-- How many answers tight findings have, and which late tasks they name.
use Rattle.std.proofs.Common.{◌≡◌, ℕ, ◌<◌, Some, None, Option, List, length, refl, sym, ap, ◌∙◌, subst}
use Rattle.std.specs.Prelude.{All, find}
use Rattle.std.specs.Option.{option_map}
use Rattle.std.proofs.Math.ListN.{length-map}
use Rattle.std.proofs.lemmas.List.{get_or-map}
use Rattle.std.proofs.lemmas.List.Elements.{All-map}
use Rattle.cl_model.specs.{declared.{model.SystemModel.SystemModel, group.Step.Step}, ByNumber.{no_chain, chain_at}, Groups.{step_named, steps_of, no_step, groups_of}, Validity.IsValid}
use Rattle.cl_model.proofs.{StepFacts.step_is_known, NamesKnown.steps_known}
use Rattle.cl_runs.specs.SystemOf.{system_of}
use Rattle.cl_runs.proofs.FirstFound.{first_found}
use Rattle.cl_bound.specs.{declared.answer.TaskAnswer.TaskAnswer, Answers.{answer_at, is_late}}
use Rattle.cl_tight.specs.{TightAnswers.tight_answers_of, TightTimings.tight_timing, declared.findings.TightFindings.TightFindings, TightFindings.{tight_chain_answer_of, tight_chain_answers_of, tight_verdict_of, tight_findings_of}}
use Rattle.cl_phase.specs.TightBounds.{tight_bounds}
use Rattle.cl_tight.proofs.TightTimings.{answer_count}
use Rattle.cl_analyse.specs.{declared.findings.ChainAnswer.{ChainAnswer, TheVariants.Late}, ChainAnswers.{first_late, chain_answer_at}}
use Rattle.cl_analyse.proofs.SafeFindings.{late_where}

-- ---- one answer for each

pub tight_tasks_found : (model : SystemModel) (findings : TightFindings) → findings ≡ tight_findings_of model → length findings.tasks ≡ length model.tasks
unfolding tight_findings_of
tight_tasks_found model findings is = ap (λ (f : TightFindings). length f.tasks) is ∙ answer_count model (tight_answers_of (system_of model)) refl

pub tight_chains_found : (model : SystemModel) (findings : TightFindings) → findings ≡ tight_findings_of model → findings.chains ≡ tight_chain_answers_of model
unfolding tight_findings_of
tight_chains_found model findings is = ap (λ (f : TightFindings). f.chains) is

pub tight_chains_within : (model : SystemModel) (answers : List ChainAnswer) (i : ℕ) → answers ≡ tight_chain_answers_of model → i < length model.chains → i < length answers
tight_chains_within model answers i is within = rw (ap (λ (all : List ChainAnswer). length all) is ∙ length-map model.chains (tight_chain_answer_of model)) within

pub tight_verdicts_found : (model : SystemModel) (findings : TightFindings) → findings ≡ tight_findings_of model → length findings.verdicts ≡ length model.requirements
unfolding tight_findings_of
tight_verdicts_found model findings is =
    ap (λ (f : TightFindings). length f.verdicts) is ∙ length-map model.requirements (tight_verdict_of model (tight_chain_answers_of model))

-- ---- the late tasks that are named

some_mapped : {X : Type 0} (f : X → ℕ) (found : Option X) (n : ℕ) → option_map f found ≡ Some n → (x : X) × (found ≡ Some x) × (f x ≡ n)
some_mapped f None n is = absurd (cc)
some_mapped f (Some x) n is = (x, refl, cc)

-- the first late step of a list of steps in tasks stands in one of them
late_step_known : (model : SystemModel) (answers : List TaskAnswer) (steps : List Step) (late : ℕ)
    → All (λ (step : Step). step.task < length model.tasks) steps → first_late answers steps ≡ Some late → late < length model.tasks
late_step_known model answers steps late each is =
    let (step, found, same) = some_mapped (λ (step : Step). step.task) (find (λ (step : Step). is_late (answer_at answers step.task)) steps) late is in
    let first = first_found (λ (step : Step). is_late (answer_at answers step.task)) steps step found in
    let here : step.task < length model.tasks
    = subst (λ (s : Step). s.task < length model.tasks) (first.is no_step) (each first.place no_step first.within) in
    subst (λ (n : ℕ). n < length model.tasks) same here

-- a late task that the answer for a chain of a valid model names is a task of the model
pub tight_late_known : (model : SystemModel) (answers : List ChainAnswer) → IsValid model → answers ≡ tight_chain_answers_of model → (chain late : ℕ) → chain < length model.chains
    → chain_answer_at answers chain ≡ Late late → late < length model.tasks
unfolding tight_chain_answer_of
tight_late_known model answers valid is chain late within named =
    let system = system_of model in
    let of_chain = get_or-map (tight_chain_answer_of model) model.chains chain no_chain (Late 0) within in
    let first = late_where (first_late (tight_answers_of system) (steps_of model (chain_at model chain)))
    (tight_bounds system (tight_timing system) (groups_of model (chain_at model chain))) late
    (sym of_chain ∙ ap (λ (all : List ChainAnswer). chain_answer_at all chain) (sym is) ∙ named) in
    late_step_known model (tight_answers_of system) (steps_of model (chain_at model chain)) late
    (All-map (λ (step : Step). step.task < length model.tasks) (step_named model) (chain_at model chain).runnables
    (λ k d k_within. (step_is_known model _ (steps_known model valid chain no_chain within k d k_within)).0))
    first
