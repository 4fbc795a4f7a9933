-- Chains none of whose tasks is late, by what is found of them.
use Rattle.std.proofs.Common.{◌≡◌, ℕ, ◌<◌, Option, Some, None, List, length, refl, sym, subst, ap, ◌∙◌}
use Rattle.cl_model.specs.{declared.model.SystemModel.SystemModel, ByNumber.chain_at, Groups.{steps_of, groups_at}, Validity.IsValid}
use Rattle.cl_runs.specs.SystemOf.{system_of}
use Rattle.cl_hop.specs.Bounds.{Lengths}
use Rattle.cl_bound.specs.{declared.answer.TaskAnswer.TaskAnswer, Answers.{answers_of, NoneIsLate}}
use Rattle.cl_phase.specs.TightBounds.{tight_bounds}
use Rattle.cl_analyse.specs.{declared.findings.ChainAnswer.{ChainAnswer, TheVariants.{Bounds, Late}}, ChainAnswers.{first_late, chain_answer, chain_answer_of}}
use Rattle.cl_analyse.proofs.{FirstLate.settled_groups, SafeFindings.{answer_of_chain, named_task_within}}
use Rattle.cl_tight.specs.{TightAnswers.tight_answers_of, TightTimings.tight_timing, TightFindings.tight_chain_answer_of}

none_where : (first : Option ℕ) (own bounds : Lengths) → chain_answer first own ≡ Bounds bounds → first ≡ None
none_where None own bounds is = refl
none_where (Some task) own bounds is = absurd (cc)

-- a chain that has bounds
pub timely_chain : (model : SystemModel) (chain : ℕ) (bounds : Lengths) → chain_answer_of model (chain_at model chain) ≡ Bounds bounds
    → (answers : List TaskAnswer) → answers ≡ answers_of (system_of model) → NoneIsLate answers (groups_at model chain)
unfolding chain_answer_of
timely_chain model chain bounds is answers are =
    subst (λ (all : List TaskAnswer). NoneIsLate all (groups_at model chain)) (sym are)
    (settled_groups (answers_of (system_of model)) model (chain_at model chain) (none_where _ _ bounds is))

-- one of whose tasks the first late one isn't found
pub none_found_late : (model : SystemModel) (chain : ℕ) (answers : List TaskAnswer) → first_late answers (steps_of model (chain_at model chain)) ≡ None
    → NoneIsLate answers (groups_at model chain)
none_found_late model chain answers none = settled_groups answers model (chain_at model chain) none

-- the tight answer for a chain, by the first late task
pub tight_where_none : (model : SystemModel) (chain : ℕ) (answers : List TaskAnswer) → answers ≡ tight_answers_of (system_of model)
    → first_late answers (steps_of model (chain_at model chain)) ≡ None
    → Bounds (tight_bounds (system_of model) (tight_timing (system_of model)) (groups_at model chain)) ≡ tight_chain_answer_of model (chain_at model chain)
unfolding tight_chain_answer_of
tight_where_none model chain answers are none =
    let own = tight_bounds (system_of model) (tight_timing (system_of model)) (groups_at model chain) in
    sym (ap (λ (o : Option ℕ). chain_answer o own) (ap (λ (all : List TaskAnswer). first_late all (steps_of model (chain_at model chain))) (sym are) ∙ none))

pub tight_where_late : (model : SystemModel) (chain task : ℕ) (answers : List TaskAnswer) → answers ≡ tight_answers_of (system_of model)
    → first_late answers (steps_of model (chain_at model chain)) ≡ Some task
    → Late task ≡ tight_chain_answer_of model (chain_at model chain)
unfolding tight_chain_answer_of
tight_where_late model chain task answers are late =
    let own = tight_bounds (system_of model) (tight_timing (system_of model)) (groups_at model chain) in
    sym (ap (λ (o : Option ℕ). chain_answer o own) (ap (λ (all : List TaskAnswer). first_late all (steps_of model (chain_at model chain))) (sym are) ∙ late))

-- a late task that a chain names is a task of the model
pub late_known : (model : SystemModel) → IsValid model → (chain : ℕ) → chain < length model.chains → (answer : ChainAnswer)
    → answer ≡ chain_answer_of model (chain_at model chain) → (late : ℕ) → answer ≡ Late late → late < length model.tasks
late_known model valid chain h answer is late named = named_task_within model valid chain late h (answer_of_chain model chain h ∙ sym is ∙ named)
