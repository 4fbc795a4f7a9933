-- The lists of tight answers and verdicts, one after the other, and what each of them is.
use Rattle.std.proofs.Common.{◌≡◌, ℕ, ◌+◌, ◌<◌, Bool, true, false, Option, Some, None, List, [], ◌∷◌, ◌++◌, length, get_or, take, map, sym, ap, ◌∙◌, arith}
use Rattle.std.proofs.lemmas.List.{take_more, get_or-map}
use Rattle.std.specs.List.{range_with_len}
use Rattle.std.proofs.lemmas.List.FromFn.{map-range_with_len_more}
use Rattle.std.proofs.Math.ListN.{length-map}
use Rattle.cl_model.specs.{declared.{model.SystemModel.SystemModel, chain.{ChainDef.ChainDef, RequirementDef.RequirementDef}}, ByNumber.{no_chain, no_requirement, requirement_at}, Groups.{steps_of, groups_of}, Named.chain_names, Validity.{IsValid, requirement_check}}
use Rattle.cl_model.proofs.{NamePlaces.place_within, PassedChecks.requirements_pass, Refused.{each_none, unless_none}}
use Rattle.cl_runs.specs.{SystemOf.system_of, Requirements.required_chain}
use Rattle.cl_runs.proofs.ModelSystem.{count_is}
use Rattle.cl_hop.specs.Bounds.{Lengths}
use Rattle.cl_bound.specs.{declared.answer.TaskAnswer.TaskAnswer, Answers.answer_at}
use Rattle.cl_phase.specs.TightBounds.{tight_bounds}
use Rattle.cl_analyse.specs.{declared.findings.{ChainAnswer.{ChainAnswer, TheVariants.{Bounds, Late}}, Verdict.Verdict}, ChainAnswers.{first_late, chain_answer, chain_answer_at}, Verdicts.{required_bound, verdict_on}}
use Rattle.cl_tight.specs.{TightAnswers.{tight_answer_to, tight_answers_of}, TightTimings.tight_timing, declared.findings.TightFindings.TightFindings, TightFindings.{tight_chain_answer_of, tight_chain_answers_of, has_exact_bounds, exact_bound, tight_verdict_of, tight_findings_of}}
use Rattle.cl_tight.proofs.TightTasks.{phased_answer}

-- one more of a mapped list
more_mapped : {X Y : Type 0} (f : X → Y) (xs : List X) (n : ℕ) (d : X) (old new : List Y) (next : Y) → n < length xs → old ≡ take n (map f xs)
    → next ≡ f (get_or xs n d) → new ≡ old ++ next ∷ [] → new ≡ take (n + 1) (map f xs)
more_mapped f xs n d old new next lt was is pushed =
    let within : n < length (map f xs) = rw (length-map xs f) lt in
    pushed ∙ ap (λ l. l ++ next ∷ []) was ∙ ap (λ y. take n (map f xs) ++ y ∷ []) (is ∙ sym (get_or-map f xs n d next lt)) ∙ sym (take_more (map f xs) n next within)

-- ---- tasks

-- the answers for the tasks below a number
abbrev pub answers_below : SystemModel → (tasks : ℕ) → List TaskAnswer
answers_below model tasks = map (tight_answer_to (system_of model)) (range_with_len 0 tasks)

pub one_more_answer : (model : SystemModel) (task : ℕ) (old new : List TaskAnswer) (next : TaskAnswer) → task < length model.tasks
    → old ≡ answers_below model task → next ≡ answer_at (tight_answers_of (system_of model)) task
    → new ≡ old ++ next ∷ [] → new ≡ answers_below model (task + 1)
one_more_answer model task old new next within was is more =
    let last : 0 + task ≡ task = omega arith in
    let own = is ∙ phased_answer (system_of model) task (omega (arith, within, count_is model)) in
    more ∙ ap (λ (list : List TaskAnswer). list ++ next ∷ []) was ∙ ap (λ (a : TaskAnswer). answers_below model task ++ a ∷ []) own
    ∙ sym (map-range_with_len_more (tight_answer_to (system_of model)) 0 task task last)

pub all_answers : (model : SystemModel) (tasks : ℕ) → tasks ≡ length model.tasks → answers_below model tasks ≡ tight_answers_of (system_of model)
unfolding tight_answers_of
all_answers model tasks all = ap (answers_below model) (all ∙ sym (count_is model))

-- ---- chains

pub more_chains : (model : SystemModel) (n : ℕ) (old new : List ChainAnswer) (next : ChainAnswer) → n < length model.chains
    → old ≡ take n (tight_chain_answers_of model) → next ≡ tight_chain_answer_of model (get_or model.chains n no_chain)
    → new ≡ old ++ next ∷ [] → new ≡ take (n + 1) (tight_chain_answers_of model)
more_chains model n = more_mapped (tight_chain_answer_of model) model.chains n no_chain

-- the answer for a chain, from its first late task or from its bounds
module _ (model : SystemModel) (answers : List TaskAnswer) (chain : ChainDef) (are : answers ≡ tight_answers_of (system_of model)) where
  abbrev own_bounds : Lengths
  own_bounds = tight_bounds (system_of model) (tight_timing (system_of model)) (groups_of model chain)

  answer_with : (first : Option ℕ) → first_late answers (steps_of model chain) ≡ first → chain_answer first own_bounds ≡ tight_chain_answer_of model chain
  unfolding tight_chain_answer_of
  answer_with first is =
      ap (λ (o : Option ℕ). chain_answer o own_bounds) (sym is) ∙ ap (λ (list : List TaskAnswer). chain_answer (first_late list (steps_of model chain)) own_bounds) are

  pub late_answer : (task : ℕ) → first_late answers (steps_of model chain) ≡ Some task → Late task ≡ tight_chain_answer_of model chain
  late_answer task is = answer_with (Some task) is

  pub bounds_answer : (bounds : Lengths) → first_late answers (steps_of model chain) ≡ None → bounds ≡ own_bounds → Bounds bounds ≡ tight_chain_answer_of model chain
  bounds_answer bounds is own = ap (λ (b : Lengths). Bounds b) own ∙ answer_with None is

-- ---- verdicts

pub more_verdicts : (model : SystemModel) (chains : List ChainAnswer) (n : ℕ) (old new : List Verdict) (next : Verdict) → n < length model.requirements
    → old ≡ take n (map (tight_verdict_of model chains) model.requirements) → next ≡ tight_verdict_of model chains (requirement_at model n)
    → new ≡ old ++ next ∷ [] → new ≡ take (n + 1) (map (tight_verdict_of model chains) model.requirements)
more_verdicts model chains n = more_mapped (tight_verdict_of model chains) model.requirements n no_requirement

-- a requirement names a chain of the model
pub required_known : (model : SystemModel) → IsValid model → (i : ℕ) (d : RequirementDef) → i < length model.requirements
    → required_chain model (get_or model.requirements i d) < length model.chains
required_known model valid i d within =
    let known = unless_none _ _ _ (each_none (requirement_check model) model.requirements i d (requirements_pass model valid) within) in
    let place = place_within (get_or model.requirements i d).chain (chain_names model) known in
    omega (arith, place, length-map model.chains (λ (chain : ChainDef). chain.name))

-- the verdict on a requirement, from the bound of its chain
module _ (model : SystemModel) (chains : List ChainAnswer) (requirement : RequirementDef) (chain : ℕ) (bound : Option ℕ)
    (same : chain ≡ required_chain model requirement) (is : bound ≡ required_bound requirement.kind (chain_answer_at chains chain)) where
  judged : (exact : Option ℕ) → exact ≡ exact_bound (has_exact_bounds model chain) bound → verdict_on requirement.most exact bound ≡ tight_verdict_of model chains requirement
  unfolding tight_verdict_of
  judged exact is_exact =
      ap (λ (o : Option ℕ). verdict_on requirement.most o bound) is_exact
      ∙ ap (λ (o : Option ℕ). verdict_on requirement.most (exact_bound (has_exact_bounds model chain) o) o) is
      ∙ ap (λ (n : ℕ). verdict_on requirement.most (exact_bound (has_exact_bounds model n) (required_bound requirement.kind (chain_answer_at chains n)))
      (required_bound requirement.kind (chain_answer_at chains n))) same

  -- where it is exact, and where it may not be
  pub judged_exact : (exact : Option ℕ) → exact ≡ bound → has_exact_bounds model chain ≡ true → verdict_on requirement.most exact bound ≡ tight_verdict_of model chains requirement
  judged_exact exact own rule = judged exact (own ∙ ap (λ (b : Bool). exact_bound b bound) (sym rule))

  pub judged_bound : (exact : Option ℕ) → exact ≡ None → has_exact_bounds model chain ≡ false → verdict_on requirement.most exact bound ≡ tight_verdict_of model chains requirement
  judged_bound exact none rule = judged exact (none ∙ ap (λ (b : Bool). exact_bound b bound) (sym rule))

-- ---- all findings

same_findings : (one other : TightFindings) → one.tasks ≡ other.tasks → one.chains ≡ other.chains → one.verdicts ≡ other.verdicts → one ≡ other
same_findings one other tasks chains verdicts = λ i. record { tasks = tasks i; chains = chains i; verdicts = verdicts i }

pub findings_are : (model : SystemModel) (findings : TightFindings) → findings.tasks ≡ tight_answers_of (system_of model)
    → findings.chains ≡ tight_chain_answers_of model → findings.verdicts ≡ map (tight_verdict_of model findings.chains) model.requirements
    → findings ≡ tight_findings_of model
unfolding tight_findings_of
findings_are model findings tasks chains verdicts =
    same_findings findings (tight_findings_of model) tasks chains
    (verdicts ∙ ap (λ (list : List ChainAnswer). map (tight_verdict_of model list) model.requirements) chains)
