-- The lists of answers, one answer after the other.
use Rattle.std.proofs.Common.{◌≡◌, ℕ, ◌+◌, ◌<◌, List, [], ◌∷◌, ◌++◌, length, get_or, take, map, refl, sym, ap, subst, ◌∙◌, arith, below_more, length-append, inl, inr}
use Rattle.std.proofs.lemmas.List.{take_more, get_or-map, get_or_append_left, get_or_past}
use Rattle.std.proofs.lemmas.Option.{none-some, slice_get_cases}
use Rattle.std.proofs.Math.Seq.{get_or-append_seam}
use Rattle.std.proofs.Math.ListN.{length-map}
use Rattle.std.specs.Prelude.{Option, Some, None, slice_get}
use Rattle.cl_model.specs.{declared.{model.SystemModel.SystemModel, chain.ChainDef.ChainDef}, Groups.{steps_of, groups_of}, ByNumber.{no_chain, no_requirement}}
use Rattle.cl_runs.specs.SystemOf.{system_of}
use Rattle.cl_hop.specs.Bounds.{Lengths}
use Rattle.cl_bound.specs.{declared.answer.TaskAnswer.TaskAnswer, Answers.answers_of, Bounds.bounds_of}
use Rattle.cl_analyse.specs.{declared.findings.{ChainAnswer.{ChainAnswer, TheVariants.{Bounds, Late}}, ExactAnswer.{ExactAnswer, TheVariants.ChainLate}, Verdict.Verdict}, ChainAnswers.{first_late, chain_answer, chain_answer_of, chain_answers_of, exact_answer_at, IsExactAnswer}}
use Rattle.cl_analyse.specs.{ChainAnswers.AreExactAnswers, Verdicts.{verdict_of, verdicts_of}}

-- one more of a mapped list
more_mapped : {X Y : Type 0} (f : X → Y) (xs : List X) (n : ℕ) (d : X) (old new : List Y) (next : Y) → n < length xs → old ≡ take n (map f xs)
    → next ≡ f (get_or xs n d) → new ≡ old ++ next ∷ [] → new ≡ take (n + 1) (map f xs)
more_mapped f xs n d old new next lt was is pushed =
    let within : n < length (map f xs) = rw (length-map xs f) lt in
    pushed ∙ ap (λ l. l ++ next ∷ []) was ∙ ap (λ y. take n (map f xs) ++ y ∷ []) (is ∙ sym (get_or-map f xs n d next lt)) ∙ sym (take_more (map f xs) n next within)

pub more_chains : (model : SystemModel) (n : ℕ) (old new : List ChainAnswer) (next : ChainAnswer) → n < length model.chains → old ≡ take n (map (chain_answer_of model) model.chains)
    → next ≡ chain_answer_of model (get_or model.chains n no_chain) → new ≡ old ++ next ∷ [] → new ≡ take (n + 1) (map (chain_answer_of model) model.chains)
more_chains model n = more_mapped (chain_answer_of model) model.chains n no_chain

-- a look-up finds nothing past the end
pub nothing_at : {X : Type 0} (xs : List X) (i : ℕ) (d : X) → None ≡ slice_get xs i → get_or xs i d ≡ d
nothing_at xs i d none = elim (slice_get_cases xs i).1 [
  | inl found ↦ absurd (none-some found.0 (none ∙ found.2))
  | inr past ↦ get_or_past xs i d past.0
]

-- the answer for a chain, from its first late task or from its bounds
pub late_answer : (model : SystemModel) (answers : List TaskAnswer) (chain : ChainDef) (task : ℕ) → answers ≡ answers_of (system_of model)
    → first_late answers (steps_of model chain) ≡ Some task → Late task ≡ chain_answer_of model chain
unfolding chain_answer_of
late_answer model answers chain task are late =
    sym (ap (λ (list : List TaskAnswer). chain_answer (first_late list (steps_of model chain)) (bounds_of (system_of model) (groups_of model chain))) (sym are)
    ∙ ap (λ (o : Option ℕ). chain_answer o (bounds_of (system_of model) (groups_of model chain))) late)

pub bounds_answer : (model : SystemModel) (answers : List TaskAnswer) (chain : ChainDef) (bounds : Lengths) → answers ≡ answers_of (system_of model)
    → first_late answers (steps_of model chain) ≡ None → bounds ≡ bounds_of (system_of model) (groups_of model chain) → Bounds bounds ≡ chain_answer_of model chain
unfolding chain_answer_of
bounds_answer model answers chain bounds are timely is =
    ap (λ (b : Lengths). Bounds b) is
    ∙ sym (ap (λ (list : List TaskAnswer). chain_answer (first_late list (steps_of model chain)) (bounds_of (system_of model) (groups_of model chain))) (sym are)
    ∙ ap (λ (o : Option ℕ). chain_answer o (bounds_of (system_of model) (groups_of model chain))) timely)

-- the answer for a chain is at its place
pub chain_answer_found : (model : SystemModel) (chains : List ChainAnswer) (i : ℕ) (answer : ChainAnswer) → chains ≡ chain_answers_of model → i < length model.chains
    → answer ≡ get_or chains i answer → answer ≡ chain_answer_of model (get_or model.chains i no_chain)
chain_answer_found model chains i answer are within at =
    at ∙ ap (λ (list : List ChainAnswer). get_or list i answer) are ∙ get_or-map (chain_answer_of model) model.chains i no_chain answer within

-- ---- exact lengths

-- the answers for the first n chains
pub record AreFirstExacts (model : SystemModel) (n : ℕ) (answers : List ExactAnswer) : Type 0 where
  pub count : length answers ≡ n
  pub each : (chain : ℕ) → chain < n → IsExactAnswer model chain (chain_answer_of model (get_or model.chains chain no_chain)) (exact_answer_at answers chain)

pub no_exacts : (model : SystemModel) → AreFirstExacts model 0 []
no_exacts model = record { count = refl; each = λ chain within. absurd (omega (arith, within)) }

pub more_exacts : (model : SystemModel) (n : ℕ) (old new : List ExactAnswer) (next : ExactAnswer) → AreFirstExacts model n old
    → IsExactAnswer model n (chain_answer_of model (get_or model.chains n no_chain)) next → new ≡ old ++ next ∷ [] → AreFirstExacts model (n + 1) new
more_exacts model n old new next was is pushed = record {
  count = ap length pushed ∙ length-append old (next ∷ []) ∙ ap (λ m. m + 1) was.count;
  each = below_more _ _
      (λ chain within. subst (IsExactAnswer model chain (chain_answer_of model (get_or model.chains chain no_chain)))
      (sym (ap (λ (list : List ExactAnswer). exact_answer_at list chain) pushed ∙ get_or_append_left old (next ∷ []) ChainLate chain (omega (arith, within, was.count)))) (was.each chain within))
      (subst (IsExactAnswer model n (chain_answer_of model (get_or model.chains n no_chain)))
      (sym (ap (λ (list : List ExactAnswer). exact_answer_at list n) pushed ∙ ap (λ m. get_or (old ++ next ∷ []) m ChainLate) (sym was.count) ∙ get_or-append_seam old next [] ChainLate)) is);
}

pub all_exacts : (model : SystemModel) (n : ℕ) (answers : List ExactAnswer) → n ≡ length model.chains → AreFirstExacts model n answers → AreExactAnswers model answers
all_exacts model n answers all first = record {
  one_a_chain = first.count ∙ all;
  each = λ chain within. first.each chain (omega (arith, within, all));
}

-- ---- verdicts

pub more_verdicts : (model : SystemModel) (chains : List ChainAnswer) (exacts : List ExactAnswer) (n : ℕ) (old new : List Verdict) (next : Verdict) → n < length model.requirements
    → old ≡ take n (verdicts_of model chains exacts) → next ≡ verdict_of model chains exacts (get_or model.requirements n no_requirement) → new ≡ old ++ next ∷ []
    → new ≡ take (n + 1) (verdicts_of model chains exacts)
more_verdicts model chains exacts n = more_mapped (verdict_of model chains exacts) model.requirements n no_requirement
