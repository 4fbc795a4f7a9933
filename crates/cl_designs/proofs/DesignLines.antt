-- What the lines of a text print.
use Rattle.std.proofs.Common.{◌≡◌, ℕ, ◌<◌, Option, List, length, get_or, ap, ◌∙◌, subst}
use Rattle.std.proofs.lemmas.List.{get_or_default}
use Rattle.cl_model.specs.{declared.model.SystemModel.SystemModel, ByNumber.chain_at, Groups.groups_of, Validity.IsValid}
use Rattle.cl_runs.specs.SystemOf.{system_of}
use Rattle.cl_bound.specs.Bounds.{bounds_of}
use Rattle.cl_analyse.specs.ChainAnswers.{chain_answer, chain_answer_of}
use Rattle.cl_analyse.proofs.SafeFindings.{answer_of_chain, named_task_within}
use Rattle.cl_cut.specs.{declared.answer.CutAnswer.{CutAnswer, TheVariants.Late}, CutAnswers.{cut_answer_at, IsCutAnswer, AreCutAnswers}}

-- ---- cuts

module _ (model : SystemModel) (answers : List CutAnswer) (are : AreCutAnswers model answers) (chain : ℕ) (is_chain : chain < length model.chains) where
  pub answer_within : chain < length answers
  answer_within = rw are.one_a_chain is_chain

  -- an answer that was found in its list
  pub answer_found : (answer : CutAnswer) → answer ≡ get_or answers chain answer → answer ≡ cut_answer_at answers chain
  answer_found answer at = at ∙ get_or_default answers chain answer (Late 0) answer_within

  -- a late task that is named is a task of the model
  pub late_within : IsValid model → (late : ℕ) → cut_answer_at answers chain ≡ Late late → late < length model.tasks
  unfolding chain_answer_of
  late_within valid late named =
      named_task_within model valid chain late is_chain
      (answer_of_chain model chain is_chain
      ∙ ap (λ (first : Option ℕ). chain_answer first (bounds_of (system_of model) (groups_of model (chain_at model chain))))
      (subst (λ (answer : CutAnswer). IsCutAnswer model chain answer) named (are.each chain is_chain)))
