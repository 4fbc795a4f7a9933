-- What is kept of the tasks and of the chains of a model where another follows it, and what is changed.
use Rattle.std.proofs.Common.{◌≡◌, ◌≢◌, ℕ, ◌+◌, ◌<◌, ◌≤◌, inl, inr, List, length, get_or, refl, sym, ap, ◌∙◌, subst, arith, Some, None}
use Rattle.std.proofs.lemmas.List.{get_or-map, get_or_default}
use Rattle.std.proofs.Math.ListN.{length-map}
use Rattle.cl_model.specs.{declared.model.SystemModel.SystemModel, ByNumber.{task_at, chain_at, task_named}, Validity.IsValid}
use Rattle.cl_runs.specs.{SystemOf.system_of, TaskTiming.{no_timing, timing_at}}
use Rattle.cl_runs.proofs.ModelSystem.{count_is}
use Rattle.cl_bound.specs.{declared.answer.TaskAnswer.{TaskAnswer, TheVariants.Late as Unanswered}, Answers.{answer_to, answer_at, answers_of}}
use Rattle.cl_analyse.specs.{Headline.question_at, declared.findings.{ChainAnswer.{ChainAnswer, TheVariants.Late}, ExactAnswer.{ExactAnswer, TheVariants.ChainLate}, Findings.Findings}, ChainAnswers.{OnLate, chain_answer_of, exact_answer_at, IsExactAnswer}, Findings.AreFindings}
use Rattle.cl_analyse.proofs.AnswerLists.{chain_answer_found}
use Rattle.cl_incr.specs.{Questions.chain_question, Changed.{IsChangedTask, IsChangedChain}, declared.chains.ChainFindings.ChainFindings, Inner.{Kept.{AreBothAsked, AreFoundOf}, Asked.AsksOne}}
use Rattle.cl_incr.proofs.ByQuestions.{same_answers, chain_answers_same, exact_answers_same, late_where_not_asked}

one_number : (one other : ℕ) → Some one ≡ Some other → one ≡ other
one_number one other same = cc

-- ---- tasks

module _ (model : SystemModel) (answers : List TaskAnswer) (are : answers ≡ answers_of (system_of model)) where
  pub answer_count : length answers ≡ length model.tasks
  unfolding answers_of
  answer_count = ap length are ∙ length-map (system_of model).tasks (answer_to (system_of model)) ∙ count_is model

  pub answer_found : (task : ℕ) (found : TaskAnswer) → task < length model.tasks → found ≡ get_or answers task found
      → found ≡ answer_to (system_of model) (timing_at (system_of model) task)
  unfolding answers_of
  answer_found task found within at =
      at ∙ ap (λ (list : List TaskAnswer). get_or list task found) are
      ∙ get_or-map (answer_to (system_of model)) (system_of model).tasks task no_timing found (omega (arith, within, count_is model))

-- the answer of a number is that for the task of that number
pub answer_is : (model : SystemModel) (task : ℕ) → task < length model.tasks
    → answer_at (answers_of (system_of model)) task ≡ answer_to (system_of model) (timing_at (system_of model) task)
unfolding answers_of
answer_is model task within =
    get_or-map (answer_to (system_of model)) (system_of model).tasks task no_timing Unanswered (omega (arith, within, count_is model))

module _ (old new : SystemModel) (task : ℕ) where
  pub kept_answer : (answers : List TaskAnswer) (before : ℕ) (found : TaskAnswer) → answers ≡ answers_of (system_of old) → before < length old.tasks
      → found ≡ get_or answers before found → question_at old before ≡ question_at new task
      → found ≡ answer_to (system_of new) (timing_at (system_of new) task)
  kept_answer answers before found are within at same = answer_found old answers are before found within at ∙ same_answers old new before task same

  -- a task that wasn't there, or had another question
  pub new_task : task < length new.tasks → task_named old (task_at new task).name ≡ None → IsChangedTask old new task
  new_task is_task none = record { is_task = is_task; changed = λ before named. absurd cc }

  pub other_question : (before : ℕ) → task < length new.tasks → task_named old (task_at new task).name ≡ Some before
      → question_at old before ≢ question_at new task → IsChangedTask old new task
  other_question before is_task named differs = record {
    is_task = is_task;
    changed = λ other other_named same.
        let one : before ≡ other = one_number before other (sym named ∙ other_named) in
        differs (ap (question_at old) one ∙ same);
  }

-- ---- chains

-- an answer in a list of answers, by its place
pub exact_at : (answers : List ExactAnswer) (chain : ℕ) (found : ExactAnswer) → chain < length answers → found ≡ get_or answers chain found
    → found ≡ exact_answer_at answers chain
exact_at answers chain found within at = at ∙ get_or_default answers chain found ChainLate within

-- what stands of a chain in the findings of a model is found of it
module _ (old : SystemModel) (findings : Findings) (are : AreFindings old findings) where
  pub found_before : (before : ℕ) (found : ChainFindings) → before < length old.chains
      → found.bounds ≡ get_or findings.chains before found.bounds → found.exact ≡ get_or findings.exacts before found.exact
      → AreFoundOf old before found
  found_before before found within bounds_at exact_at_before =
      let is_exact = exact_at findings.exacts before found.exact (omega (arith, within, are.exacts.one_a_chain)) exact_at_before in
      record {
        bounds = chain_answer_found old findings.chains before found.bounds are.chains within bounds_at;
        exact = subst (IsExactAnswer old before (chain_answer_of old (chain_at old before))) (sym is_exact) (are.exacts.each before within);
      }

module _ (old new : SystemModel) (chain : ℕ) where
  -- what is found of the chain that had the question before is found of the chain that has it now
  pub kept_chain : (findings : Findings) (before : ℕ) (found : ChainFindings) → IsValid old → AreFindings old findings → before < length old.chains
      → found.bounds ≡ get_or findings.chains before found.bounds → found.exact ≡ get_or findings.exacts before found.exact
      → AreBothAsked (chain_question old before) (chain_question new chain) → AreFoundOf new chain found
  kept_chain findings before found valid are within bounds_at exact_at_before asked =
      let was = found_before old findings are before found within bounds_at exact_at_before in
      record {
        bounds = was.bounds ∙ chain_answers_same old new before chain asked.question asked.old_asks asked.new_asks;
        exact = exact_answers_same old new valid before chain within asked.question asked.old_asks asked.new_asks found.exact was.exact;
      }

  -- the steps for a chain that is answered anew: none where it is late
  late_steps : (bounds : ChainAnswer) (task before after : ℕ) → bounds ≡ Late task → OnLate bounds (after ≡ before) → after ≡ before
  late_steps bounds task before after late on_late = subst (λ answer. OnLate answer (after ≡ before)) late on_late

  pub anew_steps : (bounds : ChainAnswer) (before now after : ℕ) → bounds ≡ chain_answer_of new (chain_at new chain) → now ≤ before + 1 → after ≤ now + 1
      → OnLate bounds (now ≡ before) → OnLate bounds (after ≡ now) → (chain_question new chain ≢ None → IsChangedChain old new chain)
      → AsksOne (IsChangedChain old new chain) 2 before after
  anew_steps bounds before now after are one two late_one late_two changed =
      elim (chain_question new chain) as (λ question. chain_question new chain ≡ question → AsksOne (IsChangedChain old new chain) 2 before after) [
        | None ↦ λ none.
            let late = late_where_not_asked new chain none in
            inl (omega (arith, late_steps bounds late.0 before now (are ∙ late.1) late_one, late_steps bounds late.0 now after (are ∙ late.1) late_two))
        | Some question ↦ λ asks. inr (changed (λ none. cc), omega (arith, one, two))
      ] refl
