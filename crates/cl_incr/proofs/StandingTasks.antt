-- The tasks that are noted to stand as they did.
use Rattle.std.proofs.Common.{◌≡◌, ℕ, ◌+◌, ◌<◌, inl, inr, List, [], ◌∷◌, ◌++◌, length, get_or, take, refl, sym, ap, ◌∙◌, subst, arith}
use Rattle.std.specs.Prelude.{set}
use Rattle.std.proofs.lemmas.Bool.Decides.{eqb_tells}
use Rattle.std.proofs.lemmas.List.{take_more, get_or_default, length-set, get_or-set_same, get_or-set_other}
use Rattle.cl_model.specs.declared.model.SystemModel.{SystemModel}
use Rattle.cl_runs.specs.{SystemOf.system_of, TaskTiming.timing_at}
use Rattle.cl_bound.specs.{declared.answer.TaskAnswer.{TaskAnswer, TheVariants.Late}, Answers.{answer_to, answer_at, answers_of}}
use Rattle.cl_incr.proofs.KeptAnswers.{answer_is, answer_count}
use Rattle.cl_incr.specs.Inner.Standing.{StandsAs, AreStanding}

module _ (old new : SystemModel) where
  module _ (standing : List ℕ) (are : AreStanding old new standing) (task was : ℕ) (is_task : task < length new.tasks)
      (stands : was < length old.tasks → StandsAs old new was task) where
    -- one more
    pub note_standing : AreStanding old new (set standing task was)
    note_standing = record {
      count = length-set standing task was ∙ are.count;
      each = λ k within known. elim (eqb_tells k task) [
        | inl equal ↦
            let at : get_or (set standing task was) k 0 ≡ was
            = ap (λ n. get_or (set standing task was) n 0) equal.1 ∙ get_or-set_same standing task was 0 (omega (arith, is_task, are.count)) in
            subst (λ n. StandsAs old new n k) (sym at) (subst (StandsAs old new was) (sym equal.1) (stands (subst (λ n. n < length old.tasks) at known)))
        | inr other ↦
            let at : get_or (set standing task was) k 0 ≡ get_or standing k 0 = get_or-set_other standing task k was 0 other.1 in
            subst (λ n. StandsAs old new n k) (sym at) (are.each k within (subst (λ n. n < length old.tasks) at known))
      ];
    }

-- the answer of the task as which one stands is its answer
pub standing_answer : (old new : SystemModel) (answers : List TaskAnswer) (was task : ℕ) (found : TaskAnswer) → answers ≡ answers_of (system_of old)
    → was < length old.tasks → task < length new.tasks → found ≡ get_or answers was found → StandsAs old new was task
    → found ≡ answer_to (system_of new) (timing_at (system_of new) task)
standing_answer old new answers was task found are known within at stands =
    at ∙ get_or_default answers was found Late (omega (arith, known, answer_count old answers are))
    ∙ ap (λ (l : List TaskAnswer). answer_at l was) are ∙ stands.answer ∙ answer_is new task within

-- one more answer
pub more_answers : (model : SystemModel) (n : ℕ) (old new : List TaskAnswer) (next : TaskAnswer) → n < length model.tasks
    → old ≡ take n (answers_of (system_of model)) → next ≡ answer_to (system_of model) (timing_at (system_of model) n) → new ≡ old ++ next ∷ []
    → new ≡ take (n + 1) (answers_of (system_of model))
more_answers model n old new next within was is pushed =
    let all : List TaskAnswer = answers_of (system_of model) in
    pushed ∙ ap (λ l. l ++ next ∷ []) was ∙ ap (λ y. take n all ++ y ∷ []) (is ∙ sym (answer_is model n within))
    ∙ sym (take_more all n Late (omega (arith, within, answer_count model all refl)))
