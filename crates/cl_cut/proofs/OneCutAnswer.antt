-- A chain has one answer to its question of a best cut, and a model one list of such answers.
use Rattle.std.proofs.Common.{◌≡◌, ℕ, zero, suc, ◌+◌, ◌<◌, ◌≤◌, inl, inr, Option, Some, None, List, [], ◌∷◌, ◌++◌, length, refl, sym, ap, ◌∙◌, subst, arith}
use Rattle.std.proofs.lemmas.Bool.{cases_lt}
use Rattle.std.proofs.lemmas.List.{ext_get_or, get_or_append_left, length_push, get_or_push}
use Rattle.cl_model.specs.{declared.model.SystemModel.SystemModel, Groups.groups_at, Validity.IsValid}
use Rattle.cl_runs.specs.SystemOf.{system_of}
use Rattle.cl_cut.specs.{declared.answer.CutAnswer.{CutAnswer, TheVariants.{Cut, Late}}, CutAnswers.{late_task_of, IsCutAnswer, IsSafeAnswer, IsNoWorseAnswer, cut_answer_at, AreCutAnswers, AreSafeAnswers, AreNoWorseAnswers}}
use Rattle.cl_cut.proofs.{BestCuts.{one_best, one_cost}, ChainValues.{best_safe, best_no_worse}, SomeCut.best_exists}

-- ---- one answer

not_some : (first : Option ℕ) (task : ℕ) → first ≡ None → first ≡ Some task → ⊥
not_some None task none some = absurd cc
not_some (Some other) task none some = absurd cc

one_task : (first : Option ℕ) (task other : ℕ) → first ≡ Some task → first ≡ Some other → task ≡ other
one_task None task other is also = absurd cc
one_task (Some own) task other is also = cc

same_cut : (cost less : ℕ) (one other : List ℕ) → cost ≡ less → one ≡ other → ◌≡◌ {A = CutAnswer} (Cut cost one) (Cut less other)
same_cut cost less one other e f = cc

module _ (model : SystemModel) (chain : ℕ) where
  pub one_answer : (one other : CutAnswer) → IsCutAnswer model chain one → IsCutAnswer model chain other → one ≡ other
  one_answer (Cut cost one) (Cut less other) first second =
      same_cut cost less one other
      (one_cost (system_of model) (groups_at model chain) one other cost less first.1 second.1)
      (one_best (system_of model) (groups_at model chain) one other cost less first.1 second.1)
  one_answer (Cut cost one) (Late task) first second = absurd (not_some (late_task_of model chain) task first.0 second)
  one_answer (Late task) (Cut cost other) first second = absurd (not_some (late_task_of model chain) task second.0 first)
  one_answer (Late task) (Late other) first second = ap Late (one_task (late_task_of model chain) task other first second)

  record HasAnswer : Type 0 where
    answer : CutAnswer
    is_answer : IsCutAnswer model chain answer

  module _ (valid : IsValid model) (is_chain : chain < length model.chains) where
    some_answer : HasAnswer
    some_answer = by_late (late_task_of model chain) refl
      where
        by_late : (first : Option ℕ) → late_task_of model chain ≡ first → HasAnswer
        by_late None none =
            let best = best_exists model valid chain is_chain none in
            record { answer = Cut best.cost best.pieces; is_answer = (none, best.is_best) }
        by_late (Some task) some = record { answer = Late task; is_answer = some }

    -- its cost is safe and no worse than what is found of the uncut chain
    pub answer_safe : (answer : CutAnswer) → IsCutAnswer model chain answer → IsSafeAnswer model chain answer
    answer_safe (Cut cost pieces) is = best_safe model valid chain is_chain is.0 pieces cost is.1
    answer_safe (Late task) is = tt

    pub answer_no_worse : (answer : CutAnswer) → IsCutAnswer model chain answer → IsNoWorseAnswer model chain answer
    answer_no_worse (Cut cost pieces) is = best_no_worse model valid chain is_chain is.0 pieces cost is.1
    answer_no_worse (Late task) is = tt

-- ---- the answers of all chains

-- the answers for the first chains
pub record AreFirstAnswers (model : SystemModel) (count : ℕ) (answers : List CutAnswer) : Type 0 where
  pub as_many : length answers ≡ count
  pub each : (chain : ℕ) → chain < count → IsCutAnswer model chain (cut_answer_at answers chain)

pub no_answers : (model : SystemModel) → AreFirstAnswers model 0 []
no_answers model = record { as_many = refl; each = λ chain lt. absurd (omega (arith, lt)) }

pub one_more_answer : (model : SystemModel) (count : ℕ) (answers pushed : List CutAnswer) (answer : CutAnswer) → AreFirstAnswers model count answers
    → IsCutAnswer model count answer → pushed ≡ answers ++ answer ∷ [] → AreFirstAnswers model (count + 1) pushed
one_more_answer model count answers pushed answer kept is_answer is = subst (AreFirstAnswers model (count + 1)) (sym is) (record {
  as_many = omega (arith, length_push answers answer, kept.as_many);
  each = λ chain lt. elim (cases_lt chain count) [
    | inl before ↦ subst (IsCutAnswer model chain)
        (sym (get_or_append_left answers (answer ∷ []) (Late 0) chain (omega (arith, before, kept.as_many)))) (kept.each chain before)
    | inr not ↦
        let same : count ≡ chain = omega (arith, not, lt) in
        let last : length answers ≡ chain = omega (arith, same, kept.as_many) in
        subst (IsCutAnswer model chain) (sym (get_or_push answers answer (Late 0) chain last))
        (subst (λ n. IsCutAnswer model n answer) same is_answer)
  ];
})

pub all_answers : (model : SystemModel) (count : ℕ) (answers : List CutAnswer) → count ≡ length model.chains → AreFirstAnswers model count answers
    → AreCutAnswers model answers
all_answers model count answers all kept = record {
  one_a_chain = kept.as_many ∙ all;
  each = λ chain lt. kept.each chain (omega (arith, lt, all));
}

record HasFirstAnswers (model : SystemModel) (count : ℕ) : Type 0 where
  answers : List CutAnswer
  are : AreFirstAnswers model count answers

first_answers : (model : SystemModel) → IsValid model → (count : ℕ) → count ≤ length model.chains → HasFirstAnswers model count
first_answers model valid zero le = record { answers = []; are = no_answers model }
first_answers model valid (suc count) le =
    let rest = first_answers model valid count (omega (arith, le)) in
    let found = some_answer model count valid (omega (arith, le)) in
    let next : count + 1 ≡ suc count = omega arith in
    record {
      answers = rest.answers ++ found.answer ∷ [];
      are = subst (λ n. AreFirstAnswers model n (rest.answers ++ found.answer ∷ [])) next
          (one_more_answer model count rest.answers (rest.answers ++ found.answer ∷ []) found.answer rest.are found.is_answer refl);
    }

pub some_answers : (model : SystemModel) → IsValid model → (answers : List CutAnswer) × AreCutAnswers model answers
some_answers model valid =
    let found = first_answers model valid (length model.chains) (omega arith) in
    (found.answers, all_answers model (length model.chains) found.answers refl found.are)

pub one_answers : (model : SystemModel) (one other : List CutAnswer) → AreCutAnswers model one → AreCutAnswers model other → one ≡ other
one_answers model one other first second =
    ext_get_or (Late 0) one other (first.one_a_chain ∙ sym second.one_a_chain)
    (λ chain within. let is_chain : chain < length model.chains = omega (arith, within, first.one_a_chain) in
    one_answer model chain (cut_answer_at one chain) (cut_answer_at other chain) (first.each chain is_chain) (second.each chain is_chain))

-- ---- what they promise

module _ (model : SystemModel) (valid : IsValid model) (answers : List CutAnswer) (are : AreCutAnswers model answers) where
  pub all_safe : AreSafeAnswers model answers
  all_safe chain is_chain = answer_safe model chain valid is_chain (cut_answer_at answers chain) (are.each chain is_chain)

  pub all_no_worse : AreNoWorseAnswers model answers
  all_no_worse chain is_chain = answer_no_worse model chain valid is_chain (cut_answer_at answers chain) (are.each chain is_chain)
