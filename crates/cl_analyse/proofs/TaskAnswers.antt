-- The answers for all tasks, found in any order.
use Rattle.std.proofs.Common.{◌≡◌, ℕ, ◌+◌, ◌<◌, List, length, get_or, set, map, sym, ap, subst, ◌∙◌, ◌≢◌, arith, inl, inr}
use Rattle.std.specs.Prelude.{All, IsPermutation}
use Rattle.std.specs.List.{range_with_len}
use Rattle.std.proofs.lemmas.Bool.{cases_eq}
use Rattle.std.proofs.lemmas.List.{get_or-set_other, get_or-map, get_or_default, same_lists}
use Rattle.std.proofs.lemmas.List.Sorted.{All-permutation, IsPermutation-sym}
use Rattle.std.proofs.lemmas.Grind.{get_or-set_at}
use Rattle.std.proofs.lemmas.List.FromFn.{get_or-range_with_len, length-range_with_len}
use Rattle.std.proofs.Math.ListN.{length-map, length-set}
use Rattle.cl_bound.specs.declared.answer.TaskAnswer.{TaskAnswer, TheVariants.Late}
use Rattle.cl_runs.specs.TaskTiming.{Timing, no_timing}

module _ (answer_of : Timing → TaskAnswer) (tasks : List Timing) (order : List ℕ) where
  -- the first so many tasks of the order are answered
  pub record AreAnswered (done : ℕ) (answers : List TaskAnswer) : Type 0 where
    pub one_a_task : length answers ≡ length tasks
    pub each : (place : ℕ) → place < done → get_or answers (get_or order place 0) Late ≡ answer_of (get_or tasks (get_or order place 0) no_timing)

  pub none_answered : (answers : List TaskAnswer) → length answers ≡ length tasks → AreAnswered 0 answers
  none_answered answers long = record { one_a_task = long; each = λ place below. absurd (omega (arith, below)) }

  -- with one more
  pub one_answered : (done : ℕ) (old new : List TaskAnswer) (answer : TaskAnswer) → AreAnswered done old → get_or order done 0 < length tasks
      → answer ≡ answer_of (get_or tasks (get_or order done 0) no_timing) → new ≡ set old (get_or order done 0) answer
      → AreAnswered (done + 1) new
  one_answered done old new answer answered known is written = record {
    one_a_task = ap length written ∙ length-set old (get_or order done 0) answer ∙ answered.one_a_task;
    each = λ place below. ap (λ (l : List TaskAnswer). get_or l (get_or order place 0) Late) written ∙ (elim (cases_eq (get_or order place 0) (get_or order done 0)) [
      | inl same ↦ get_or-set_at old (get_or order done 0) (get_or order place 0) answer Late same (omega (arith, known, answered.one_a_task))
          ∙ is ∙ ap (λ task. answer_of (get_or tasks task no_timing)) (sym same)
      | inr other ↦ get_or-set_other old (get_or order done 0) (get_or order place 0) answer Late other ∙ answered.each place (omega (arith, below, earlier place below other))
    ]);
  }
    where
      earlier : (place : ℕ) → place < done + 1 → get_or order place 0 ≢ get_or order done 0 → place < done
      earlier place below other = elim (cases_eq place done) [
        | inl same ↦ absurd (other (ap (λ k. get_or order k 0) same))
        | inr apart ↦ omega (arith, below, apart)
      ]

  -- what holds of the number of each task holds along the order
  abbrev IsAnswered : (answers : List TaskAnswer) → ℕ → Type 0
  IsAnswered answers task = get_or answers task Late ≡ answer_of (get_or tasks task no_timing)

  module _ (permuted : IsPermutation (range_with_len 0 (length tasks)) order) where
    pub known_along : (place : ℕ) → place < length order → get_or order place 0 < length tasks
    known_along place below =
        All-permutation (λ task. task < length tasks) (range_with_len 0 (length tasks)) order permuted
        (λ k d lt. omega (arith, lt, get_or-range_with_len 0 (length tasks) k d (omega (arith, lt, length-range_with_len 0 (length tasks))), length-range_with_len 0 (length tasks)))
        place 0 below

    -- once all of the order are answered, each task is
    pub all_answered : (answers : List TaskAnswer) → AreAnswered (length order) answers → answers ≡ map answer_of tasks
    all_answered answers answered =
        let along : All (IsAnswered answers) order = λ k d lt. subst (IsAnswered answers) (get_or_default order k 0 d lt) (answered.each k lt) in
        let each : All (IsAnswered answers) (range_with_len 0 (length tasks)) =
        All-permutation (IsAnswered answers) order (range_with_len 0 (length tasks)) (IsPermutation-sym (range_with_len 0 (length tasks)) order permuted) along in
        same_lists answers (map answer_of tasks) (answered.one_a_task ∙ sym (length-map tasks answer_of))
        (λ k d lt.
        let within : k < length tasks = omega (arith, lt, answered.one_a_task) in
        let here : get_or (range_with_len 0 (length tasks)) k 0 ≡ k = get_or-range_with_len 0 (length tasks) k 0 within ∙ omega arith in
        get_or_default answers k d Late lt
        ∙ subst (IsAnswered answers) here (each k 0 (omega (arith, within, length-range_with_len 0 (length tasks))))
        ∙ sym (get_or-map answer_of tasks k no_timing d within))
