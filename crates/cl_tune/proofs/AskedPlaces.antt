-- What is asked of the unplaced task at a place: the question below all others, and whether its answer is that it fits.
-- Times are in ticks.
use Rattle.std.proofs.Common.{◌≡◌, ℕ, suc, ◌+◌, ◌<◌, ◌≤◌, ◌^◌, not, ◌&&◌, nat_lt, List, ◌∷◌, length, get_or, map, refl, sym, ap, ◌∙◌, subst, arith}
use Rattle.std.specs.Prelude.{All, ◌==◌, is_some, remove, slice_set}
use Rattle.std.proofs.lemmas.Bool.{lt-ltb}
use Rattle.std.proofs.lemmas.List.{get_or-map, length-map}
use Rattle.std.proofs.lemmas.List.Elements.{All-filter}
use Rattle.cl_model.specs.{declared.{limits.TheConstants.{MOST_TICKS, MOST_TASKS_OF_CORE}, model.SystemModel.SystemModel}, ByNumber.{stimulus_of, deadline_of}, Validity.IsValid}
use Rattle.cl_model.proofs.ValidTasks.{kind_in_range, early_enough}
use Rattle.cl_runs.specs.{SystemOf.system_of, TaskTiming.timing_at}
use Rattle.cl_stim.proofs.StimulusKinds.{least_few}
use Rattle.cl_resp.specs.{declared.question.{Above.Above, Question.Question}, Question.{taken_by, IsQuestionInRange}, Response.response_to}
use Rattle.cl_tune.specs.Inner.Filling.{without, AreDistinct, question_over, question_below, spans_few, spans_few_of, fits}
use Rattle.cl_tune.proofs.{OthersTaken.{removed_is, next_is, few_without}, QuestionRanges.{shorter_without, question_in_range}}

-- what tasks take, by number
abbrev pub all_taken : SystemModel → (tasks : List ℕ) → List Above
all_taken model tasks = map (λ other. taken_by (timing_at (system_of model) other)) tasks

-- what is taken but for the first place
pub first_others : (model : SystemModel) (unplaced later : List ℕ) (first : ℕ) → unplaced ≡ first ∷ later
    → all_taken model later ≡ remove (all_taken model unplaced) 0
first_others model unplaced later first is = ap (λ (list : List ℕ). remove (all_taken model list) 0) (sym is)

-- and but for the next one, once the place of that has what the last one takes
pub next_others : (model : SystemModel) (unplaced : List ℕ) (place : ℕ) (others : List Above) → place + 1 < length unplaced
    → others ≡ remove (all_taken model unplaced) place
    → slice_set others place (taken_by (timing_at (system_of model) (get_or unplaced place 0))) ≡ remove (all_taken model unplaced) (place + 1)
next_others model unplaced place others within is =
    let taken : ℕ → Above = λ other. taken_by (timing_at (system_of model) other) in
    let next : suc place ≡ place + 1 = omega arith in
    ap (λ (list : List Above). slice_set list place (taken (get_or unplaced place 0))) is
    ∙ ap (slice_set (remove (map taken unplaced) place) place) (sym (get_or-map taken unplaced place 0 (taken 0) (omega (arith, within))))
    ∙ next_is (map taken unplaced) place (taken 0) (omega (arith, within, length-map unplaced taken))
    ∙ ap (remove (map taken unplaced)) next

module _ (model : SystemModel) (valid : IsValid model) (unplaced : List ℕ) (known : All (λ other. other < length model.tasks) unplaced)
    (once : AreDistinct unplaced) (place : ℕ) (within : place < length unplaced) (too_long : ℕ)
    (first : (deadline : ℕ) → deadline < 2 ^ 64 → spans_few_of (system_of model) deadline unplaced ≡ nat_lt deadline too_long)
    (block : ℕ) (others : List Above) (taken : others ≡ remove (all_taken model unplaced) place) where
  -- whether its deadline spans few least distances of all others
  few_is : spans_few (system_of model) (without (get_or unplaced place 0) unplaced) (get_or unplaced place 0)
      ≡ nat_lt (deadline_of model (get_or unplaced place 0)) too_long
  few_is =
      let task = get_or unplaced place 0 in
      let h = known place 0 within in
      few_without model valid task h unplaced
      ∙ first (deadline_of model task) (omega (arith, early_enough model valid task h, least_few (stimulus_of model task) (kind_in_range model valid task h)))

  asked_is : question_over (system_of model) block others (get_or unplaced place 0)
      ≡ question_below (system_of model) block (without (get_or unplaced place 0) unplaced) (get_or unplaced place 0)
  asked_is =
      ap (λ (above : List Above). question_over (system_of model) block above (get_or unplaced place 0))
      (taken ∙ removed_is (λ other. taken_by (timing_at (system_of model) other)) unplaced place within once)

  pub asked_in_range : block ≤ MOST_TICKS → length unplaced ≤ MOST_TASKS_OF_CORE → deadline_of model (get_or unplaced place 0) < too_long
      → IsQuestionInRange (question_over (system_of model) block others (get_or unplaced place 0))
  asked_in_range small few short =
      let task = get_or unplaced place 0 in
      subst (λ (q : Question). IsQuestionInRange q) (sym asked_is)
      (question_in_range model valid task (known place 0 within) (without task unplaced)
      (All-filter (λ other. not (other == task)) (λ other. other < length model.tasks) unplaced known) (few_is ∙ lt-ltb _ _ short) block small
      (omega (arith, shorter_without task unplaced place 0 within refl, few)))

  pub fits_is : fits (system_of model) block unplaced (get_or unplaced place 0)
      ≡ (nat_lt (deadline_of model (get_or unplaced place 0)) too_long
      && is_some (response_to (question_over (system_of model) block others (get_or unplaced place 0))))
  fits_is =
      let task = get_or unplaced place 0 in
      ap (λ t. t && is_some (response_to (question_below (system_of model) block (without task unplaced) task))) few_is
      ∙ ap (λ (q : Question). nat_lt (deadline_of model task) too_long && is_some (response_to q)) (sym asked_is)
