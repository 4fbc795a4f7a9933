-- The question of a task below others is in range, where its deadline spans few least distances of each of them.
use Rattle.std.proofs.Common.{◌≡◌, ℕ, zero, suc, ◌+◌, ◌*◌, ◌<◌, ◌≤◌, Bool, true, false, cond, not, List, [], ◌∷◌, length, get_or, map, sym, subst, arith}
use Rattle.std.specs.Prelude.{All, ◌==◌}
use Rattle.std.proofs.lemmas.Bool.{not-true, not_from_true, eq-eqb, ltb-false}
use Rattle.std.proofs.lemmas.List.{length-map}
use Rattle.std.proofs.lemmas.List.Elements.{All-map}
use Rattle.std.proofs.lemmas.List.Sums.{AllPass-from_list_all}
use Rattle.cl_model.specs.{declared.{limits.TheConstants.{MOST_TICKS, MOST_RUNNABLES, MOST_DISTANCES, MOST_TASKS_OF_CORE}, model.SystemModel.SystemModel, stimulus.StimulusKind.StimulusKind}, ByNumber.stimulus_of, Timing.{least_distance, greatest_jitter}, Validity.IsValid}
use Rattle.cl_model.specs.ValidTasks.{spans_too_many}
use Rattle.cl_model.proofs.ValidTasks.{kind_in_range, early_enough, some_time, little_time}
use Rattle.cl_runs.specs.{TaskTiming.timing_at, SystemOf.system_of}
use Rattle.cl_runs.proofs.ModelSystem.{count_is, system_sound}
use Rattle.cl_stim.proofs.StimulusKinds.{kind_of-as_stimulus, least_few}
use Rattle.cl_resp.specs.Question.{longest_hold, taken_by, IsAboveInRange, IsQuestionInRange}
use Rattle.cl_resp.proofs.Filters.{shorter}
use Rattle.cl_tune.specs.Inner.Filling.{without, question_below, spans_few}
use Rattle.cl_tune.proofs.Timings.{deadline_is, time_is, hold_is, hold_few}

-- a list without one of its tasks is shorter
pub shorter_without : (task : ℕ) (tasks : List ℕ) (place d : ℕ) → place < length tasks → get_or tasks place d ≡ task → length (without task tasks) < length tasks
shorter_without task [] place d within is = absurd (omega (arith, within))
shorter_without task (x ∷ xs) zero d within is =
    subst (λ (b : Bool). length (cond b (x ∷ without task xs) (without task xs)) < suc (length xs)) (sym (not_from_true _ (eq-eqb x task is)))
    (omega (arith, shorter (λ other. not (other == task)) xs))
shorter_without task (x ∷ xs) (suc place) d within is =
    let rest = shorter_without task xs place d (omega (arith, within)) is in
    elim (not (x == task)) as (λ b. length (cond b (x ∷ without task xs) (without task xs)) < suc (length xs)) [
      | true ↦ omega (arith, rest)
      | false ↦ omega (arith, rest)
    ]

module _ (model : SystemModel) (valid : IsValid model) (task : ℕ) (h : task < length model.tasks) (others : List ℕ) (known : All (λ other. other < length model.tasks) others)
    (few : spans_few (system_of model) others task ≡ true) where
  one_above : (other : ℕ) → other < length model.tasks
      → not (spans_too_many (timing_at (system_of model) task).deadline (timing_at (system_of model) other).pattern) ≡ true
      → IsAboveInRange (timing_at (system_of model) task).deadline (taken_by (timing_at (system_of model) other))
  one_above other g spans =
      let kind = (timing_at (system_of model) other).pattern in
      let deadline = (timing_at (system_of model) task).deadline in
      record {
        time = subst (λ n. n ≤ MOST_RUNNABLES * MOST_TICKS) (sym (time_is model other g)) (little_time model valid other g);
        distances = subst (λ (k : StimulusKind). deadline + greatest_jitter k ≤ MOST_DISTANCES * least_distance k) (sym (kind_of-as_stimulus kind))
            (ltb-false (MOST_DISTANCES * least_distance kind) (deadline + greatest_jitter kind) (not-true _ spans));
      }

  all_in_range : All (IsAboveInRange (timing_at (system_of model) task).deadline) (map (λ other. taken_by (timing_at (system_of model) other)) others)
  all_in_range = All-map (IsAboveInRange (timing_at (system_of model) task).deadline) (λ other. taken_by (timing_at (system_of model) other)) others
      (λ k d lt. one_above (get_or others k d) (known k d lt)
      (AllPass-from_list_all (λ other. not (spans_too_many (timing_at (system_of model) task).deadline (timing_at (system_of model) other).pattern)) others few k d lt))

  pub question_in_range : (block : ℕ) → block ≤ MOST_TICKS → length others < MOST_TASKS_OF_CORE
      → IsQuestionInRange (question_below (system_of model) block others task)
  question_in_range block small short =
      let sound = (system_sound model valid).tasks task (omega (arith, h, count_is model)) in
      let hold : longest_hold (timing_at (system_of model) task) ≤ MOST_TICKS = subst (λ n. n ≤ MOST_TICKS) (sym (hold_is model task h)) (hold_few model task h valid) in
      record {
        released_before = sound.above_jitter;
        deadline = omega (arith, deadline_is model task h, early_enough model valid task h, least_few (stimulus_of model task) (kind_in_range model valid task h));
        some_time = subst (λ n. 1 ≤ n) (sym (time_is model task h)) (some_time model valid task h);
        time = subst (λ n. n ≤ MOST_RUNNABLES * MOST_TICKS) (sym (time_is model task h)) (little_time model valid task h);
        block = omega (arith, small, hold);
        few_above = omega (arith, length-map others (λ other. taken_by (timing_at (system_of model) other)), short);
        above = all_in_range;
      }
