-- The questions of the tasks of a scaled model, by their scaled times, and what keeping asks of their answers.
use Rattle.std.proofs.Common.{◌≡◌, ℕ, ◌<◌, true, false, nat_le, nat_lt, List, [], length, map, refl, sym, ap, ◌∙◌, subst, arith}
use Rattle.std.specs.Prelude.{All, filter}
use Rattle.std.proofs.lemmas.List.{length-map, get_or-map}
use Rattle.std.proofs.lemmas.List.Elements.{All-from_get_or, All-nil}
use Rattle.cl_model.specs.{declared.{model.SystemModel.SystemModel, stimulus.StimulusKind.StimulusKind, task.TaskDef.TaskDef}, ByNumber.{task_at, core_of, time_of, tasks_of_core}, Holds.{greatest_by, runnable_hold, task_hold}, Validity.IsValid, Ranges.IsInRange}
use Rattle.cl_model.specs.ByNumber as tasks
use Rattle.cl_model.proofs.{ListFacts.maps_agree, Greatest.{greatest_agrees, greatest_mapped}}
use Rattle.cl_runs.specs.{SystemOf.system_of, TaskTiming.{timing_at, no_timing}}
use Rattle.cl_runs.proofs.ModelSystem.{count_is}
use Rattle.cl_stim.specs.AnyStimulus.{as_stimulus}
use Rattle.cl_resp.specs.{declared.question.{Block.TheVariants.WithOwn, Question.Question}, Question.{question_of, IsQuestionInRange}, Response.response_to}
use Rattle.cl_resp.proofs.Questions as asked
use Rattle.cl_bound.specs.{declared.answer.TaskAnswer.{TaskAnswer, TheVariants.Late}, Answers.{answer_with, answer_to, answers_of, answer_at, is_late}}
use Rattle.cl_analyse.specs.{declared.findings.Verdict.Verdict, Verdicts.{verdict_of, is_met}}
use Rattle.cl_analyse.proofs.SomeFindings.{some_findings}
use Rattle.cl_scale.specs.Scaled.{scaled_runnable, scaled}
use Rattle.cl_scale.proofs.ScaledValid.{scaled_valid}
use Rattle.cl_tune.specs.{declared.times.TaskTimes.TaskTimes, Headroom.Keeps, Inner.Times.{is_higher, may_hold, above_with, hold_with, question_with, AreTimely}}
use Rattle.cl_tune.proofs.ScaledTimes.{filters_agree, count_kept, stimulus_is, priority_is, deadline_is, jitter_is, others_are, times, task_is, times_are, time_is}

module _ (model : SystemModel) (percent : ℕ) where
  abbrev made : SystemModel
  made = scaled model percent

  abbrev all : List TaskTimes
  all = times model percent

  abbrev others : ℕ → List ℕ
  others i = tasks_of_core model (core_of model i)

  -- ---- the question

  hold_is : (i : ℕ) → asked.hold_at made i ≡ hold_with all i
  hold_is i =
      ap (λ (t : TaskDef). task_hold t) (task_is model percent i)
      ∙ greatest_mapped runnable_hold (scaled_runnable percent) (task_at model i).runnables
      ∙ sym (ap (λ (t : TaskTimes). t.hold) (times_are model percent i))

  taken_is : (j : ℕ) → asked.above_at made j ≡ above_with model all j
  taken_is j =
      ap (λ (kind : StimulusKind). record { stimulus = as_stimulus kind; time = time_of made j }) (stimulus_is model percent j)
      ∙ ap (λ (time : ℕ). record { stimulus = as_stimulus (tasks.stimulus_of model j); time = time }) (time_is model percent j)

  block_is : (i : ℕ) → asked.longest_blocker made WithOwn i ≡ greatest_by (hold_with all) (filter (may_hold model i) (others i))
  block_is i =
      ap (λ (list : List ℕ). greatest_by (asked.hold_at made) (filter (asked.may_hold made WithOwn i) list)) (others_are model percent i)
      ∙ ap (greatest_by (asked.hold_at made)) (filters_agree (asked.may_hold made WithOwn i) (may_hold model i)
      (λ j. ap (λ p. nat_le p (task_at made i).priority) (priority_is model percent j) ∙ ap (nat_le (task_at model j).priority) (priority_is model percent i)) (others i))
      ∙ greatest_agrees (asked.hold_at made) (hold_with all) hold_is (filter (may_hold model i) (others i))

  above_is : (i : ℕ) → map (asked.above_at made) (asked.numbers_above made i) ≡ map (above_with model all) (filter (is_higher model i) (others i))
  above_is i =
      ap (λ (list : List ℕ). map (asked.above_at made) (filter (asked.is_higher made i) list)) (others_are model percent i)
      ∙ ap (map (asked.above_at made)) (filters_agree (asked.is_higher made i) (is_higher model i)
      (λ j. ap (λ p. nat_lt p (task_at made j).priority) (priority_is model percent i) ∙ ap (nat_lt (task_at model i).priority) (priority_is model percent j)) (others i))
      ∙ maps_agree (asked.above_at made) (above_with model all) taken_is (filter (is_higher model i) (others i))

  by_number : (i : ℕ) → asked.question_by_number made WithOwn i ≡ question_with model all i
  by_number i =
      let time = time_is model percent i in
      let block = block_is i in
      let jitter = jitter_is model percent i in
      let deadline = deadline_is model percent i in
      let above = above_is i in
      cc

  question_is : (i : ℕ) → i < length model.tasks → question_of (system_of made) (timing_at (system_of made) i) ≡ question_with model all i
  question_is i h = asked.question_is made WithOwn i (omega (arith, h, count_kept model percent)) ∙ by_number i

  pub question_in_range : IsValid made → (i : ℕ) → i < length model.tasks → IsQuestionInRange (question_with model all i)
  question_in_range valid i h =
      subst (λ (q : Question). IsQuestionInRange q) (question_is i h) (asked.questions_in_range WithOwn made valid i (omega (arith, h, count_kept model percent)))

  -- ---- its answer

  answer_is : (i : ℕ) → i < length model.tasks → answer_at (answers_of (system_of made)) i ≡ answer_with (response_to (question_with model all i))
  unfolding answers_of
  answer_is i h =
      get_or-map (answer_to (system_of made)) (system_of made).tasks i no_timing Late (omega (arith, h, count_is made, count_kept model percent))
      ∙ ap (λ (q : Question). answer_with (response_to q)) (question_is i h)

  answers_count : length (answers_of (system_of made)) ≡ length model.tasks
  unfolding answers_of
  answers_count = length-map (system_of made).tasks (answer_to (system_of made)) ∙ count_is made ∙ count_kept model percent

  -- no task is late where none is that has these times
  pub in_time : AreTimely model all → All (λ (answer : TaskAnswer). is_late answer ≡ false) (answers_of (system_of made))
  in_time timely = All-from_get_or (λ (answer : TaskAnswer). is_late answer ≡ false) (answers_of (system_of made)) Late
      (λ i lt. ap is_late (answer_is i (omega (arith, lt, answers_count))) ∙ timely i (omega (arith, lt, answers_count)))

  timely_of : All (λ (answer : TaskAnswer). is_late answer ≡ false) (answers_of (system_of made)) → AreTimely model all
  timely_of timely i h = ap is_late (sym (answer_is i h)) ∙ timely i Late (omega (arith, h, answers_count))

  -- ---- what keeps

  -- where a percentage keeps, its tasks are timely
  pub kept_timely : Keeps model percent → AreTimely model all
  kept_timely keeps = timely_of (subst (λ (list : List TaskAnswer). All (λ (answer : TaskAnswer). is_late answer ≡ false) list) keeps.found.tasks keeps.in_time)

  requirements_are : made.requirements ≡ model.requirements
  unfolding scaled
  requirements_are = refl

  -- a model in range with no requirement keeps where its tasks are timely
  pub timely_keeps : IsValid model → IsInRange made → model.requirements ≡ [] → AreTimely model all → Keeps model percent
  timely_keeps valid in_range none timely =
      let (findings, found) = some_findings made (scaled_valid model percent valid in_range) in
      record {
        in_range = in_range;
        findings = findings;
        found = found;
        in_time = subst (λ (list : List TaskAnswer). All (λ (answer : TaskAnswer). is_late answer ≡ false) list) (sym found.tasks) (in_time timely);
        met = subst (λ (list : List Verdict). All (λ (verdict : Verdict). is_met verdict ≡ true) list)
            (sym (found.verdicts ∙ ap (map (verdict_of made findings.chains findings.exacts)) (requirements_are ∙ none)))
            (All-nil (λ (verdict : Verdict). is_met verdict ≡ true));
      }
