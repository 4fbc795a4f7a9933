-- What the parts of a task and the groups of a chain add up to.
use Rattle.std.proofs.Common.{◌≡◌, ℕ, ◌+◌, ◌-◌, ◌*◌, ◌<◌, List, [], ◌∷◌, length, map, refl, sym, ap, ◌∙◌, arith}
use Rattle.std.specs.List.{filter, sum_by}
use Rattle.std.proofs.lemmas.Int.{ints}
use Rattle.std.proofs.lemmas.List.Sums.{sum_by-cons}
use Rattle.cl_model.specs.{declared.model.SystemModel.SystemModel, Validity.IsValid}
use Rattle.cl_runs.specs.{TaskTiming.{Timing, System, timing_at}, SystemOf.system_of, Priorities.is_above, ExecutionTimes.greatest_execution}
use Rattle.cl_runs.proofs.ModelSystem.{count_is, system_sound}
use Rattle.cl_stim.specs.{AnyStimulus.kind_of, Releases.most_releases}
use Rattle.cl_stim.proofs.StimulusKinds.{kind_of-as_stimulus}
use Rattle.cl_hop.specs.{declared.group_timing.GroupTiming.GroupTiming, Bounds.{Lengths, AreBoundsOf}}
use Rattle.cl_resp.specs.{declared.question.{Above.Above, Question.Question}, Question.{taken_by, question_of}, Response.{Response, demand}}
use Rattle.cl_resp.proofs.{SettledTasks.tasks_take_time, Windows.{window_is_fixpoint, no_window_holds}}
use Rattle.cl_bound.specs.{declared.answer.TaskAnswer.TheVariants.{Settled, Late}, Answers.{answers_of, answer_at}}
use Rattle.cl_explain.specs.{Parts.{time_above, time_over}, Promises.{sum_of_parts, AddUpToResponse, AddUpPastDeadline, AddUpToBounds}}
use Rattle.cl_explain.proofs.{SettledWindows.{settled_window, settled_response, late_window}, AnswersByNumber.answer_is}

-- what the tasks above a task take, as the demand counts it
abbrev taken_in : (width : ℕ) → Above → ℕ
taken_in width above = most_releases (kind_of above.stimulus) width * above.time

above_same : (width : ℕ) (others : List Timing) → sum_by (taken_in width) (map taken_by others) ≡ sum_by (time_above width) others
above_same width [] = refl
above_same width (other ∷ others) =
    sum_by-cons (taken_in width) (taken_by other) (map taken_by others)
    ∙ ap (λ n. n + sum_by (taken_in width) (map taken_by others)) (ap (λ kind. most_releases kind width * greatest_execution other) (kind_of-as_stimulus other.pattern))
    ∙ ap (λ n. time_above width other + n) (above_same width others)
    ∙ sym (sum_by-cons (time_above width) other others)

-- the parts of a task are its jitter and its demand
pub parts_are_demand : (system : System) (task width : ℕ)
    → sum_of_parts system task width ≡ (question_of system (timing_at system task)).jitter + demand (question_of system (timing_at system task)) width
unfolding demand question_of
parts_are_demand system task width =
    let timing = timing_at system task in
    let question = question_of system timing in
    let same = above_same width (filter (is_above timing) system.tasks) in
    ap (λ n. question.jitter + question.block + question.time + n) (sym same)
    ∙ regrouped question.jitter question.block question.time (sum_by (taken_in width) (map taken_by (filter (is_above timing) system.tasks)))
  where
    regrouped : (a b c d : ℕ) → a + b + c + d ≡ a + (b + c + d)
    regrouped a b c d = omega arith

module _ (model : SystemModel) (valid : IsValid model) (task : ℕ) (h : task < length model.tasks) where
  abbrev system : System
  system = system_of model

  abbrev question : Question
  question = question_of system (timing_at system task)

  -- to its response
  pub settled_parts : (response : Response) → answer_at (answers_of system) task ≡ Settled response → AddUpToResponse system task response
  settled_parts response is =
      let answered = sym is ∙ answer_is model task h in
      let window = settled_window question response answered in
      let some = tasks_take_time system (system_sound model valid) task (omega (arith, h, count_is model)) in
      let fixpoint = (window_is_fixpoint question some response.window window).fixpoint in
      parts_are_demand system task response.window ∙ ap (λ n. question.jitter + n) fixpoint ∙ sym (settled_response question response answered)

  -- to its deadline and more
  pub late_parts : answer_at (answers_of system) task ≡ Late → AddUpPastDeadline system task (time_over question)
  unfolding question_of
  late_parts is =
      let none = late_window question (sym is ∙ answer_is model task h) in
      let before = ((system_sound model valid).tasks task (omega (arith, h, count_is model))).above_jitter in
      let width = question.deadline - question.jitter in
      let more = no_window_holds question none width (omega (arith, before)) (omega arith) in
      record {
        some = omega (arith, more);
        sum = parts_are_demand system task width ∙ past question.jitter question.deadline (demand question width) (omega (arith, before)) more;
      }
    where
      past : (jitter deadline needed : ℕ) → jitter < deadline → deadline - jitter < needed → jitter + needed ≡ deadline + (needed - (deadline - jitter))
      past jitter deadline needed h more = omega (arith, h, more)

-- those of the groups of a chain to its bounds
pub groups_sum : (first : GroupTiming) (later : List GroupTiming) (bounds : Lengths) → AreBoundsOf (first ∷ later) bounds → AddUpToBounds first later bounds
groups_sum first later bounds are = record {
  reaction = are.reaction;
  reduced = are.reduced;
  age = omega (arith, ints, are.age, are.reduced);
}
