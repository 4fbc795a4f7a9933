use Rattle.std.proofs.Common.{◌≡◌, ℕ, ◌<◌, ◌≤◌, true, false, pos, ◌-ℤ◌, length, refl, sym, ap, ◌∙◌, subst, arith}
use Rattle.std.specs.Prelude.{Option, Some, None, is_some}
use Rattle.std.specs.Option.{option_map}
use Rattle.std.proofs.lemmas.Bool.{true≢false}
use Rattle.std.proofs.lemmas.Int.{ints}
use Rattle.cl_model.specs.{declared.{limits.TheConstants.MOST_TICKS, model.SystemModel.SystemModel, stimulus.StimulusKind.StimulusKind}, ByNumber.stimulus_of}
use Rattle.cl_runs.specs.{SystemOf.system_of, TaskTiming.{Timing, timing_at}, ExecutionTimes.greatest_execution}
use Rattle.cl_runs.proofs.ModelSystem.{timing_is}
use Rattle.cl_stim.specs.{declared.phase.Phase.Phase, Phase.phase_of}
use Rattle.cl_resp.specs.{declared.phased.PhasedQuestion.PhasedQuestion, Asked.suffices, ByPhase.response_by_phase, Response.Response, Worst.{less_than, within_of, IsFirstUnanswered, IsWorstWindowOf}, Inner.Phased.{asked_of, IsPhasedInRange, IsPhasedQuestionOf}}
use Rattle.cl_resp.specs.Inner.Worst.{AreCandidatesAnswered, IsLeastAfter}
use Rattle.cl_resp.proofs.{WorstCandidates.{in_bounds_of, follows_0}, WorstPlaces.held, WorstTasks.{within_below, worst_fixed, worst_other}, WorstWithin.{arrivals_lack, candidates_lack}}
use Rattle.cl_resp.proofs.worst.worst_window.Goals as goal

module _ (model : SystemModel) (task : ℕ) (known : task < length model.tasks) (question : PhasedQuestion)
    (is : IsPhasedQuestionOf (system_of model) task (greatest_execution (timing_at (system_of model) task)) question)
    (range : IsPhasedInRange question) (response : Option ℕ)
    (given : option_map (λ (settled : Response). settled.response) (response_by_phase (system_of model) task) ≡ response)
    (within : ℕ) (less : within ≡ less_than response question.beside.deadline) where
  same_within : within ≡ within_of (system_of model) task
  same_within = less ∙ ap (λ r. less_than r question.beside.deadline) (sym given)
      ∙ ap (less_than (option_map (λ (settled : Response). settled.response) (response_by_phase (system_of model) task))) is.deadline

  within_few : within ≤ MOST_TICKS
  within_few = omega (arith, same_within, within_below (system_of model) task, is.deadline, range.beside.deadline)

  module _ (kind : StimulusKind) (stimulus : kind ≡ stimulus_of model task) where
    same_kind : phase_of (timing_at (system_of model) task).pattern ≡ phase_of kind
    same_kind = ap (λ (t : Timing). phase_of t.pattern) (timing_is model task known) ∙ ap phase_of (sym stimulus)

some_phase : (found : Option Phase) → is_some found ≡ true → (phase : Phase) × (found ≡ Some phase)
some_phase None is = absurd (true≢false (sym is))
some_phase (Some phase) is = (phase, refl)

no_phase : (found : Option Phase) → is_some found ≡ false → found ≡ None
no_phase None is = refl
no_phase (Some phase) is = absurd (true≢false is)

pub first_unanswered-requires-clause-within : goal.first_unanswered-requires-clause-within
first_unanswered-requires-clause-within c =
    within_few c.args.model.now c.args.task c.requires.task c.in_ok-question.question c.in_ok-question.ensures.question c.in_ok-question.ensures.in_range
    c.args.response c.requires.response c.less_than-within.result c.less_than-within.ensures

pub least_unanswered-requires-clause-within : goal.least_unanswered-requires-clause-within
least_unanswered-requires-clause-within c =
    within_few c.args.model.now c.args.task c.requires.task c.in_ok-question.question c.in_ok-question.ensures.question c.in_ok-question.ensures.in_range
    c.args.response c.requires.response c.less_than-within.result c.less_than-within.ensures

pub returns-in-Some : goal.returns-in-Some
returns-in-Some c =
    let model = c.args.model.now in
    let question = c.in_ok-question.question in
    let same = same_within model c.args.task c.requires.task question c.in_ok-question.ensures.question c.in_ok-question.ensures.in_range
    c.args.response c.requires.response c.less_than-within.result c.less_than-within.ensures in
    let kind = same_kind model c.args.task c.requires.task question c.in_ok-question.ensures.question c.in_ok-question.ensures.in_range
    c.args.response c.requires.response c.less_than-within.result c.less_than-within.ensures c.stimulus_of.result c.stimulus_of.ensures in
    let fixed = some_phase (phase_of c.stimulus_of.result) (sym c.is_fixed.ensures ∙ c.if-is_fixed.true) in
    worst_fixed (system_of model) c.args.task question c.in_ok-question.ensures.question fixed.0 (kind ∙ fixed.1) c.in-Some.window
    (subst (λ n. IsFirstUnanswered (asked_of question) n c.in-Some.window) same c.in-Some.ensures)

pub unreachable-requires : goal.unreachable-requires
unreachable-requires c =
    let model = c.args.model.now in
    let question = c.in_ok-question.question in
    let same = same_within model c.args.task c.requires.task question c.in_ok-question.ensures.question c.in_ok-question.ensures.in_range
    c.args.response c.requires.response c.less_than-within.result c.less_than-within.ensures in
    arrivals_lack model c.ask_by_phase.ensures.valid c.args.task c.requires.task question c.in_ok-question.ensures.question
    (subst (λ n. suffices (asked_of question) n ≡ true) same c.in-None.ensures)

pub returns-in-Some-least_unanswered : goal.returns-in-Some-least_unanswered
returns-in-Some-least_unanswered c =
    let model = c.args.model.now in
    let question = c.in_ok-question.question in
    let same = same_within model c.args.task c.requires.task question c.in_ok-question.ensures.question c.in_ok-question.ensures.in_range
    c.args.response c.requires.response c.less_than-within.result c.less_than-within.ensures in
    let kind = same_kind model c.args.task c.requires.task question c.in_ok-question.ensures.question c.in_ok-question.ensures.in_range
    c.args.response c.requires.response c.less_than-within.result c.less_than-within.ensures c.stimulus_of.result c.stimulus_of.ensures in
    let other = no_phase (phase_of c.stimulus_of.result) (sym c.is_fixed.ensures ∙ c.if-is_fixed.false) in
    let start = c.in-Some-least_unanswered.start in
    let least = c.in-Some-least_unanswered.ensures in
    let bounds = in_bounds_of question c.in_ok-question.ensures.in_range start least.is_candidate in
    let here : held start ≡ start = omega (arith, ints, bounds.0, bounds.1, c.in_ok-question.ensures.in_range.short) in
    subst (λ s. IsWorstWindowOf (system_of model) c.args.task (record { arrival = s; start = s })) (sym here)
    (worst_other (system_of model) c.args.task question c.in_ok-question.ensures.question (kind ∙ other) start c.in_ok-question.ensures.in_phase
    (follows_0 question c.in_ok-question.ensures.in_range)
    (subst (λ n. IsLeastAfter question n (pos 0 -ℤ pos 1) start) same least))

pub unreachable-requires-in-None-least_unanswered : goal.unreachable-requires-in-None-least_unanswered
unreachable-requires-in-None-least_unanswered c =
    let model = c.args.model.now in
    let question = c.in_ok-question.question in
    let same = same_within model c.args.task c.requires.task question c.in_ok-question.ensures.question c.in_ok-question.ensures.in_range
    c.args.response c.requires.response c.less_than-within.result c.less_than-within.ensures in
    let kind = same_kind model c.args.task c.requires.task question c.in_ok-question.ensures.question c.in_ok-question.ensures.in_range
    c.args.response c.requires.response c.less_than-within.result c.less_than-within.ensures c.stimulus_of.result c.stimulus_of.ensures in
    let other = no_phase (phase_of c.stimulus_of.result) (sym c.is_fixed.ensures ∙ c.if-is_fixed.false) in
    candidates_lack model c.ask_by_phase.ensures.valid c.args.task c.requires.task question c.in_ok-question.ensures.question (kind ∙ other)
    c.in_ok-question.ensures.in_range
    (subst (λ n. AreCandidatesAnswered question n (pos 0 -ℤ pos 1)) same c.in-None-least_unanswered.ensures)
