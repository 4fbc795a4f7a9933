-- The answers for tasks and for chains are those to their questions.
use Rattle.std.proofs.Common.{◌≡◌, ℕ, ◌<◌, Bool, true, false, length, refl, sym, ap, subst, ◌∙◌, Option, Some, None}
use Rattle.cl_model.specs.{declared.model.SystemModel.SystemModel, ByNumber.chain_at, Groups.{steps_of, groups_at}, Validity.IsValid}
use Rattle.cl_model.proofs.GroupFacts.{groups_at_some}
use Rattle.cl_runs.specs.{SystemOf.system_of, TaskTiming.timing_at}
use Rattle.cl_hop.specs.Bounds.{Lengths}
use Rattle.cl_resp.specs.Response.{response_to}
use Rattle.cl_bound.specs.{Answers.{answer_with, answer_to, answers_of}, Bounds.bounds_of}
use Rattle.cl_exact.specs.{TimedPeriodic.is_timed_periodic_chain, Rhythms.rhythms}
use Rattle.cl_exact.proofs.SameRhythms.{same_timed, same_limit, within_also, past_also, lengths_also}
use Rattle.cl_analyse.specs.{declared.findings.{ChainAnswer.TheVariants.{Bounds, Late}, ExactAnswer.{ExactAnswer, TheVariants.{Exact, Past, NotTimed, ChainLate}}}, ChainAnswers.{first_late, chain_answer, chain_answer_of, IsTimelyAnswer, IsExactAnswer}, Headline.question_at}
use Rattle.cl_incr.specs.Questions.{hop_lines, ChainQuestion, question_of_groups, unless_late, chain_question}
use Rattle.cl_incr.proofs.GroupQuestions.{AskTheSame, same_rhythms, same_bounds}

-- ---- tasks

pub same_answers : (old new : SystemModel) → (before task : ℕ) → question_at old before ≡ question_at new task
    → answer_to (system_of old) (timing_at (system_of old) before) ≡ answer_to (system_of new) (timing_at (system_of new) task)
same_answers old new before task same = ap (λ question. answer_with (response_to question)) same

-- ---- chains

-- what a question says: no task is late, and what the groups and the hops are
record Asks (model : SystemModel) (chain : ℕ) (question : ChainQuestion) : Type 0 where
  timely : first_late (answers_of (system_of model)) (steps_of model (chain_at model chain)) ≡ None
  is : question_of_groups (system_of model) (groups_at model chain) ≡ question

not_late : (late : Option ℕ) (asked question : ChainQuestion) → unless_late late asked ≡ Some question → (late ≡ None) × (asked ≡ question)
not_late None asked question is = (refl, cc)
not_late (Some task) asked question is = absurd cc

asks : (model : SystemModel) (chain : ℕ) (question : ChainQuestion) → chain_question model chain ≡ Some question → Asks model chain question
unfolding chain_question
asks model chain question is =
    let parts = not_late (first_late (answers_of (system_of model)) (steps_of model (chain_at model chain)))
    (question_of_groups (system_of model) (groups_at model chain)) question is in
    record { timely = parts.0; is = parts.1 }

module _ (old new : SystemModel) (before chain : ℕ) (question : ChainQuestion) (was : Asks old before question) (is : Asks new chain question) where
  same_question : question_of_groups (system_of old) (groups_at old before) ≡ question_of_groups (system_of new) (groups_at new chain)
  same_question = was.is ∙ sym is.is

  ask_the_same : AskTheSame (system_of old) (system_of new) (groups_at old before) (groups_at new chain)
  ask_the_same = ap (λ (q : ChainQuestion). q.groups) same_question

  same_lines : hop_lines (system_of old) (groups_at old before) ≡ hop_lines (system_of new) (groups_at new chain)
  same_lines = ap (λ (q : ChainQuestion). q.hops) same_question

  bounds_same : bounds_of (system_of old) (groups_at old before) ≡ bounds_of (system_of new) (groups_at new chain)
  bounds_same = same_bounds (system_of old) (system_of new) (groups_at old before) (groups_at new chain) ask_the_same same_lines

  rhythms_same : rhythms (system_of old) (groups_at old before) ≡ rhythms (system_of new) (groups_at new chain)
  rhythms_same = same_rhythms (system_of old) (system_of new) (groups_at old before) (groups_at new chain) ask_the_same

  timed_same : is_timed_periodic_chain old before ≡ is_timed_periodic_chain new chain
  timed_same = same_timed (system_of old) (system_of new) (groups_at old before) (groups_at new chain) rhythms_same

  timely_also : 0 < length (groups_at old before) → (timed : Bool) (answer : ExactAnswer) → IsTimelyAnswer old before timed answer
      → IsTimelyAnswer new chain timed answer
  timely_also some false answer found = found
  timely_also some true (Exact lengths) found = (
    within_also (system_of old) (system_of new) (groups_at old before) (groups_at new chain) rhythms_same some found.0,
    lengths_also (system_of old) (system_of new) (groups_at old before) (groups_at new chain) rhythms_same lengths found.1,
  )
  timely_also some true (Past limit) found = (
    past_also (system_of old) (system_of new) (groups_at old before) (groups_at new chain) rhythms_same some found.0,
    found.1 ∙ same_limit (system_of old) (system_of new) (groups_at old before) (groups_at new chain) rhythms_same some,
  )
  timely_also some true NotTimed found = absurd found
  timely_also some true ChainLate found = absurd found

-- a chain with a question has bounds
bounded : (model : SystemModel) (chain : ℕ) (question : ChainQuestion) → Asks model chain question
    → chain_answer_of model (chain_at model chain) ≡ Bounds (bounds_of (system_of model) (groups_at model chain))
unfolding chain_answer_of
bounded model chain question is = ap (λ late. chain_answer late (bounds_of (system_of model) (groups_at model chain))) is.timely

pub bounded_where_asked : (model : SystemModel) → (chain : ℕ) (question : ChainQuestion) → chain_question model chain ≡ Some question
    → chain_answer_of model (chain_at model chain) ≡ Bounds (bounds_of (system_of model) (groups_at model chain))
bounded_where_asked model chain question is = bounded model chain question (asks model chain question is)

-- and one without a question is late
late_with : (late : Option ℕ) (asked : ChainQuestion) (bounds : Lengths) → unless_late late asked ≡ None
    → (task : ℕ) × (chain_answer late bounds ≡ Late task)
late_with None asked bounds is = absurd cc
late_with (Some task) asked bounds is = (task, refl)

pub late_where_not_asked : (model : SystemModel) → (chain : ℕ) → chain_question model chain ≡ None
    → (task : ℕ) × (chain_answer_of model (chain_at model chain) ≡ Late task)
unfolding chain_question chain_answer_of
late_where_not_asked model chain is =
    late_with (first_late (answers_of (system_of model)) (steps_of model (chain_at model chain)))
    (question_of_groups (system_of model) (groups_at model chain)) (bounds_of (system_of model) (groups_at model chain)) is

-- ---- equal questions

pub bounds_of_same : (old new : SystemModel) → (before chain : ℕ) (question : ChainQuestion)
    → chain_question old before ≡ Some question → chain_question new chain ≡ Some question
    → bounds_of (system_of old) (groups_at old before) ≡ bounds_of (system_of new) (groups_at new chain)
bounds_of_same old new before chain question was is =
    bounds_same old new before chain question (asks old before question was) (asks new chain question is)

pub chain_answers_same : (old new : SystemModel) → (before chain : ℕ) (question : ChainQuestion)
    → chain_question old before ≡ Some question → chain_question new chain ≡ Some question
    → chain_answer_of old (chain_at old before) ≡ chain_answer_of new (chain_at new chain)
chain_answers_same old new before chain question was is =
    bounded old before question (asks old before question was)
    ∙ ap Bounds (bounds_of_same old new before chain question was is)
    ∙ sym (bounded new chain question (asks new chain question is))

pub exact_answers_same : (old new : SystemModel) → IsValid old → (before chain : ℕ) → before < length old.chains
    → (question : ChainQuestion) → chain_question old before ≡ Some question → chain_question new chain ≡ Some question
    → (answer : ExactAnswer) → IsExactAnswer old before (chain_answer_of old (chain_at old before)) answer
    → IsExactAnswer new chain (chain_answer_of new (chain_at new chain)) answer
exact_answers_same old new valid before chain within question was is answer found =
    let asked = asks old before question was in
    let asks = asks new chain question is in
    let timely : IsTimelyAnswer old before (is_timed_periodic_chain old before) answer
    = subst (λ bounds. IsExactAnswer old before bounds answer) (bounded old before question asked) found in
    let moved : IsTimelyAnswer new chain (is_timed_periodic_chain old before) answer
    = timely_also old new before chain question asked asks (groups_at_some old valid before within) (is_timed_periodic_chain old before) answer timely in
    subst (λ bounds. IsExactAnswer new chain bounds answer) (sym (bounded new chain question asks))
    (subst (λ timed. IsTimelyAnswer new chain timed answer) (timed_same old new before chain question asked asks) moved)
