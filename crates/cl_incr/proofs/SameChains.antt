-- A chain whose groups stay as those of a chain of the old model asks what that asked.
use Rattle.std.proofs.Common.{◌≡◌, ℕ, ◌+◌, ◌<◌, inl, inr, Bool, cond, eqb, not, ◌&&◌, ◌==◌, nat_lt, List, length, refl, sym, ap, ◌∙◌, arith, Some, None}
use Rattle.std.specs.Prelude.{Option}
use Rattle.std.proofs.lemmas.Bool.{eq-eqb}
use Rattle.std.proofs.lemmas.Bool.Decides.{eqb_tells}
use Rattle.std.proofs.lemmas.List.{get_or_default}
use Rattle.cl_model.specs.{declared.{model.SystemModel.SystemModel, group.Group.Group}, ByNumber.chain_at, Groups.{no_group, group_at, steps_of, groups_at}, Kinds.is_timed, Validity.IsValid}
use Rattle.cl_runs.specs.{SystemOf.system_of, TaskTiming.{Timing, timing_at}}
use Rattle.cl_runs.proofs.ModelSystem.{count_is, system_sound}
use Rattle.cl_comm.specs.Windows.{spot_at}
use Rattle.cl_hop.specs.{Bounds.Lengths, Hops.{group_timing, saves}}
use Rattle.cl_bound.specs.{declared.answer.TaskAnswer.TaskAnswer, Answers.{answers_of, answer_at, is_late, response_in, NoneIsLate}, Bounds.{settled_timing, bounds_of}}
use Rattle.cl_analyse.specs.{declared.findings.ChainAnswer.TheVariants.Bounds, ChainAnswers.{first_late, chain_answer, chain_answer_of}}
use Rattle.cl_analyse.proofs.FirstLate.{settled_groups, none_late}
use Rattle.cl_incr.specs.{declared.question.{GroupQuestion.GroupQuestion, HopLine.TheVariants.{SameTask, Saving, Plain}}, Questions.{group_question, hop_bounded_by, hop_lines, chain_question}, Inner.{Kept.AreBothAsked, News.HasBounds, Standing.{StaysGroup, StayGroups}}}
use Rattle.cl_incr.proofs.{GroupQuestions.{asked, AskTheSame}, SameQuestions.{same_maps, same_hops, both_asked}}

-- ---- groups and hops

abbrev asked_by : (first last : ℕ) → Timing → TaskAnswer → GroupQuestion
asked_by first last timing answer = record {
  pattern = timing.pattern;
  deadline = timing.deadline;
  access = timing.access;
  before = (spot_at timing first).before;
  after = (spot_at timing last).after;
  response = response_in answer;
}

abbrev saves_by : (writer reader : Timing) → Bool
saves_by writer reader =
    (writer.core == reader.core) && (nat_lt reader.priority writer.priority && (not (is_timed writer.access) && not (is_timed reader.access)))

-- numbers of two pairs, which are equal together
same_test : (a b x y : ℕ) → (a ≡ b → x ≡ y) → (x ≡ y → a ≡ b) → eqb a b ≡ eqb x y
same_test a b x y on back = elim (eqb_tells a b) [
  | inl equal ↦ equal.0 ∙ sym (eq-eqb x y (on equal.1))
  | inr other ↦ elim (eqb_tells x y) [
    | inl equal ↦ absurd (other.1 (back equal.1))
    | inr apart ↦ other.0 ∙ sym apart.0
  ]
]

-- two tasks of a valid model with the same timing are one
one_timed : (model : SystemModel) → IsValid model → (one other : ℕ) → one < length model.tasks → other < length model.tasks
    → timing_at (system_of model) one ≡ timing_at (system_of model) other → one ≡ other
one_timed model valid one other known within same =
    (system_sound model valid).distinct one other (omega (arith, known, count_is model)) (omega (arith, within, count_is model))
    (ap (λ (t : Timing). t.core) same) (ap (λ (t : Timing). t.priority) same)

module _ (old new : SystemModel) (old_valid : IsValid old) (new_valid : IsValid new) where
  asked_same : (one other : Group) → StaysGroup old new one other → asked (system_of old) one ≡ asked (system_of new) other
  unfolding group_question
  asked_same one other stays =
      ap (λ (timing : Timing). asked_by one.first one.last timing (answer_at (answers_of (system_of old)) one.task)) stays.stands.timing
      ∙ ap (λ (answer : TaskAnswer). asked_by one.first one.last (timing_at (system_of new) other.task) answer) stays.stands.answer
      ∙ ap (λ first. asked_by first one.last (timing_at (system_of new) other.task) (answer_at (answers_of (system_of new)) other.task)) stays.first
      ∙ ap (λ last. asked_by other.first last (timing_at (system_of new) other.task) (answer_at (answers_of (system_of new)) other.task)) stays.last

  module _ (writer reader writes reads : Group) (from : StaysGroup old new writer writes) (to : StaysGroup old new reader reads) where
    saves_same : saves (settled_timing (system_of old) writer) (settled_timing (system_of old) reader)
        ≡ saves (settled_timing (system_of new) writes) (settled_timing (system_of new) reads)
    unfolding group_timing
    saves_same =
        ap (λ (timing : Timing). saves_by timing (timing_at (system_of old) reader.task)) from.stands.timing
        ∙ ap (λ (timing : Timing). saves_by (timing_at (system_of new) writes.task) timing) to.stands.timing

    -- they are of one task where those before were
    apart_same : eqb writer.task reader.task ≡ eqb writes.task reads.task
    apart_same = same_test writer.task reader.task writes.task reads.task
        (λ same. one_timed new new_valid writes.task reads.task from.is_known to.is_known
        (sym from.stands.timing ∙ ap (timing_at (system_of old)) same ∙ to.stands.timing))
        (λ same. one_timed old old_valid writer.task reader.task from.was_known to.was_known
        (from.stands.timing ∙ ap (timing_at (system_of new)) same ∙ sym to.stands.timing))

    line_same : hop_bounded_by (system_of old) writer reader ≡ hop_bounded_by (system_of new) writes reads
    line_same =
        ap (λ (b : Bool). cond b SameTask (cond (saves (settled_timing (system_of old) writer) (settled_timing (system_of old) reader)) Saving Plain)) apart_same
        ∙ ap (λ (b : Bool). cond (eqb writes.task reads.task) SameTask (cond b Saving Plain)) saves_same

  -- ---- a chain

  module _ (was chain : ℕ) (stay : StayGroups old new (groups_at old was) (groups_at new chain)) where
    abbrev olds : List Group
    olds = groups_at old was

    abbrev news : List Group
    news = groups_at new chain

    ask_same : AskTheSame (system_of old) (system_of new) olds news
    ask_same =
        same_maps (asked (system_of old)) (asked (system_of new)) olds news no_group no_group stay.count
        (λ k within. asked_same (group_at olds k) (group_at news k) (stay.each k (omega (arith, within, stay.count))))

    lines_same : hop_lines (system_of old) olds ≡ hop_lines (system_of new) news
    lines_same =
        same_hops (system_of old) (system_of new) olds news stay.count
        (λ k within. line_same (group_at olds k) (group_at olds (k + 1)) (group_at news k) (group_at news (k + 1))
        (stay.each k (omega (arith, within, stay.count))) (stay.each (k + 1) (omega (arith, within, stay.count))))

    still_timely : NoneIsLate (answers_of (system_of old)) olds → NoneIsLate (answers_of (system_of new)) news
    still_timely timely k d within =
        let before : k < length olds = omega (arith, within, stay.count) in
        ap (λ (g : Group). is_late (answer_at (answers_of (system_of new)) g.task)) (get_or_default news k d no_group within)
        ∙ sym (ap is_late (stay.each k within).stands.answer)
        ∙ timely k no_group before

    -- a chain with bounds has no late task
    timely_where_bounded : (late : Option ℕ) (own bounds : Lengths) → chain_answer late own ≡ Bounds bounds → late ≡ None
    timely_where_bounded None own bounds is = refl
    timely_where_bounded (Some task) own bounds is = absurd cc

    was_timely : HasBounds (chain_answer_of old (chain_at old was)) → first_late (answers_of (system_of old)) (steps_of old (chain_at old was)) ≡ None
    unfolding chain_answer_of
    was_timely has =
        timely_where_bounded (first_late (answers_of (system_of old)) (steps_of old (chain_at old was))) (bounds_of (system_of old) olds) has.0 has.1

    -- both have one question
    pub both_ask : HasBounds (chain_answer_of old (chain_at old was)) → AreBothAsked (chain_question old was) (chain_question new chain)
    both_ask has =
        let timely = was_timely has in
        both_asked old new was chain (answers_of (system_of old)) (answers_of (system_of new)) refl refl timely
        (none_late (answers_of (system_of new)) new (chain_at new chain)
        (still_timely (settled_groups (answers_of (system_of old)) old (chain_at old was) timely)))
        ask_same lines_same
