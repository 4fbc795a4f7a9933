use Rattle.std.proofs.Common.{sym, ap, ◌∙◌, arith, below_more, refl}
use Rattle.cl_model.specs.Groups.{no_group, groups_at}
use Rattle.cl_runs.specs.SystemOf.{system_of}
use Rattle.cl_incr.specs.Questions.{group_question}
use Rattle.cl_incr.proofs.{SameQuestions.{same_maps, maps_count, maps_at}, comparing.have_same_groups.Goals.{then-group_count-count-via-then-group_count-count, then-group_count-count-via-else-group_count-count+then-have_other_responses}}
use Rattle.cl_incr.proofs.comparing.have_same_groups.Goals as goal

pub returns-then-group_count-count : goal.returns-then-group_count-count
returns-then-group_count-count c = (
  λ is. absurd cc,
  λ same. elim c.then-group_count-count.branch [
    | then-group_count-count-via-then-group_count-count w ↦ absurd (omega (
      arith,
      w.if-group_count-count.true,
      c.group_count.ensures.count,
      c.group_count-count.ensures.count,
      maps_count (group_question (system_of c.args.old.now) c.args.old_answers.now) (group_question (system_of c.args.new.now) c.args.new_answers.now)
          (groups_at c.args.old.now c.args.before) (groups_at c.args.new.now c.args.chain) no_group no_group same,
    ))
    | then-group_count-count-via-else-group_count-count+then-have_other_responses w ↦ absurd (w.have_other_responses.ensures w.if-have_other_responses.true same)
  ],
)

pub loop-place-preserved : goal.loop-place-preserved
loop-place-preserved c =
    below_more _ _ c.loop-place.invariant
    (ap (group_question (system_of c.args.old.now) c.args.old_answers.now) (sym c.group.ensures.group)
    ∙ sym c.group_question-old_group.ensures
    ∙ c.is_same_group.ensures.0 c.if-not-is_same_group.false
    ∙ c.group_question-new_group.ensures
    ∙ ap (group_question (system_of c.args.new.now) c.args.new_answers.now) c.group-in-loop-place.ensures.group)

pub returns-then-not-is_same_group : goal.returns-then-not-is_same_group
returns-then-not-is_same_group c = (
  λ is. absurd cc,
  λ same.
      let here = maps_at (group_question (system_of c.args.old.now) c.args.old_answers.now) (group_question (system_of c.args.new.now) c.args.new_answers.now)
      (groups_at c.args.old.now c.args.before) (groups_at c.args.new.now c.args.chain) no_group no_group same c.loop-place.place
      (omega (arith, c.loop-place-test.true, c.if-group_count-count.false, c.group_count.ensures.count)) in
      sym c.if-not-is_same_group.true
      ∙ c.is_same_group.ensures.1 (c.group_question-old_group.ensures
      ∙ ap (group_question (system_of c.args.old.now) c.args.old_answers.now) c.group.ensures.group
      ∙ here
      ∙ ap (group_question (system_of c.args.new.now) c.args.new_answers.now) (sym c.group-in-loop-place.ensures.group)
      ∙ sym c.group_question-new_group.ensures),
)

pub returns : goal.returns
returns c = (
  λ is. same_maps (group_question (system_of c.args.old.now) c.args.old_answers.now) (group_question (system_of c.args.new.now) c.args.new_answers.now)
      (groups_at c.args.old.now c.args.before) (groups_at c.args.new.now c.args.chain) no_group no_group
      (omega (arith, c.if-group_count-count.false, c.group_count.ensures.count, c.group_count-count.ensures.count))
      (λ k within. c.loop-place.invariant k (omega (arith, within, c.loop-place-test.false, c.if-group_count-count.false, c.group_count.ensures.count))),
  λ same. refl,
)
