use Rattle.std.proofs.Common.{sym, ◌∙◌}
use Rattle.cl_model.specs.Groups.{no_group, groups_at}
use Rattle.cl_runs.specs.SystemOf.{system_of}
use Rattle.cl_incr.specs.Questions.{group_question}
use Rattle.cl_incr.proofs.SameQuestions.{maps_count, old_is_late, new_is_late, both_asked, groups_asked, hops_asked}
use Rattle.cl_incr.proofs.comparing.ask_the_same.Goals as goal

pub have_same_hops-requires-clause-count : goal.have_same_hops-requires-clause-count
have_same_hops-requires-clause-count c =
    maps_count (group_question (system_of c.args.old.now) c.args.old_answers.now) (group_question (system_of c.args.new.now) c.args.new_answers.now)
    (groups_at c.args.old.now c.args.before) (groups_at c.args.new.now c.args.chain) no_group no_group (c.have_same_groups.ensures.0 c.if-have_same_groups.true)

pub returns-then-have_same_groups : goal.returns-then-have_same_groups
returns-then-have_same_groups c =
    let old_timely = sym c.first_late.ensures ∙ c.in-None-None.is-0 in
    let new_timely = sym c.first_late-2.ensures ∙ c.in-None-None.is-1 in (
      λ is. both_asked c.args.old.now c.args.new.now c.args.before c.args.chain c.args.old_answers.now c.args.new_answers.now c.requires.old_answers c.requires.new_answers
          old_timely new_timely (c.have_same_groups.ensures.0 c.if-have_same_groups.true) (c.have_same_hops.ensures.0 is),
      λ asked. c.have_same_hops.ensures.1
          (hops_asked c.args.old.now c.args.new.now c.args.before c.args.chain c.args.old_answers.now c.args.new_answers.now c.requires.old_answers c.requires.new_answers
          old_timely new_timely asked),
    )

pub returns-else-have_same_groups : goal.returns-else-have_same_groups
returns-else-have_same_groups c =
    let old_timely = sym c.first_late.ensures ∙ c.in-None-None.is-0 in
    let new_timely = sym c.first_late-2.ensures ∙ c.in-None-None.is-1 in (
      λ is. let not = c.if-have_same_groups.false in absurd cc,
      λ asked. c.have_same_groups.ensures.1
          (groups_asked c.args.old.now c.args.new.now c.args.before c.args.chain c.args.old_answers.now c.args.new_answers.now c.requires.old_answers c.requires.new_answers
          old_timely new_timely asked),
    )

pub returns-in_default : goal.returns-in_default
returns-in_default c = (
  λ is. absurd cc,
  λ asked. absurd (new_is_late c.args.old.now c.args.new.now c.args.before c.args.chain c.args.old_answers.now c.args.new_answers.now c.requires.old_answers c.requires.new_answers
      c.in_default.field-0-1 (sym c.first_late-2.ensures ∙ c.in_default.is-1) asked),
)

pub returns-in_default-2 : goal.returns-in_default-2
returns-in_default-2 c = (
  λ is. absurd cc,
  λ asked. absurd (old_is_late c.args.old.now c.args.new.now c.args.before c.args.chain c.args.old_answers.now c.args.new_answers.now c.requires.old_answers c.requires.new_answers
      c.in_default.field-0-0 (sym c.first_late.ensures ∙ c.in_default.is-0) asked),
)
