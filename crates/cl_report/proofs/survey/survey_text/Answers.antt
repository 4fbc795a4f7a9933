use Rattle.std.proofs.Common.{◌^◌, ◌<◌, List, rules, sym, ◌∙◌, subst}
use Rattle.std.proofs.lemmas.List.{append_assoc}
use Rattle.cl_model.specs.declared.chain.LengthKind.TheVariants.{Reaction, Age, Reduced}
use Rattle.cl_analyse.specs.declared.findings.ChainAnswer.{ChainAnswer}
use Rattle.cl_report.specs.Survey.{bound_sum, survey_text}
use Rattle.cl_report.proofs.{ReportLines.tasks_found, SmallSums.sums_fit}
use Rattle.cl_report.proofs.survey.survey_text.Goals as goal

-- the findings have an answer for each task
pub prove-unreachable-requires : goal.prove-unreachable-requires
prove-unreachable-requires c = c.if-prove.true (c.len.ensures ∙ tasks_found c.args.model.now c.args.findings.now c.requires ∙ sym c.tasks-tasks.ensures.count)

pub put_sums-requires-clause-reaction : goal.put_sums-requires-clause-reaction
put_sums-requires-clause-reaction c = subst (λ (answers : List ChainAnswer). bound_sum Reaction answers < 2 ^ 64) (sym c.as_slice-4.ensures)
    (sums_fit c.args.model.now c.args.findings.now Reaction c.tasks-tasks.ensures.valid c.requires)

pub put_sums-requires-clause-age : goal.put_sums-requires-clause-age
put_sums-requires-clause-age c = subst (λ (answers : List ChainAnswer). bound_sum Age answers < 2 ^ 64) (sym c.as_slice-4.ensures)
    (sums_fit c.args.model.now c.args.findings.now Age c.tasks-tasks.ensures.valid c.requires)

pub put_sums-requires-clause-reduced : goal.put_sums-requires-clause-reduced
put_sums-requires-clause-reduced c = subst (λ (answers : List ChainAnswer). bound_sum Reduced answers < 2 ^ 64) (sym c.as_slice-4.ensures)
    (sums_fit c.args.model.now c.args.findings.now Reduced c.tasks-tasks.ensures.valid c.requires)

pub returns : goal.returns
unfolding survey_text
returns c = search (rules, append_assoc)
