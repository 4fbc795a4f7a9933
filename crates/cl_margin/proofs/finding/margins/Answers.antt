use Rattle.std.proofs.Common.{length, ap, ◌∙◌}
use Rattle.std.proofs.lemmas.Result.{IfOk-weaker}
use Rattle.cl_tight.specs.declared.findings.TightFindings.{TightFindings}
use Rattle.cl_margin.specs.declared.whose.Whose.TheVariants.{EveryTask, OneTask}
use Rattle.cl_margin.proofs.{MetByBounds.verdicts_found, StaysMet.kept_below}
use Rattle.cl_margin.proofs.finding.margins.Goals as goal

pub allowed_of-requires : goal.allowed_of-requires
allowed_of-requires g c = record {
  one_a_requirement = ap length c.as_slice.ensures ∙ ap (λ (f : TightFindings). length f.verdicts) c.requires ∙ verdicts_found c.args.model.now;
}

pub returns-clause-all : goal.returns-clause-all
returns-clause-all g c = IfOk-weaker c.find_all.result _ _
    (λ margins are. kept_below c.args.model.now c.in_ok-allowed.ensures.valid EveryTask margins.all.percent are.all.best.kept) c.find_all.ensures

pub returns-clause-each : goal.returns-clause-each
returns-clause-each g c = IfOk-weaker c.find_all.result _ _
    (λ margins are task h. kept_below c.args.model.now c.in_ok-allowed.ensures.valid (OneTask task) _ (are.tasks task h).best.kept) c.find_all.ensures
