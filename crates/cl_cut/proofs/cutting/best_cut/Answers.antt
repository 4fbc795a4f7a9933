use Rattle.std.proofs.Common.{List, sym, ◌∙◌, subst}
use Rattle.cl_model.specs.declared.group.Group.{Group}
use Rattle.cl_runs.specs.SystemOf.{system_of}
use Rattle.cl_cut.specs.{Cuts.IsBestCut, Inner.Rears.AreSettledGroups}
use Rattle.cl_cut.proofs.ChainValues.{best_safe, best_no_worse, chain_can_be_cut}
use Rattle.cl_cut.proofs.cutting.best_cut.Goals as goal

pub returns-in_ok-best-in-None-clause-safe : goal.returns-in_ok-best-in-None-clause-safe
returns-in_ok-best-in-None-clause-safe g c =
    let best = c.in_ok-best-in-None.best in
    best_safe c.args.model.now c.chains-chains.ensures.valid c.args.chain c.requires.is_chain
    (sym (c.late_task.ensures c.args.model.now (c.as_slice.ensures ∙ c.requires.findings.chains)) ∙ c.in-None.is)
    best.pieces best.cost
    (subst (λ (own : List Group). IsBestCut (system_of c.args.model.now) own best.pieces best.cost) c.groups-groups.ensures.groups
    c.in_ok-best-in-None.ensures)

pub returns-in_ok-best-in-None-clause-no_worse : goal.returns-in_ok-best-in-None-clause-no_worse
returns-in_ok-best-in-None-clause-no_worse g c =
    let best = c.in_ok-best-in-None.best in
    best_no_worse c.args.model.now c.chains-chains.ensures.valid c.args.chain c.requires.is_chain
    (sym (c.late_task.ensures c.args.model.now (c.as_slice.ensures ∙ c.requires.findings.chains)) ∙ c.in-None.is)
    best.pieces best.cost
    (subst (λ (own : List Group). IsBestCut (system_of c.args.model.now) own best.pieces best.cost) c.groups-groups.ensures.groups
    c.in_ok-best-in-None.ensures)

pub best_of-requires-clause-groups : goal.best_of-requires-clause-groups
best_of-requires-clause-groups g c =
    subst (AreSettledGroups c.args.model.now) (sym c.groups-groups.ensures.groups)
    (chain_can_be_cut c.args.model.now c.chains-chains.ensures.valid c.args.chain c.requires.is_chain
    (sym (c.late_task.ensures c.args.model.now (c.as_slice.ensures ∙ c.requires.findings.chains)) ∙ c.in-None.is))
