use Rattle.std.proofs.Common.{take, ap, ◌∙◌}
use Rattle.std.proofs.lemmas.Result.{err_from_is_err_and}
use Rattle.cl_model.specs.{Named.{core_names, kind_named}, ValidTasks.{core_check, stimulus_check, naming_checks}}
use Rattle.cl_model.proofs.FirstRefusals.{fault_of_front, fault_of_back, none_of_both}
use Rattle.cl_valid.specs.declared.names.Names.{Names}
use Rattle.cl_valid.proofs.TasksByShare.{shares_at, naming_is}
use Rattle.cl_valid.proofs.tasks.share_for.Goals as goal

pub returns-in_err-core-clause-checked : goal.returns-in_err-core-clause-checked
unfolding naming_checks
returns-in_err-core-clause-checked c =
    let p = err_from_is_err_and c.from_residual.result c.from_residual.ensures.1 in rw (p.1, p.2)
    (fault_of_front (core_check (core_names c.args.model.now) c.args.i c.args.task.now) _ c.in_err-core.field-0.0 (rw (ap (λ (n : Names). n.cores) c.requires.names) at c.in_err-core.ensures.checked))

pub returns-in_err-kind-clause-checked : goal.returns-in_err-kind-clause-checked
unfolding naming_checks
returns-in_err-kind-clause-checked c =
    let p = err_from_is_err_and c.from_residual-in_err-kind.result c.from_residual-in_err-kind.ensures.1 in rw (p.1, p.2)
    (fault_of_back _ _ c.in_err-kind.field-0.0 (rw (ap (λ (n : Names). n.cores) c.requires.names) at c.in_ok-core.ensures.checked) (fault_of_front (stimulus_check (kind_named c.args.model.now c.args.task.now.stimulus) c.args.i) _ c.in_err-kind.field-0.0 c.in_err-kind.ensures.checked))

pub returns-in_err-check_share-clause-checked : goal.returns-in_err-check_share-clause-checked
returns-in_err-check_share-clause-checked c =
    let p = err_from_is_err_and c.from_residual-in_err-check_share.result c.from_residual-in_err-check_share.ensures.1 in rw (
      p.1,
      p.2,
      naming_is c.args.model.now c.args.i c.args.task.now c.in_ok-kind.kind c.on.result.now
          (shares_at c.args.model.now
          (take c.args.i c.args.model.now.tasks) c.args.task.now.core c.in_ok-core.core c.args.shares.now c.on.result.now c.requires.shares
          (rw (ap (λ (n : Names). n.cores) c.requires.names) at c.in_ok-core.ensures.core) c.on.ensures) c.in_ok-kind.ensures.kind,
    )
    (fault_of_back _ _ c.in_err-check_share.field-0.0 (rw (ap (λ (n : Names). n.cores) c.requires.names) at c.in_ok-core.ensures.checked) (fault_of_back _ _ c.in_err-check_share.field-0.0 c.in_ok-kind.ensures.checked c.in_err-check_share.ensures))

pub returns-clause-checked : goal.returns-clause-checked
returns-clause-checked c =
    naming_is c.args.model.now c.args.i c.args.task.now c.in_ok-kind.kind c.on.result.now
    (shares_at c.args.model.now
    (take c.args.i c.args.model.now.tasks) c.args.task.now.core c.in_ok-core.core c.args.shares.now c.on.result.now c.requires.shares
    (rw (ap (λ (n : Names). n.cores) c.requires.names) at c.in_ok-core.ensures.core) c.on.ensures) c.in_ok-kind.ensures.kind
    ∙ none_of_both _ _ (rw (ap (λ (n : Names). n.cores) c.requires.names) at c.in_ok-core.ensures.checked)
    (none_of_both _ _ c.in_ok-kind.ensures.checked c.in_ok-check_share.ensures.0)
