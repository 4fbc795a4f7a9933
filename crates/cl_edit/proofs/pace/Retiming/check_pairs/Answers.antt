use Rattle.std.proofs.Common.{sym, subst}
use Rattle.cl_model.specs.{declared.model_fault.ModelFault.ModelFault, Answers.IsFaultOf}
use Rattle.cl_edit.specs.Inner.{Paces.with_retiming, Pairs.pair_checks}
use Rattle.cl_edit.proofs.RefusedTasks.{first_answers, none_refused}
use Rattle.cl_edit.proofs.pace.Retiming.check_pairs.Goals as goal

pub returns-in-Some : goal.returns-in-Some
returns-in-Some c =
    let new = with_retiming c.args.model.now c.args.self in
    subst (λ (fault : ModelFault). IsFaultOf (pair_checks c.args.fault new) fault) (sym c.refusal.ensures) (first_answers c.args.fault new c.in-Some.task c.in-Some.ensures)

pub returns-in-None : goal.returns-in-None
returns-in-None c = none_refused c.args.fault (with_retiming c.args.model.now c.args.self) c.in-None.ensures
