use Rattle.std.proofs.Common.{ap, ◌∙◌}
use Rattle.cl_model.specs.declared.{model_fault.ModelFault.TheVariants.Refused, place.Place.Place, refusal.{Code.TheVariants.M29, Refusal.Refusal}}
use Rattle.cl_edit.proofs.MovedTasks.{move_passes, move_nowhere}
use Rattle.cl_edit.proofs.check_move.check_move.Goals as goal

-- where a core has the name, M31, M34 and M42 are left to check
pub returns-in-Some : goal.returns-in-Some
returns-in-Some c =
    move_passes c.args.model.now c.requires.valid c.args.core.now c.args.task c.in-Some.core c.args.priority c.check_moved.result c.in-Some.ensures.number c.check_moved.ensures

-- and where none has it, M29 refuses
pub returns-in-None : goal.returns-in-None
returns-in-None c =
    move_nowhere c.args.model.now c.requires.valid c.args.core.now c.args.task c.args.priority c.refused.result c.requires.task c.in-None.ensures.number
    (c.refused.ensures ∙ ap (λ (p : Place). Refused (let r : Refusal = record { code = M29; place = p } in r)) c.task_key.ensures)
