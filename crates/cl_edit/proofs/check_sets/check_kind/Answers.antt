use Rattle.std.proofs.Common.{List, sym, subst}
use Rattle.cl_model.specs.{declared.refusal.Refusal.Refusal, Answers.Passes}
use Rattle.cl_edit.proofs.LimitChecks.{kind_left}
use Rattle.cl_edit.proofs.check_sets.check_kind.Goals as goal

-- M27, M28, M47, M32, M33 and M42 are left to check
pub returns : goal.returns
returns c =
    subst (λ (refusals : List Refusal). Passes c.check_kind_parts.result refusals) (sym (kind_left c.args.model.now c.requires.valid c.args.stimulus c.args.kind c.requires.stimulus)) c.check_kind_parts.ensures
