use Rattle.std.proofs.Common.{subst, sym, ◌∙◌, List}
use Rattle.cl_model.specs.{Answers.Passes, declared.refusal.Refusal.Refusal}
use Rattle.cl_edit.proofs.PlaceLaws.{priorities_need_few}
use Rattle.cl_edit.proofs.check_priorities.check_priorities.Goals as goal

-- the priorities after these are those of the model with them
pub check_all_pairs-requires-clause-change : goal.check_all_pairs-requires-clause-change
check_all_pairs-requires-clause-change c = (c.requires.set, c.as_slice.ensures.value ∙ c.in_ok-after.ensures)

pub returns : goal.returns
returns c =
    subst (λ (refusals : List Refusal). Passes c.check_all_pairs.result refusals) (sym (priorities_need_few c.args.model.now c.requires.valid c.args.set.now)) c.check_all_pairs.ensures
