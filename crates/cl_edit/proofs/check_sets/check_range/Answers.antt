use Rattle.cl_edit.proofs.{FewAnswers.passes_as, TaskSetters.range_needs_few}
use Rattle.cl_edit.proofs.check_sets.check_range.Goals as goal

-- M36 is left to check
pub returns : goal.returns
returns c = passes_as c.check_times.result _ _ (range_needs_few c.args.model.now c.requires.valid c.args.step c.requires.step c.args.least c.args.greatest) c.check_times.ensures
