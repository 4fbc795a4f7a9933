use Rattle.std.proofs.Common.{◌++◌}
use Rattle.cl_model.specs.declared.place.Key.TheVariants as key
use Rattle.cl_model.specs.{declared.refusal.Code.TheVariants.M24, Named.runnable_names, Place.{at_key, at_sub}}
use Rattle.cl_valid.proofs.AddedNames.{AreAdded}
use Rattle.cl_edit.specs.Edited.{all_names}
use Rattle.cl_edit.proofs.check_new_task.check_runnable_names.Given as goal

-- the names so far are new, and they are added
abbrev pub invariant-loop-p : goal.invariant-loop-p
invariant-loop-p l = AreAdded M24 (λ p. at_key key.Name (at_sub p l.place)) (all_names l.model) (runnable_names l.runnables) l.p (all_names l.model ++ l.new)
