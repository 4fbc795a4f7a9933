use Rattle.cl_model.specs.declared.place.Key.TheVariants as key
use Rattle.cl_model.specs.declared.place.Part.TheVariants as part
use Rattle.cl_model.specs.{declared.refusal.Code.TheVariants.M24, Named.runnable_names, Place.{entry_of, at_key, at_sub}}
use Rattle.cl_valid.proofs.AddedNames.{AreAdded}
use Rattle.cl_valid.proofs.names.add_runnables.Given as goal

-- the names so far are new, and they are added
abbrev pub invariant-loop-p : goal.invariant-loop-p
invariant-loop-p l = AreAdded M24 (λ p. at_key key.Name (at_sub p (entry_of part.Task l.i))) l.fn.names (runnable_names l.runnables) l.p l.names
