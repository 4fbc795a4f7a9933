use Rattle.std.proofs.Common.{map}
use Rattle.cl_model.specs.declared.place.Key.TheVariants as key
use Rattle.cl_model.specs.Place.{entry_of, at_key}
use Rattle.cl_valid.proofs.AddedNames.{AreAdded}
use Rattle.cl_valid.proofs.names.add_entries.Given as goal

-- the names so far are new, and they are added
abbrev pub invariant-loop-i : goal.invariant-loop-i
invariant-loop-i g l = AreAdded l.code (λ i. at_key key.Name (entry_of l.section i)) l.fn.names (map g.T.Named.name_of l.entries) l.i l.names
