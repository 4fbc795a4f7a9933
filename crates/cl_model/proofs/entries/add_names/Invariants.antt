use Rattle.std.proofs.Common.{◌≡◌, ◌++◌, map, take}
use Rattle.cl_model.proofs.entries.add_names.Given as goal

-- the names so far are added
abbrev pub invariant-loop-entry : goal.invariant-loop-entry
invariant-loop-entry g l = l.names ≡ l.fn.names ++ take l.entry-index (map g.T.Named.name_of l.entries)
