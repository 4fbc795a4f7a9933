use Rattle.std.proofs.Common.{◌≡◌, ◌++◌, take, flat_map}
use Rattle.std.specs.Prelude.{codes}
use Rattle.cl_advice.proofs.known.put_names.Given as goal

-- the names so far stand there
abbrev pub invariant-loop-entry : goal.invariant-loop-entry
invariant-loop-entry g l = l.text ≡ l.initial.text ++ flat_map (λ entry. codes " " ++ g.T.Named.name_of entry) (take l.entry-index l.entries)
