use Rattle.std.proofs.Common.{◌≡◌, ◌++◌, All, take, flat_map}
use Rattle.cl_write.proofs.entries.put_all.Given as goal

-- the items so far stand there, and their names are names
abbrev pub invariant-loop-item : goal.invariant-loop-item
invariant-loop-item g l =
    (l.text ≡ l.initial.text ++ flat_map g.T.Written.printed (take l.item-index l.items)) × All g.T.Written.is_named (take l.item-index l.items)
