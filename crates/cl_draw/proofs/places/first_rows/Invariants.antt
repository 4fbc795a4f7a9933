use Rattle.std.proofs.Common.{◌≡◌, ◌+◌, map, take}
use Rattle.cl_draw.specs.declared.places.TheConstants.{HEAD}
use Rattle.cl_draw.proofs.places.first_rows.Given as goal

abbrev pub invariant-loop-top : goal.invariant-loop-top
invariant-loop-top l = l.rows.items ≡ map (λ top. top + HEAD) (take l.top-index l.tops)
