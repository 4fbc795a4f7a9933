use Rattle.std.proofs.Common.{arith}
use Rattle.toml.proofs.Views.{view-Array}
use Rattle.cl_read.proofs.Documents.{members_of-items, array_too_long, array_fits}
use Rattle.cl_read.proofs.arrays.array.Goals as goal

pub returns-then-len-limit : goal.returns-then-len-limit
returns-then-len-limit g c =
    rw (c.refused.ensures, c.in-Array.is, view-Array c.in-Array.values) (array_too_long c.args.limit g.T.Member.place_in (g.T.Member.checks c.args.version) c.args.place c.in-Array.values.items (omega (arith, c.len.ensures)))

pub returns-else-len-limit : goal.returns-else-len-limit
returns-else-len-limit g c =
    rw (c.in-Array.is, view-Array c.in-Array.values, array_fits c.args.limit g.T.Member.place_in (g.T.Member.checks c.args.version) c.args.place c.in-Array.values.items (omega (arith, c.len.ensures)), members_of-items) (rw (← c.as_slice.ensures.value) c.members.ensures)
