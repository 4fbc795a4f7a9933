use Rattle.std.proofs.Common.{◌<◌, arith}
use Rattle.cl_edges.proofs.sure.run_surely.Goals as goal

-- the counts of both stay at 0
pub returns-clause-no_read_fault : goal.returns-clause-no_read_fault
returns-clause-no_read_fault g c = λ is.
    let (file, among, told) = c.run.ensures.kept.read_fault is in
    let (rose, others, whole) = told in
    let risen : 0 < 0 = rose (omega arith) in
    absurd (omega (arith, risen))

pub returns-clause-no_write_fault : goal.returns-clause-no_write_fault
returns-clause-no_write_fault g c = λ is.
    let risen : 0 < 0 = c.run.ensures.kept.write_fault is (omega arith) in
    absurd (omega (arith, risen))
