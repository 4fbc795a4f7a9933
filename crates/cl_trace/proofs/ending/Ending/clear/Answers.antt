use Rattle.std.proofs.Common.{◌≤◌, length, arith}
use Rattle.std.proofs.Math.ListN.{drop_of_length-le}
use Rattle.cl_trace.proofs.ending.Ending.clear.Goals as goal

pub returns : goal.returns
returns c = let whole : length c.self.inside.bytes ≤ 256 = omega arith in drop_of_length-le c.self.inside.bytes whole
