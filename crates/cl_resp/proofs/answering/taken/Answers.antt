use Rattle.std.proofs.Common.{◌≤◌, arith}
use Rattle.std.proofs.Math.Nat.{mul-le-mul}
use Rattle.cl_resp.proofs.answering.taken.Goals as goal

pub returns-clause-small : goal.returns-clause-small
returns-clause-small c =
    let most : c.from.result ≤ 18446744073709551616 = omega (arith, c.from.ensures, c.most.type_inv) in
    let time : c.from-2.result ≤ 256000000000000 = omega (arith, c.from-2.ensures, c.requires.time) in
    mul-le-mul most time
