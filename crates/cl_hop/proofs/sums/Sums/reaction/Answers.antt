use Rattle.std.proofs.Common.{arith}
use Rattle.std.proofs.lemmas.Int.{ints}
use Rattle.cl_hop.proofs.sums.Sums.reaction.Goals as goal

pub overflow_add-result-2 : goal.overflow_add-result-2
overflow_add-result-2 c = omega (arith, ints, c.requires.0, c.requires.1, c.from.ensures, c.from-2.ensures, c.from-3.ensures, c.distance.type_inv, c.read.type_inv, c.write.type_inv)

pub returns : goal.returns
returns c = omega (arith, ints, c.requires.0, c.requires.1, c.from.ensures, c.from-2.ensures, c.from-3.ensures, c.distance.type_inv, c.read.type_inv, c.write.type_inv, c.distance.ensures, c.read.ensures, c.write.ensures)
