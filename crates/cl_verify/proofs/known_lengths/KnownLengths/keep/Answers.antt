use Rattle.std.proofs.Common.{◌<◌, length, arith}
use Rattle.cl_verify.proofs.KnownFacts.{known_there, known_more}
use Rattle.cl_verify.proofs.known_lengths.KnownLengths.keep.Goals as goal

pub returns-then-chain-len : goal.returns-then-chain-len
returns-then-chain-len c = λ model are has.
    let within : c.args.chain < length c.args.self.now.of_chains = omega (arith, c.if-chain-len.true, c.len.ensures) in
    known_more model c.args.self.now are c.args.chain c.with.result within
    (c.with.ensures model c.args.chain (known_there model c.args.self.now are c.args.chain c.as_slice.result.now _ c.as_slice.ensures within) has)
