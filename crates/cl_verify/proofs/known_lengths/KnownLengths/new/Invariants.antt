use Rattle.std.proofs.Common.{◌≡◌, All}
use Rattle.cl_verify.specs.{declared.known_lengths.LengthsOfChain.LengthsOfChain, KnownLengths.nothing_known}
use Rattle.cl_verify.proofs.known_lengths.KnownLengths.new.Given as goal

abbrev pub invariant-loop : goal.invariant-loop
invariant-loop l = All (λ (known : LengthsOfChain). known ≡ nothing_known) l.of_chains
