use Rattle.std.proofs.Common.{◌≡◌, take, map, string_bytes}
use Rattle.cl_engine.proofs.starting.pushed.Given as goal

abbrev pub invariant-loop-argument : goal.invariant-loop-argument
invariant-loop-argument l = l.words ≡ map string_bytes (take l.argument-index l.arguments)
