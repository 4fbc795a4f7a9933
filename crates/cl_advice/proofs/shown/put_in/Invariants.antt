use Rattle.std.proofs.Common.{◌≡◌, ◌++◌, drop}
use Rattle.cl_advice.specs.Shown.{shown_in}
use Rattle.cl_advice.proofs.shown.put_in.Given as goal

-- what is shown of all bytes is what stands there, and what the room that is left shows of the others
abbrev pub invariant-loop-byte : goal.invariant-loop-byte
invariant-loop-byte l =
    l.initial.text ++ shown_in l.room l.bytes ≡ l.text ++ shown_in l.left (drop l.byte-index l.bytes)
