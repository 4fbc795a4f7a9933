use Rattle.std.proofs.Common.{◌≡◌, ℕ, List}
use Rattle.std.specs.Prelude.{map, filter}
use Rattle.std.specs.List.{join_with_byte}
use denote.Bor.{Bor}
use Rattle.cl_edit.specs.Said.{has_bytes}
use Rattle.cl_edit.proofs.said.plain.Given as goal

-- the words so far
abbrev pub invariant-loop-word : goal.invariant-loop-word
invariant-loop-word l = l.plain.items ≡ join_with_byte 0x20 (filter has_bytes (map (λ (w : Bor (List ℕ)). w.now) l.yielded))
