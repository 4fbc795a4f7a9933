-- What a sink has taken after one more call.
use Rattle.std.proofs.Common.{◌≡◌, ℕ, ◌+◌, ◌-◌, ◌≤◌, List, length, Option, Some, None, take, drop, refl, append_assoc, arith, length-drop}
use Rattle.std.proofs.lemmas.List.{take_all}
use Rattle.std.proofs.Math.Seq.{take-add}
use Rattle.cl_io.specs.Sink.{appended}

-- the first bytes of a piece, and then the first of what is left
pub appended-take : (written : Option (List ℕ)) (m n : ℕ) (piece : List ℕ) → appended (appended written (take m piece)) (take n (take (length piece - m) (drop m piece))) ≡ appended written (take (m + n) piece)
appended-take None m n piece = refl
appended-take (Some text) m n piece =
    let whole : length (drop m piece) ≤ length piece - m = omega (arith, length-drop m piece) in
    rw (take_all (length piece - m) (drop m piece) whole, take-add, append_assoc) refl
