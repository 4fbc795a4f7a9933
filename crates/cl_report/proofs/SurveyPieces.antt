-- A line of the survey, piece by piece.
use Rattle.std.proofs.Common.{◌≡◌, ℕ, List, ◌++◌, Ok, Err, Result, append_assoc}
use Rattle.std.specs.Prelude.{OnOk}
use Rattle.cl_time.specs.declared.no_memory.NoMemory.{NoMemory}

pub three_pieces : (a b c t0 t1 t2 t3 : List ℕ) → t1 ≡ t0 ++ a → t2 ≡ t1 ++ b → t3 ≡ t2 ++ c → t3 ≡ t0 ++ (a ++ b ++ c)
three_pieces a b c t0 t1 t2 t3 h1 h2 h3 = rw (h3, h2, h1) (simp append_assoc)

pub four_pieces : (a b c d t0 t1 t2 t3 t4 : List ℕ) → t1 ≡ t0 ++ a → t2 ≡ t1 ++ b → t3 ≡ t2 ++ c → t4 ≡ t3 ++ d → t4 ≡ t0 ++ (a ++ b ++ c ++ d)
four_pieces a b c d t0 t1 t2 t3 t4 h1 h2 h3 h4 = rw (h4, h3, h2, h1) (simp append_assoc)

-- what follows where all is well
pub still_ok : (result : Result (Unit {0}) NoMemory) (P Q : Type 0) → (P → Q) → OnOk result P → OnOk result Q
still_ok (Ok u) P Q follows holds = follows holds
still_ok (Err e) P Q follows holds = _
