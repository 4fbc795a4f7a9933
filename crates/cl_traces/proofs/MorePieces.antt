-- A text that grows piece by piece.
use Rattle.std.proofs.Common.{◌≡◌, ℕ, List, [], ◌∷◌, ◌++◌}
use Rattle.std.proofs.lemmas.List.{append_assoc}
use Rattle.cl_text.specs.Line.{line}

pub five_pieces : (a b c d e t0 t1 t2 t3 t4 t5 : List ℕ) → t1 ≡ t0 ++ a → t2 ≡ t1 ++ b → t3 ≡ t2 ++ c → t4 ≡ t3 ++ d → t5 ≡ t4 ++ e
    → t5 ≡ t0 ++ (a ++ b ++ c ++ d ++ e)
five_pieces a b c d e t0 t1 t2 t3 t4 t5 h1 h2 h3 h4 h5 = rw (h5, h4, h3, h2, h1) (simp append_assoc)

-- two lines, each of two pieces
pub two_lines : (a b c d t0 t1 t2 t3 t4 t5 : List ℕ) → t1 ≡ t0 ++ a → t2 ≡ t1 ++ b → t3 ≡ t2 ++ (0x0A ∷ c) → t4 ≡ t3 ++ d → t5 ≡ t4 ++ 0x0A ∷ []
    → t5 ≡ t0 ++ (line (a ++ b) ++ line (c ++ d))
two_lines a b c d t0 t1 t2 t3 t4 t5 h1 h2 h3 h4 h5 = rw (h5, h4, h3, h2, h1) (simp append_assoc)

-- a line of two pieces, and one of six
pub line_and_six : (a b c d e f g h t0 t1 t2 t3 t4 t5 t6 t7 t8 t9 : List ℕ) → t1 ≡ t0 ++ a → t2 ≡ t1 ++ b → t3 ≡ t2 ++ (0x0A ∷ c)
    → t4 ≡ t3 ++ d → t5 ≡ t4 ++ e → t6 ≡ t5 ++ f → t7 ≡ t6 ++ g → t8 ≡ t7 ++ h → t9 ≡ t8 ++ 0x0A ∷ []
    → t9 ≡ t0 ++ (line (a ++ b) ++ line (c ++ (d ++ e ++ f ++ g ++ h)))
line_and_six a b c d e f g h t0 t1 t2 t3 t4 t5 t6 t7 t8 t9 h1 h2 h3 h4 h5 h6 h7 h8 h9 =
    two_lines a b c (d ++ e ++ f ++ g ++ h) t0 t1 t2 t3 t8 t9 h1 h2 h3 (five_pieces d e f g h t3 t4 t5 t6 t7 t8 h4 h5 h6 h7 h8) h9
