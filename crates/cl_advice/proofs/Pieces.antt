-- A text that grows piece by piece.
use Rattle.std.proofs.Common.{◌≡◌, ℕ, List, [], ◌∷◌, ◌++◌}
use Rattle.std.proofs.lemmas.List.{append_assoc}
use Rattle.cl_text.specs.Line.{line}

pub four_pieces : (a b c d t0 t1 t2 t3 t4 : List ℕ) → t1 ≡ t0 ++ a → t2 ≡ t1 ++ b → t3 ≡ t2 ++ c → t4 ≡ t3 ++ d → t4 ≡ t0 ++ (a ++ b ++ c ++ d)
four_pieces a b c d t0 t1 t2 t3 t4 h1 h2 h3 h4 = rw (h4, h3, h2, h1) (simp append_assoc)

pub two_pieces : (a b t0 t1 t2 : List ℕ) → t1 ≡ t0 ++ a → t2 ≡ t1 ++ b → t2 ≡ t0 ++ (a ++ b)
two_pieces a b t0 t1 t2 h1 h2 = rw (h2, h1) (simp append_assoc)

pub three_pieces : (a b c t0 t1 t2 t3 : List ℕ) → t1 ≡ t0 ++ a → t2 ≡ t1 ++ b → t3 ≡ t2 ++ c → t3 ≡ t0 ++ (a ++ b ++ c)
three_pieces a b c t0 t1 t2 t3 h1 h2 h3 = rw (h3, h2, h1) (simp append_assoc)

pub seven_pieces : (a b c d e f g t0 t1 t2 t3 t4 t5 t6 t7 : List ℕ) → t1 ≡ t0 ++ a → t2 ≡ t1 ++ b → t3 ≡ t2 ++ c → t4 ≡ t3 ++ d → t5 ≡ t4 ++ e → t6 ≡ t5 ++ f
    → t7 ≡ t6 ++ g → t7 ≡ t0 ++ (a ++ b ++ c ++ d ++ e ++ f ++ g)
seven_pieces a b c d e f g t0 t1 t2 t3 t4 t5 t6 t7 h1 h2 h3 h4 h5 h6 h7 = rw (h7, h6, h5, h4, h3, h2, h1) (simp append_assoc)

pub nine_pieces : (a b c d e f g h i t0 t1 t2 t3 t4 t5 t6 t7 t8 t9 : List ℕ) → t1 ≡ t0 ++ a → t2 ≡ t1 ++ b → t3 ≡ t2 ++ c → t4 ≡ t3 ++ d → t5 ≡ t4 ++ e → t6 ≡ t5 ++ f
    → t7 ≡ t6 ++ g → t8 ≡ t7 ++ h → t9 ≡ t8 ++ i → t9 ≡ t0 ++ (a ++ b ++ c ++ d ++ e ++ f ++ g ++ h ++ i)
nine_pieces a b c d e f g h i t0 t1 t2 t3 t4 t5 t6 t7 t8 t9 h1 h2 h3 h4 h5 h6 h7 h8 h9 = rw (h9, h8, h7, h6, h5, h4, h3, h2, h1) (simp append_assoc)

-- ---- a line

pub lined_two : (a b t0 t1 t2 t3 : List ℕ) → t1 ≡ t0 ++ a → t2 ≡ t1 ++ b → t3 ≡ t2 ++ 0x0A ∷ [] → t3 ≡ t0 ++ line (a ++ b)
lined_two a b t0 t1 t2 t3 h1 h2 h3 = rw (h3, h2, h1) (simp append_assoc)

pub lined_three : (a b c t0 t1 t2 t3 t4 : List ℕ) → t1 ≡ t0 ++ a → t2 ≡ t1 ++ b → t3 ≡ t2 ++ c → t4 ≡ t3 ++ 0x0A ∷ []
    → t4 ≡ t0 ++ line (a ++ b ++ c)
lined_three a b c t0 t1 t2 t3 t4 h1 h2 h3 h4 = rw (h4, h3, h2, h1) (simp append_assoc)

pub lined_four : (a b c d t0 t1 t2 t3 t4 t5 : List ℕ) → t1 ≡ t0 ++ a → t2 ≡ t1 ++ b → t3 ≡ t2 ++ c → t4 ≡ t3 ++ d → t5 ≡ t4 ++ 0x0A ∷ []
    → t5 ≡ t0 ++ line (a ++ b ++ c ++ d)
lined_four a b c d t0 t1 t2 t3 t4 t5 h1 h2 h3 h4 h5 = rw (h5, h4, h3, h2, h1) (simp append_assoc)

pub lined_five : (a b c d e t0 t1 t2 t3 t4 t5 t6 : List ℕ) → t1 ≡ t0 ++ a → t2 ≡ t1 ++ b → t3 ≡ t2 ++ c → t4 ≡ t3 ++ d → t5 ≡ t4 ++ e
    → t6 ≡ t5 ++ 0x0A ∷ [] → t6 ≡ t0 ++ line (a ++ b ++ c ++ d ++ e)
lined_five a b c d e t0 t1 t2 t3 t4 t5 t6 h1 h2 h3 h4 h5 h6 = rw (h6, h5, h4, h3, h2, h1) (simp append_assoc)

-- nine pieces, the first with words before it and the last with words behind it
pub between_nine : (m a b c d e f g h i z t0 t1 t2 t3 t4 t5 t6 t7 t8 t9 : List ℕ) → t1 ≡ t0 ++ (m ++ a) → t2 ≡ t1 ++ b → t3 ≡ t2 ++ c → t4 ≡ t3 ++ d
    → t5 ≡ t4 ++ e → t6 ≡ t5 ++ f → t7 ≡ t6 ++ g → t8 ≡ t7 ++ h → t9 ≡ t8 ++ (i ++ z)
    → t9 ≡ t0 ++ (m ++ (a ++ b ++ c ++ d ++ e ++ f ++ g ++ h ++ i) ++ z)
between_nine m a b c d e f g h i z t0 t1 t2 t3 t4 t5 t6 t7 t8 t9 h1 h2 h3 h4 h5 h6 h7 h8 h9 = rw (h9, h8, h7, h6, h5, h4, h3, h2, h1) (simp append_assoc)
