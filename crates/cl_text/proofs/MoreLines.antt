-- Texts that grow line by line, each the line of the next number.
use Rattle.std.proofs.Common.{◌≡◌, ℕ, zero, suc, ◌+◌, List, [], ◌∷◌, ◌++◌, sym, ap, ◌∙◌, arith}
use Rattle.std.specs.List.{flat_map, range_with_len}
use Rattle.std.proofs.lemmas.List.{flat_map_more}

-- one more number
pub range_more : (a n : ℕ) → range_with_len a (suc n) ≡ range_with_len a n ++ (a + n) ∷ []
range_more a zero = ap (λ m. m ∷ []) (omega arith)
range_more a (suc n) =
    let next : a + 1 + n ≡ a + suc n = omega arith in
    ap (λ ms. a ∷ ms) (range_more (a + 1) n ∙ ap (λ m. range_with_len (a + 1) n ++ m ∷ []) next)

-- the line of one more number stands behind those before it
pub line_more : (line : ℕ → List ℕ) (text before after : List ℕ) (n : ℕ)
    → before ≡ text ++ flat_map line (range_with_len 0 n) → after ≡ before ++ line n
    → after ≡ text ++ flat_map line (range_with_len 0 (n + 1))
line_more line text before after n was is =
    let last : n ≡ 0 + n = omega arith in
    let next : suc n ≡ n + 1 = omega arith in
    is ∙ ap (λ t. t ++ line n) was ∙ flat_map_more line text (range_with_len 0 n) n
    ∙ ap (λ m. text ++ flat_map line (range_with_len 0 n ++ m ∷ [])) last
    ∙ ap (λ ms. text ++ flat_map line ms) (sym (range_more 0 n))
    ∙ ap (λ m. text ++ flat_map line (range_with_len 0 m)) next
