-- The names in a generated model are names.
use Rattle.std.proofs.Common.{◌≡◌, ℕ, ◌+◌, ◌%◌, ◌<◌, ◌≤◌, ◌^◌, true, List, [], ◌∷◌, ◌++◌, length, refl, ap, ◌∙◌, arith, length-append}
use Rattle.std.specs.Prelude.{decimal}
use Rattle.std.specs.List.{list_all}
use Rattle.std.proofs.lemmas.Bool.{and_from, lt-ltb, le-leb}
use Rattle.std.proofs.lemmas.Fmt.{decimal_by_steps, decimal_nonempty, length-decimal-le}
use Rattle.std.proofs.lemmas.Grind.{common_steps}
use Rattle.std.proofs.lemmas.List.Folds.{list_all-append}
use Rattle.cl_model.specs.Name.{is_name_byte, IsName}

digit_is_name_byte : (b : ℕ) → 48 ≤ b → b ≤ 57 → is_name_byte b ≡ true
digit_is_name_byte b least greatest = grind (arith, common_steps)

both_all : (xs ys : List ℕ) → list_all is_name_byte xs ≡ true → list_all is_name_byte ys ≡ true → list_all is_name_byte (xs ++ ys) ≡ true
both_all xs ys first second = list_all-append is_name_byte xs ys ∙ and_from _ _ first second

digit_all : (d : ℕ) → d < 10 → list_all is_name_byte ((48 + d) ∷ []) ≡ true
digit_all d lt = and_from _ true (digit_is_name_byte (48 + d) (omega arith) (omega arith)) refl

decimal_all : (n : ℕ) → n < 2 ^ 64 → list_all is_name_byte (decimal n) ≡ true
decimal_all = decimal_by_steps (λ n ds. list_all is_name_byte ds ≡ true) digit_all
    (λ n ds many all. both_all ds ((48 + n % 10) ∷ []) all (digit_all (n % 10) (omega arith)))

pub spelled_name : (letter rest : List ℕ) (n : ℕ) → list_all is_name_byte letter ≡ true → list_all is_name_byte rest ≡ true
    → length letter + length rest ≤ 2 → n < 2 ^ 64 → IsName (letter ++ (decimal n ++ rest))
spelled_name letter rest n of_letter of_rest short fits =
    let word = letter ++ (decimal n ++ rest) in
    let long : length word ≡ length letter + (length (decimal n) + length rest)
    = length-append letter (decimal n ++ rest) ∙ ap (λ k. length letter + k) (length-append (decimal n) rest) in
    and_from _ _
    (and_from _ _
    (lt-ltb 0 (length word) (omega (arith, long, decimal_nonempty n fits)))
    (le-leb (length word) 64 (omega (arith, long, length-decimal-le 20 n (omega arith) (omega arith) fits))))
    (both_all letter (decimal n ++ rest) of_letter (both_all (decimal n) rest (decimal_all n fits) of_rest))
