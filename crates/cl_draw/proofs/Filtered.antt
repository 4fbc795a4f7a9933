-- Lists of what passes a test, one item after the other.
use Rattle.std.proofs.Common.{◌≡◌, ℕ, ◌+◌, ◌<◌, ◌≤◌, Bool, true, false, cond, Some, None, List, [], ◌∷◌, ◌++◌, length, get_or, take, map, refl, sym, ap, ◌∙◌}
use Rattle.std.specs.Prelude.{filter, if◌then◌else◌}
use Rattle.std.specs.Option.{option_to_list}
use Rattle.std.specs.List.{range_with_len}
use Rattle.std.proofs.lemmas.List.{take_all}
use Rattle.std.proofs.lemmas.List.Elements.{filter-append}
use Rattle.cl_picture.proofs.Printing.{mapped_take, mapped_range}
use Rattle.cl_draw.specs.Inner.TaskRuns.{passing}

-- what passes is a list of one item or none
passing_filter : {X : Type 0} (p : X → Bool) (x : X) → option_to_list (passing p x) ≡ filter p (x ∷ [])
passing_filter p x = elim (p x) as (λ b. option_to_list (if b then Some x else None) ≡ cond b (x ∷ []) []) [ true ↦ refl | false ↦ refl ]

one_more : {X : Type 0} (p : X → Bool) (xs : List X) (x : X) (old new : List X) → old ≡ filter p xs → new ≡ old ++ option_to_list (passing p x) → new ≡ filter p (xs ++ x ∷ [])
one_more p xs x old new was is =
    is ∙ ap (λ ys. ys ++ option_to_list (passing p x)) was ∙ ap (λ ys. filter p xs ++ ys) (passing_filter p x) ∙ sym (filter-append p xs (x ∷ []))

-- over the items of a list
pub kept_item : {X Y : Type 0} (p : Y → Bool) (f : X → Y) (xs : List X) (x d : X) (old new : List Y) (n : ℕ) → n < length xs → x ≡ get_or xs n d
    → old ≡ filter p (map f (take n xs)) → new ≡ old ++ option_to_list (passing p (f x)) → new ≡ filter p (map f (take (n + 1) xs))
kept_item p f xs x d old new n within is was next = one_more p (map f (take n xs)) (f x) old new was next ∙ ap (filter p) (mapped_take f xs x d n within is)

pub kept_all : {X Y : Type 0} (p : Y → Bool) (f : X → Y) (xs : List X) (kept : List Y) (n : ℕ) → length xs ≤ n
    → kept ≡ filter p (map f (take n xs)) → kept ≡ filter p (map f xs)
kept_all p f xs kept n all is = is ∙ ap (λ ys. filter p (map f ys)) (take_all n xs all)

-- over numbers
pub kept_number : {Y : Type 0} (p : Y → Bool) (f : ℕ → Y) (old new : List Y) (n : ℕ) → old ≡ filter p (map f (range_with_len 0 n))
    → new ≡ old ++ option_to_list (passing p (f n)) → new ≡ filter p (map f (range_with_len 0 (n + 1)))
kept_number p f old new n was next = one_more p (map f (range_with_len 0 n)) (f n) old new was next ∙ ap (filter p) (mapped_range f n)
