-- Two lists whose elements go together, place by place: so do those at each place, and of the first ones and the rest.
use Rattle.std.proofs.Common.{ℕ, zero, suc, ◌<◌, List, [], ◌∷◌, length, get_or, take, drop, arith}
use Rattle.std.specs.List.{AllZip}

pub zip_at : {X Y : Type 0} (R : X → Y → Type 0) (xs : List X) (ys : List Y) → AllZip R xs ys → (d : X) (e : Y) (n : ℕ) → n < length xs
    → R (get_or xs n d) (get_or ys n e)
zip_at R [] [] zipped d e n h = absurd (omega arith)
zip_at R [] (y ∷ ys) zipped d e n h = absurd zipped
zip_at R (x ∷ xs) [] zipped d e n h = absurd zipped
zip_at R (x ∷ xs) (y ∷ ys) zipped d e zero h = zipped.0
zip_at R (x ∷ xs) (y ∷ ys) zipped d e (suc n) h = zip_at R xs ys zipped.1 d e n (omega arith)

pub zip_take : {X Y : Type 0} (R : X → Y → Type 0) (n : ℕ) (xs : List X) (ys : List Y) → AllZip R xs ys → AllZip R (take n xs) (take n ys)
zip_take R zero xs ys zipped = _
zip_take R (suc n) [] [] zipped = _
zip_take R (suc n) [] (y ∷ ys) zipped = absurd zipped
zip_take R (suc n) (x ∷ xs) [] zipped = absurd zipped
zip_take R (suc n) (x ∷ xs) (y ∷ ys) zipped = (zipped.0, zip_take R n xs ys zipped.1)

pub zip_drop : {X Y : Type 0} (R : X → Y → Type 0) (n : ℕ) (xs : List X) (ys : List Y) → AllZip R xs ys → AllZip R (drop n xs) (drop n ys)
zip_drop R zero xs ys zipped = zipped
zip_drop R (suc n) [] [] zipped = _
zip_drop R (suc n) [] (y ∷ ys) zipped = absurd zipped
zip_drop R (suc n) (x ∷ xs) [] zipped = absurd zipped
zip_drop R (suc n) (x ∷ xs) (y ∷ ys) zipped = zip_drop R n xs ys zipped.1
