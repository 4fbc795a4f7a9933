-- the full chunks of eight, by index
use Rattle.std.proofs.Common.{◌≡◌, ℕ, zero, suc, ◌*◌, ◌/◌, ◌<◌, List, [], length, get_or, drop, take, refl, ap, ◌∙◌, arith, drop-drop}
use Rattle.std.specs.Simd.{first_chunks}
use Rattle.std.specs.Simd.Lanes.{chunk}
use Rattle.std.proofs.lemmas.Simd.{length-chunk, get_or-chunk}
use Rattle.cl_lanes.specs.Inner.Chunks.{AreChunks}

-- a chunk is the eight numbers from its first place on
get_or-first_chunks : (xs : List ℕ) (count i : ℕ) (d : List ℕ) → i < count → get_or (first_chunks 8 count xs) i d ≡ chunk (i * 8) 8 xs
get_or-first_chunks xs zero i d below = absurd (omega arith)
get_or-first_chunks xs (suc count) zero d below = refl
get_or-first_chunks xs (suc count) (suc i) d below =
    get_or-first_chunks (drop 8 xs) count i d (omega arith) ∙ ap (take 8) (drop-drop (i * 8) 8 xs ∙ ap (λ n. drop n xs) (omega arith))

chunk_at : (xs : List ℕ) (chunks : List (List ℕ)) → chunks ≡ first_chunks 8 (length xs / 8) xs → (i : ℕ) → i < length xs / 8
    → get_or chunks i [] ≡ chunk (i * 8) 8 xs
chunk_at xs chunks is i below = ap (λ cs. get_or cs i []) is ∙ get_or-first_chunks xs (length xs / 8) i [] below

-- what `as_chunks` gives
pub are_chunks : (xs : List ℕ) (chunks : List (List ℕ)) → chunks ≡ first_chunks 8 (length xs / 8) xs → length chunks ≡ length xs / 8 → AreChunks xs chunks
are_chunks xs chunks is many = record {
  as_many = many;
  eight = λ i below. ap length (chunk_at xs chunks is i (omega arith)) ∙ length-chunk (i * 8) 8 xs (omega arith);
  each = λ i lane below low. ap (λ ys. get_or ys lane 0) (chunk_at xs chunks is i (omega arith)) ∙ get_or-chunk (i * 8) 8 xs lane 0 low;
}
