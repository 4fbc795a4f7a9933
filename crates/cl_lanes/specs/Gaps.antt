-- the gaps of ends and starts that are paired by place
use Rattle.std.specs.Prelude.{◌≡◌, ℕ, ◌+◌, ◌-◌, ◌<◌, ◌≤◌, List, All, Contains, length, slice_index}
use Rattle.std.specs.Simd.Lanes.{zip2}

-- the gap of each place: how far its end lies after its start
abbrev pub gaps : (ends starts : List ℕ) → List ℕ
gaps = zip2 (λ end start. end - start)

-- the greatest of a list is one of its numbers, and none of them is greater
pub record IsGreatest (numbers : List ℕ) (greatest : ℕ) : Type 0 where
  pub one_of : Contains numbers greatest
  pub above_all : All (λ number. number ≤ greatest) numbers

-- the end of the place lies the gap after its start
abbrev pub HasGap : (ends starts : List ℕ) (gap place : ℕ) → Type 0
HasGap ends starts gap place = slice_index ends place ≡ slice_index starts place + gap

-- the first place with the gap has it, and none before it does
pub record IsFirst (ends starts : List ℕ) (gap place : ℕ) : Type 0 where
  pub within : place < length ends
  pub here : HasGap ends starts gap place
  pub before : (earlier : ℕ) → earlier < place → ¬ HasGap ends starts gap earlier
