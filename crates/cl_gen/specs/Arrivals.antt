-- How many of the arrivals of a task lie in the first ticks.
use Rattle.std.specs.Prelude.{ℕ, nat_lt, count_by}
use Rattle.std.specs.List.{range_with_len}

-- how many arrivals lie below `ticks`, where each lies above the one before it
unfoldable pub arrivals_below : (arrival : ℕ → ℕ) → (ticks : ℕ) → ℕ
arrivals_below arrival ticks = count_by (λ k. nat_lt (arrival k) ticks) (range_with_len 0 ticks)
