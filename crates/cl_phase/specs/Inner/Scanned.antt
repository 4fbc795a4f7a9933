-- The longest of some walks that start at arrivals of a group. Times are in ticks.
use Rattle.std.specs.Prelude.{◌≡◌, ℕ, ◌+◌, ◌*◌, ◌≤◌, pos, List}
use Rattle.cl_phase.specs.{declared.{stop.Stop.Stop, walk.{Ends.Ends, Longest.Longest}}, Inner.Longest.lengths_at}

-- some lengths are within others, kind by kind
pub record AreNoLonger (lengths most : Longest) : Type 0 where
  pub length : lengths.length ≤ most.length
  pub reduced : lengths.reduced ≤ most.reduced
  pub delay : lengths.delay ≤ most.delay

-- the lengths of the walks from all arrivals of which something holds are within some lengths, and these within all
-- others of which that is so
pub record AreLongestFrom (stops : List Stop) (ends : Ends) (place : ℕ) (Starts : ℕ → Type 0) (longest : Longest) : Type 0 where
  pub no_longer : (start : ℕ) → Starts start → AreNoLonger (lengths_at stops ends place (pos start)) longest
  pub least : (most : Longest) → ((start : ℕ) → Starts start → AreNoLonger (lengths_at stops ends place (pos start)) most)
      → AreNoLonger longest most

-- an arrival lies at most so many strides after the first one
pub record IsInStrides (first stride strides start : ℕ) : Type 0 where
  pub done : ℕ
  pub within : done ≤ strides
  pub is : start ≡ first + done * stride
