-- Where a tick lies among stretches, and where they end.
use Rattle.std.specs.Prelude.{ℕ, ◌<◌, ◌≤◌, List, [], ◌∷◌, length, slice_index_or}
use Rattle.cl_run_data.specs.declared.stretches.Stretch.{Stretch}

-- where the last of the stretches ends
abbrev pub end_from : ℕ → List Stretch → ℕ
end_from from [] = from
end_from from (stretch ∷ stretches) = end_from stretch.end stretches

-- stretch k is the one of a tick: the first that ends after it
pub record IsStretchOf (stretches : List Stretch) (tick k : ℕ) : Type 0 where
  pub within : k < length stretches
  pub ends_after : (d : Stretch) → tick < (slice_index_or stretches k d).end
  pub first : (i : ℕ) (d : Stretch) → i < k → (slice_index_or stretches i d).end ≤ tick
