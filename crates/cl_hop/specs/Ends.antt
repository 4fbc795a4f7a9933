-- What the bounds of a chain depend on.
use Rattle.std.specs.Prelude.{ℕ, ℤ, List, [], ◌∷◌}
use Rattle.cl_hop.specs.{declared.group_timing.GroupTiming.GroupTiming, Hops.lag}

-- how far the jobs of a group are apart at most, when it reads at the earliest, and when it writes at the latest
pub record Ends : Type 0 where
  pub distance : ℕ
  pub read : ℕ
  pub write : ℕ

abbrev pub ends_of : GroupTiming → Ends
ends_of group = record { distance = group.distance; read = group.read; write = group.write }

-- the lags of the hops from a group over those after it, first to last
abbrev pub lags_from : (writer : GroupTiming) → List GroupTiming → List ℤ
lags_from writer [] = []
lags_from writer (reader ∷ groups) = lag writer reader ∷ lags_from reader groups

-- those of the hops between the groups of a chain
abbrev pub lags : List GroupTiming → List ℤ
lags [] = []
lags (first ∷ groups) = lags_from first groups
