-- Cuts of a chain into consecutive pieces, and the best of them. A cut is given by the number of the first group of
-- each piece. Times are in ticks.
use Rattle.std.specs.Prelude.{◌≡◌, ℕ, suc, ◌+◌, ◌-◌, ◌<◌, ◌≤◌, List, length, slice_index, slice_index_or, sum}
use Rattle.std.specs.Ordering.{nat_cmp}
use Rattle.std.specs.Cmp.Lexicographic.{slice_cmp}
use Rattle.std.specs.declared.cmp.Ordering.TheVariants.{Greater}
use Rattle.cl_model.specs.declared.group.Group.{Group}
use Rattle.cl_runs.specs.TaskTiming.{System}
use Rattle.cl_cut.specs.Values.{part, IsValue}

-- the group after a piece: the first of the next piece, or the end of the chain
abbrev pub end_of_piece : List Group → (pieces : List ℕ) → (k : ℕ) → ℕ
end_of_piece groups pieces k = slice_index_or pieces (suc k) (length groups)

-- the groups of the piece of a number
abbrev pub piece_groups : List Group → (pieces : List ℕ) → (k : ℕ) → List Group
piece_groups groups pieces k = part groups (slice_index pieces k) (end_of_piece groups pieces k)

-- one or more consecutive pieces, none of them empty, of which the first begins with a group and the last ends with the
-- last
pub record IsCutFrom (groups : List Group) (first : ℕ) (pieces : List ℕ) : Type 0 where
  pub some : 0 < length pieces
  pub begins : slice_index pieces 0 ≡ first
  pub rising : (k : ℕ) → k < length pieces → slice_index pieces k < end_of_piece groups pieces k

-- a cut of a whole chain
abbrev pub IsCut : List Group → (pieces : List ℕ) → Type 0
IsCut groups pieces = IsCutFrom groups 0 pieces

-- the cost of a cut: the sum of the values of its pieces, less one tick for each piece after the first
pub record IsCost (system : System) (groups : List Group) (pieces : List ℕ) (cost : ℕ) : Type 0 where
  pub values : List ℕ
  pub one_a_piece : length values ≡ length pieces
  pub each : (k : ℕ) → k < length pieces → IsValue system (piece_groups groups pieces k) (slice_index values k)
  pub cost_is : cost + (length pieces - 1) ≡ sum values

-- a list of numbers doesn't come after another in dictionary order
abbrev pub IsNotAfter : (pieces others : List ℕ) → Type 0
IsNotAfter pieces others = slice_cmp nat_cmp pieces others ≡ Greater → ⊥

-- a cut of the groups from one on of the least cost and, among those, the least list of first groups in dictionary
-- order
pub record IsBestCutFrom (system : System) (groups : List Group) (first : ℕ) (pieces : List ℕ) (cost : ℕ) : Type 0 where
  pub is_cut : IsCutFrom groups first pieces
  pub costs : IsCost system groups pieces cost
  pub least : (others : List ℕ) (other : ℕ) → IsCutFrom groups first others → IsCost system groups others other → cost ≤ other
  pub first_of : (others : List ℕ) → IsCutFrom groups first others → IsCost system groups others cost → IsNotAfter pieces others

-- the best cut of a whole chain
abbrev pub IsBestCut : System → List Group → (pieces : List ℕ) → (cost : ℕ) → Type 0
IsBestCut system groups pieces cost = IsBestCutFrom system groups 0 pieces cost

-- a chain has a best cut
pub record HasBestCut (system : System) (groups : List Group) : Type 0 where
  pub pieces : List ℕ
  pub cost : ℕ
  pub is_best : IsBestCut system groups pieces cost
