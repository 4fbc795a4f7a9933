-- The groups of a list of steps in words: they cut it into its longest pieces of inner hops.
use Rattle.std.specs.Prelude.{◌≡◌, ℕ, ◌+◌, ◌-◌, ◌<◌, List, [], length, slice_index_or}
use Rattle.std.specs.List.{flat_map}
use Rattle.cl_model.specs.{declared.group.{Group.Group, Step.Step}, Groups.{step_at, group_at}}

-- the hop from a step to the next is inner: both stand in one task, and the writer stands before the reader
pub record IsInnerHop (writer reader : Step) : Type 0 where
  pub one_task : writer.task ≡ reader.task
  pub in_order : writer.place < reader.place

-- the first and the last step of a piece
abbrev pub first_step : List Step → Step
first_step piece = step_at piece 0

abbrev pub last_step : List Step → Step
last_step piece = step_at piece (length piece - 1)

-- each hop of the piece is inner, and the group has its task and the places of its ends
pub record IsGroupOfPiece (piece : List Step) (group : Group) : Type 0 where
  pub some : 0 < length piece
  pub joined : (hop : ℕ) → hop + 1 < length piece → IsInnerHop (step_at piece hop) (step_at piece (hop + 1))
  pub task : group.task ≡ (first_step piece).task
  pub first : group.first ≡ (first_step piece).place
  pub last : group.last ≡ (last_step piece).place

-- the piece of a number
abbrev pub piece_at : List (List Step) → ℕ → List Step
piece_at pieces k = slice_index_or pieces k []

-- the steps are cut into consecutive pieces, each of which has its group, and no hop between two pieces is inner
pub record AreMaximalRuns (steps : List Step) (groups : List Group) : Type 0 where
  pub pieces : List (List Step)
  pub cut : flat_map (λ piece. piece) pieces ≡ steps
  pub count : length groups ≡ length pieces
  pub each : (k : ℕ) → k < length pieces → IsGroupOfPiece (piece_at pieces k) (group_at groups k)
  pub apart : (k : ℕ) → k + 1 < length pieces → IsInnerHop (last_step (piece_at pieces k)) (first_step (piece_at pieces (k + 1))) → ⊥
