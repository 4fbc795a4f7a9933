-- The exact reactions of the front parts of groups that follow each other. Times are in ticks.
use Rattle.std.specs.Prelude.{◌≡◌, ℕ, ◌+◌, ◌<◌, true, Option, Some, None, List, length, take, slice_index_or}
use Rattle.cl_model.specs.declared.group.Group.{Group}
use Rattle.cl_runs.specs.TaskTiming.{System}
use Rattle.cl_exact.specs.{TimedPeriodic.are_timed_periodic, Hyperperiod.IsWithinLimit, ExactLengths.{Witnesses, AreExactLengths}}

-- the exact reaction of groups whose tasks are all timed and periodic, with their hyperperiod within their own limit
pub record IsExactReaction (system : System) (groups : List Group) (reaction : ℕ) : Type 0 where
  pub timed : are_timed_periodic system groups ≡ true
  pub within : IsWithinLimit system groups
  pub exact : Witnesses
  pub are_exact : AreExactLengths system groups exact
  pub reaction_is : reaction ≡ exact.reaction.length

-- other groups have no exact reaction within the limit
abbrev pub HasNoExactReaction : System → List Group → Type 0
HasNoExactReaction system groups = are_timed_periodic system groups ≡ true → IsWithinLimit system groups → ⊥

-- what is found of groups: their exact reaction, or that they have none within the limit
abbrev pub IsReactionOf : System → List Group → Option ℕ → Type 0
IsReactionOf system groups (Some reaction) = IsExactReaction system groups reaction
IsReactionOf system groups None = HasNoExactReaction system groups

-- the exact reaction of the part from the first group to each group
abbrev pub AreFrontReactions : System → List Group → List (Option ℕ) → Type 0
AreFrontReactions system groups reactions =
    (place : ℕ) → place < length groups → IsReactionOf system (take (place + 1) groups) (slice_index_or reactions place None)
