-- The lengths of chains that runs have shown so far.
use Rattle.std.specs.Prelude.{◌≡◌, ℕ, Option, Some, None, slice_index_or}
use Rattle.cl_model.specs.declared.{chain.{LengthKind.TheVariants.{Reaction, Age, Reduced}, RequirementKind.{RequirementKind, TheVariants.{Length, Delay}}}, model.SystemModel.SystemModel}
use Rattle.cl_runs.specs.{SystemOf.system_of, Requirements.HasLength}
use Rattle.cl_tight.specs.Found.{AreWindowsOf}
use Rattle.cl_verify.specs.declared.{known_lengths.{LengthsOfChain.LengthsOfChain, KnownLengths.KnownLengths}, runs.Runs.Runs}

-- what is known of a kind: nothing where no run was asked for
abbrev pub known_of_kind : RequirementKind → LengthsOfChain → Option (Option ℕ)
known_of_kind (Length Reaction) known = known.reaction
known_of_kind (Length Age) known = known.age
known_of_kind (Length Reduced) known = known.reduced
known_of_kind Delay known = known.delay

-- a chain of which nothing is known
abbrev pub nothing_known : LengthsOfChain
nothing_known = record { reaction = None; age = None; reduced = None; delay = None }

-- each length that is known of a chain is one that it has in some legal run
abbrev pub IsKnownOf : SystemModel → (chain : ℕ) → LengthsOfChain → Type 0
IsKnownOf model chain known = (kind : RequirementKind) (ticks : ℕ) → known_of_kind kind known ≡ Some (Some ticks) → HasLength model chain kind ticks

-- so it is of each chain of a model
abbrev pub AreKnownLengths : SystemModel → KnownLengths → Type 0
AreKnownLengths model known = (chain : ℕ) → IsKnownOf model chain (slice_index_or known.of_chains chain nothing_known)

-- what the runs of a model have found is so
pub record AreRunsOf (model : SystemModel) (runs : Runs) : Type 0 where
  pub windows : AreWindowsOf (system_of model) runs.windows
  pub lengths : AreKnownLengths model runs.lengths
