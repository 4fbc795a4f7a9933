-- The greatest reaction of many first jobs, and the first of them that has it. Times are in ticks.
use Rattle.std.specs.Prelude.{◌≡◌, ℕ, ◌+◌, ◌<◌, ◌≤◌, List}
use Rattle.cl_exact.specs.{declared.{beat.Beat.Beat, scan.Greatest.Greatest}, Inner.Beats.reaction_of}

-- no reaction of `count` first jobs from `first` on is greater, none before the job is as great, and the job has it
-- where there are any
pub record IsGreatestOf (beats : List Beat) (first count : ℕ) (greatest : Greatest) : Type 0 where
  pub not_before : first ≤ greatest.job
  pub above_all : (job : ℕ) → first ≤ job → job < first + count → reaction_of beats job ≤ greatest.reaction
  pub first_of : (job : ℕ) → first ≤ job → job < greatest.job → reaction_of beats job < greatest.reaction
  pub within : 0 < count → greatest.job < first + count
  pub attained : 0 < count → reaction_of beats greatest.job ≡ greatest.reaction

-- none of them has the reaction
abbrev pub NoneHas : List Beat → (first count reaction : ℕ) → Type 0
NoneHas beats first count reaction = (job : ℕ) → first ≤ job → job < first + count → reaction_of beats job ≡ reaction → ⊥

-- the first of them that has it
pub record IsFirstWith (beats : List Beat) (first count reaction job : ℕ) : Type 0 where
  pub not_before : first ≤ job
  pub within : job < first + count
  pub has : reaction_of beats job ≡ reaction
  pub first_of : (earlier : ℕ) → first ≤ earlier → earlier < job → reaction_of beats earlier ≡ reaction → ⊥

-- the first jobs after one, up to another, have lesser reactions
abbrev pub FallsUpTo : List Beat → (first next : ℕ) → Type 0
FallsUpTo beats first next = (job : ℕ) → first < job → job < next → reaction_of beats job < reaction_of beats first
