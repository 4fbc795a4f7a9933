-- When one legal run goes on from another, with the same moments and chains.
use Rattle.std.specs.Prelude.{◌≡◌, ℕ, ◌↔◌, ◌<◌, ◌≤◌, List}
use Rattle.cl_model.specs.declared.group.Group.{Group}
use Rattle.cl_runs.specs.{TaskTiming.System, Run.Run, Legal.IsLegal, Moments.{Starts, Finishes, Reads, Writes}, GoesOn.GoesOn, Chains.{JobChain, IsForwardChain, IsAgeChain, IsReducedChain}, RunChains.run_moments}

-- the longer run goes on from the shorter, both legal: what starts or reads below the shorter end, and what finishes or
-- writes by then, does so in both at the same moment, and each complete chain of the shorter is one of the longer
pub record IsContinuation (system : System) (shorter longer : Run) : Type 0 where
  pub legal : IsLegal system shorter
  pub legal_longer : IsLegal system longer
  pub goes_on : GoesOn shorter longer
  pub starts : (task job place moment : ℕ) → moment < shorter.table.ticks
      → (Starts system shorter task job place moment) ↔ (Starts system longer task job place moment)
  pub finishes : (task job place moment : ℕ) → moment ≤ shorter.table.ticks
      → (Finishes system shorter task job place moment) ↔ (Finishes system longer task job place moment)
  pub reads : (task job place moment : ℕ) → moment < shorter.table.ticks
      → (Reads system shorter task job place moment) ↔ (Reads system longer task job place moment)
  pub writes : (task job place moment : ℕ) → moment ≤ shorter.table.ticks
      → (Writes system shorter task job place moment) ↔ (Writes system longer task job place moment)
  pub forward : (groups : List Group) (chain : JobChain)
      → IsForwardChain (run_moments system shorter) groups chain → IsForwardChain (run_moments system longer) groups chain
  pub age : (groups : List Group) (chain : JobChain)
      → IsAgeChain (run_moments system shorter) groups chain → IsAgeChain (run_moments system longer) groups chain
  pub reduced : (groups : List Group) (chain : JobChain)
      → IsReducedChain (run_moments system shorter) groups chain → IsReducedChain (run_moments system longer) groups chain

-- there is such a longer run of so many ticks
pub record HasContinuation (system : System) (run : Run) (ticks : ℕ) : Type 0 where
  pub longer : Run
  pub end : longer.table.ticks ≡ ticks
  pub continues : IsContinuation system run longer
