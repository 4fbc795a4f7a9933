-- Numbers of the runnables of a model that have been found so far.
use Rattle.std.specs.Prelude.{◌≡◌, ℕ, [], Option, Some, None, slice_index_or}
use Rattle.cl_runs.specs.TaskTiming.{System}
use Rattle.cl_lead.specs.Leads.{lead_at}
use Rattle.cl_tight.specs.{TightTimings.part_response, declared.{found.FoundNumbers.FoundNumbers, access_windows.AccessWindows.AccessWindows}}

-- the number that has been found of a runnable, given by its task and its place in the task
abbrev pub number_found : FoundNumbers → (task place : ℕ) → Option ℕ
number_found found task place = slice_index_or (slice_index_or found.by_task task []) place None

-- each number that has been found is the one of its runnable
abbrev pub AreFoundNumbersOf : (number_of : (task place : ℕ) → ℕ) → FoundNumbers → Type 0
AreFoundNumbersOf number_of found = (task place number : ℕ) → number_found found task place ≡ Some number → number ≡ number_of task place

-- the leads and the responses of parts that have been found are those of a system
pub record AreWindowsOf (system : System) (windows : AccessWindows) : Type 0 where
  pub leads : AreFoundNumbersOf (lead_at system) windows.leads
  pub parts : AreFoundNumbersOf (part_response system) windows.parts
