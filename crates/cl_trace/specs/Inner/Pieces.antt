-- What the reading of a piece or of a line answers.
use Rattle.std.specs.Prelude.{◌≡◌, ℕ, ◌^◌, ◌<◌, ◌≤◌, List, ◌++◌, Option, Some, None, length, take, slice_index, All, count_by, ◌==◌}
use Rattle.std.specs.Char.{IsAsciiDigit}
use Rattle.std.specs.Str.Parse.{AllDigits, digits_value}
use denote.Bor.{Bor}
use Rattle.cl_model.specs.{Name.IsName, declared.model.SystemModel.SystemModel, ByNumber.task_at}
use Rattle.cl_trace.specs.{declared.limits.TheConstants.MOST_TRACE_NUMBER, Trace.numbers}

-- it answers this number, before this rest
abbrev pub IsRead : Option (ℕ × Bor (List ℕ)) → ℕ → List ℕ → Type 0
IsRead None n rest = ⊥
IsRead (Some read) n rest = (read.0 ≡ n) × (read.1.now ≡ rest)

-- so many digits write this number of 64 bits, and the text begins with no more of them
pub record AreDigitsOf (text : List ℕ) (count number : ℕ) : Type 0 where
  pub within : count ≤ length text
  pub digits : AllDigits 10 (take count text)
  pub value : digits_value 10 (take count text) ≡ number
  pub fits : number < 2 ^ 64
  pub ends : count < length text → ¬ IsAsciiDigit (slice_index text count)

-- it answers these two numbers, before this rest
abbrev pub AreRead : Option (ℕ × ℕ × Bor (List ℕ)) → (m n : ℕ) → List ℕ → Type 0
AreRead None m n rest = ⊥
AreRead (Some read) m n rest = (read.0 ≡ m) × (read.1 ≡ n) × (read.2.now ≡ rest)

-- so many numbers of a job line, before a rest
pub record AreTimes (count : ℕ) (text times rest : List ℕ) : Type 0 where
  pub size : length times ≡ count
  pub in_range : All (λ time. time ≤ MOST_TRACE_NUMBER) times
  pub parts : text ≡ numbers times ++ rest

-- the names of the tasks are names
abbrev pub AreTasksNamed : SystemModel → Type 0
AreTasksNamed model = (task : ℕ) → task < length model.tasks → IsName (task_at model task).name

-- how many lines end in a text
abbrev pub newlines : List ℕ → ℕ
newlines text = count_by (λ byte. byte == 0x0A) text
