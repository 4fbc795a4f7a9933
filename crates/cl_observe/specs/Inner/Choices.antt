-- The greatest response, and the least and the greatest number, when one job more is looked at.
use Rattle.std.specs.Prelude.{ℕ, ℤ, pos, ◌-ℤ◌, int_lt, Option, Some, None, if◌then◌else◌}
use Rattle.cl_observe.specs.declared.values.{GreatestResponse.GreatestResponse, Spread.Spread}

-- the response of the job where it is greater, or the first
abbrev pub or_response : Option GreatestResponse → (job : ℕ) → (response : ℤ) → GreatestResponse
or_response None job response = record { response = response; job = job }
or_response (Some found) job response = if int_lt found.response response then record { response = response; job = job } else found

-- the number as the least or the greatest where it is
abbrev pub or_number : Option Spread → (number : ℤ) → Spread
or_number None number = record { least = number; greatest = number }
or_number (Some found) number =
    if int_lt number found.least then record { least = number; greatest = found.greatest }
    else if int_lt found.greatest number then record { least = found.least; greatest = number }
    else found

-- the response of the job, or the time of a runnable in it, where it has finished
abbrev pub or_finish : Option GreatestResponse → (job arrival : ℕ) → (finish : Option ℕ) → Option GreatestResponse
or_finish found job arrival None = found
or_finish found job arrival (Some finish) = Some (or_response found job (pos finish -ℤ pos arrival))

abbrev pub or_time : Option Spread → (time : ℕ) → (finish : Option ℕ) → Option Spread
or_time found time None = found
or_time found time (Some finish) = Some (or_number found (pos time))
