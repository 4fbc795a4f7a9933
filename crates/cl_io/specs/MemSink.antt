-- A sink in memory.
use Rattle.std.specs.Prelude.{ℕ, ◌-◌, min, Bool, true, false, ◌||◌, ◌==◌, if◌then◌else◌, List, [], ◌++◌, length, take, Result, Ok, Err}
use Rattle.std.specs.List.{list_any}
use Rattle.cl_io.specs.{declared.fault.SinkFault.{SinkFault, TheVariants.Failed}, Counts.counted}

pub record MemSinkState : Type 0 where
  -- all that was written
  pub written : List ℕ
  -- how many bytes it takes in all
  pub room : ℕ
  -- how many bytes one write takes at most
  pub step : ℕ
  -- the numbers of the writes that fail, from 0 for the first
  pub failing : List ℕ
  -- how many writes there were, and how many of them failed; at the greatest u64 both stay
  pub calls : ℕ
  pub faults : ℕ
  -- whether the last write failed
  pub last_failed : Bool

abbrev pub new_sink : (room step : ℕ) → MemSinkState
new_sink room step = record { written = []; room = room; step = step; failing = []; calls = 0; faults = 0; last_failed = false }

-- The next write fails: no room is left, or it is one of those that are to fail.
abbrev pub write_fails_next : MemSinkState → Bool
write_fails_next sink = (sink.room - length sink.written) == 0 || list_any (λ call. call == sink.calls) sink.failing

-- how many bytes of a piece the next write takes, where it doesn't fail
abbrev pub taken_next : MemSinkState → List ℕ → ℕ
taken_next sink piece = min (min (length piece) sink.step) (sink.room - length sink.written)

-- what the next write answers
abbrev pub answer_of : MemSinkState → List ℕ → Result ℕ SinkFault
answer_of sink piece = if write_fails_next sink then Err Failed else Ok (taken_next sink piece)

-- what it leaves
abbrev pub after_write : MemSinkState → List ℕ → MemSinkState
after_write sink piece =
    if write_fails_next sink
    then record sink { calls = counted sink.calls; faults = counted sink.faults; last_failed = true }
    else record sink { calls = counted sink.calls; last_failed = false; written = sink.written ++ take (taken_next sink piece) piece }
