-- What a sink may do with a piece.
use Rattle.std.specs.Prelude.{◌≡◌, ℕ, ◌<◌, ◌≤◌, List, ◌++◌, length, take, Option, Result, Ok, Err}
use Rattle.std.specs.Option.{option_map}
use Rattle.cl_io.specs.{Counts.Rose, declared.fault.{SinkFault.SinkFault, WriteFault.WriteFault}}
use Rattle.cl_io.specs.declared.fault.SinkFault.TheVariants as sink_fault
use Rattle.cl_io.specs.declared.fault.WriteFault.TheVariants as write_fault

-- what is written once these bytes are taken too, where the sink tells it
abbrev pub appended : Option (List ℕ) → List ℕ → Option (List ℕ)
appended written bytes = option_map (λ text. text ++ bytes) written

-- What a write of a piece may answer, by the sink's count of faults and by what is written, before the call and after
-- it. The count stays where bytes are taken, and has risen where the write failed.
abbrev pub MayTake : List ℕ → (faults_before faults_after : ℕ) (before after : Option (List ℕ)) → Result ℕ SinkFault → Type 0
MayTake piece faults_before faults_after before after (Ok taken) =
    (taken ≤ length piece) × (0 < length piece → 0 < taken) × (faults_after ≡ faults_before) × (after ≡ appended before (take taken piece))
MayTake piece faults_before faults_after before after (Err sink_fault.Failed) = Rose faults_before faults_after × (after ≡ before)

-- What the writing of a whole piece may answer. Where it was written whole, no write failed.
abbrev pub MayWrite : List ℕ → (faults_before faults_after : ℕ) (before after : Option (List ℕ)) → Result (Unit {0}) WriteFault → Type 0
MayWrite piece faults_before faults_after before after (Ok done) = (faults_after ≡ faults_before) × (after ≡ appended before piece)
MayWrite piece faults_before faults_after before after (Err (write_fault.Failed written)) =
    Rose faults_before faults_after × (written < length piece) × (after ≡ appended before (take written piece))
