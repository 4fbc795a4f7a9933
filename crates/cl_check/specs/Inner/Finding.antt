-- What a call finds of a list of faults.
use Rattle.std.specs.Prelude.{◌≡◌, List, [], Some, Result, Ok, Err}
use Rattle.cl_check.specs.{declared.run_fault.RunFault.RunFault, Legality.first_fault}

-- a call found no fault in a list, or its first one
abbrev pub Finds : {X : Type 0} → Result X RunFault → List RunFault → Type 0
Finds (Ok done) faults = faults ≡ []
Finds (Err fault) faults = first_fault faults ≡ Some fault
