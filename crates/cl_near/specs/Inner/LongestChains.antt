-- Which of the measured chains of a run is the longest of a kind of length.
use Rattle.std.specs.Prelude.{Option}
use Rattle.cl_model.specs.declared.chain.LengthKind.{LengthKind, TheVariants.{Reaction, Age, Reduced}}
use Rattle.cl_chain.specs.declared.job_chain.{JobChain.JobChain, Measured.Measured}

-- the longest chain of a kind of length, if there is one
abbrev pub longest_of_length : LengthKind → Measured → Option JobChain
longest_of_length Reaction measured = measured.reaction
longest_of_length Age measured = measured.age
longest_of_length Reduced measured = measured.reduced
