-- What the calls answer, in the words of the definitions of chains.
use Rattle.std.specs.Prelude.{◌≡◌, ℕ, Option, Some, None}
use Rattle.cl_runs.specs.Chains as chains
use Rattle.cl_runs.specs.Measured as measured
use Rattle.cl_chain.specs.declared.job_chain.{JobChain.JobChain, Measured.Measured}

-- an answer as a job chain of the definitions
abbrev pub job_chain_of : JobChain → chains.JobChain
job_chain_of chain = record { from = chain.from; to = chain.to; jobs = chain.jobs }

-- the same where there may be none
abbrev pub option_of : Option JobChain → Option chains.JobChain
option_of None = None
option_of (Some chain) = Some (job_chain_of chain)

-- an answer as the measured chains of the definitions
abbrev pub measured_of : Measured → measured.Measured
measured_of answer = record {
  reaction = option_of answer.reaction;
  age = option_of answer.age;
  reduced = option_of answer.reduced;
  forward = answer.forward;
  backward = answer.backward;
}

-- the chain of a kind whose first (or last) job is a given one, and none where there is no such chain
abbrev pub IsChainOf : (IsChain : chains.JobChain → Type 0) → (job_of : chains.JobChain → ℕ) → (job : ℕ) → Option chains.JobChain → Type 0
IsChainOf IsChain job_of job None = (chain : chains.JobChain) → IsChain chain → job_of chain ≡ job → ⊥
IsChainOf IsChain job_of job (Some chain) = IsChain chain × (job_of chain ≡ job)
