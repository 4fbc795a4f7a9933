-- A chain has one hyperperiod, and one witness of each exact length.
use Rattle.std.proofs.Common.{◌≡◌, ℕ, List, sym, ap, ◌∙◌, arith}
use Rattle.std.proofs.lemmas.Nat.Gcd.{dvd_antisymm}
use Rattle.cl_model.specs.declared.group.Group.{Group}
use Rattle.cl_runs.specs.{TaskTiming.System, Chains.{JobChain, chain_length, first_job, last_job}, RunChains.ideal_moments, Measured.IsLongest}
use Rattle.cl_runs.proofs.{OrderedMoments.ideal_unique, ChainsUnique.{forward_once, age_once, reduced_once}}
use Rattle.cl_exact.specs.{declared.witness.Witness.Witness, Hyperperiod.{IsHyperperiod, IsWithinLimit, IsPastLimit}, ExactLengths.{IsSteadyForward, IsSteadyAge, IsSteadyReduced, chain_of, IsExact, Witnesses, AreExactLengths}}

-- where chains of a kind are determined by a job, there is one longest of the least job
longest_once : (IsChain : JobChain → Type 0) (job_of : JobChain → ℕ) (one other : JobChain)
    → ((a b : JobChain) → IsChain a → IsChain b → job_of a ≡ job_of b → a ≡ b)
    → IsLongest IsChain job_of one → IsLongest IsChain job_of other → one ≡ other
longest_once IsChain job_of one other once first second =
    let length : chain_length other ≡ chain_length one = omega (arith, first.longest other second.is_chain, second.longest one first.is_chain) in
    once one other first.is_chain second.is_chain
    (omega (arith, first.least other second.is_chain length, second.least one first.is_chain (sym length)))

same_witness : (one other : Witness) → one.length ≡ other.length → chain_of one ≡ chain_of other → one ≡ other
same_witness one other length chain = λ i. record {
  length = length i;
  from = (chain i).from;
  to = (chain i).to;
  jobs = (chain i).jobs;
}

exact_once : (IsChain : JobChain → Type 0) (job_of : JobChain → ℕ) (one other : Witness)
    → ((a b : JobChain) → IsChain a → IsChain b → job_of a ≡ job_of b → a ≡ b)
    → IsExact IsChain job_of one → IsExact IsChain job_of other → one ≡ other
exact_once IsChain job_of one other once first second =
    let chain : chain_of one ≡ chain_of other = longest_once IsChain job_of (chain_of one) (chain_of other) once first.longest second.longest in
    same_witness one other (first.length ∙ ap chain_length chain ∙ sym second.length) chain

same_witnesses : (one other : Witnesses) → one.reaction ≡ other.reaction → one.age ≡ other.age → one.reduced ≡ other.reduced → one ≡ other
same_witnesses one other reaction age reduced = λ i. record { reaction = reaction i; age = age i; reduced = reduced i }

-- a chain has one exact length of each kind, and one witness of it
pub exact_unique : (system : System) (groups : List Group) (one other : Witnesses)
    → AreExactLengths system groups one → AreExactLengths system groups other → one ≡ other
exact_unique system groups one other first second =
    let unique = ideal_unique system groups in
    same_witnesses one other
    (exact_once (IsSteadyForward system groups) first_job one.reaction other.reaction
    (λ a b p q. forward_once (ideal_moments system) groups unique a b p.is_chain q.is_chain) first.reaction second.reaction)
    (exact_once (IsSteadyAge system groups) last_job one.age other.age
    (λ a b p q. age_once (ideal_moments system) groups unique a b p.is_chain q.is_chain) first.age second.age)
    (exact_once (IsSteadyReduced system groups) last_job one.reduced other.reduced
    (λ a b p q. reduced_once (ideal_moments system) groups unique a b p.is_chain q.is_chain) first.reduced second.reduced)

-- a chain has one hyperperiod
pub hyperperiod_once : (system : System) (groups : List Group) (one other : ℕ)
    → IsHyperperiod system groups one → IsHyperperiod system groups other → one ≡ other
hyperperiod_once system groups one other first second =
    dvd_antisymm (first.least other second.multiple) (second.least one first.multiple)

-- it isn't both within the limit and past it
pub within_or_past : (system : System) (groups : List Group) → IsWithinLimit system groups → IsPastLimit system groups → ⊥
within_or_past system groups within past =
    let same = hyperperiod_once system groups within.hyperperiod past.hyperperiod within.is_hyperperiod past.is_hyperperiod in
    absurd (omega (arith, same, within.within, past.past))
