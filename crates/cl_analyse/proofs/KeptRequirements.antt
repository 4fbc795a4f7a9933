-- What is found met is kept: the value that was found is at least the length of every complete chain. What is found
-- broken is broken: some complete chain of some run is as long as the value.
use Rattle.std.proofs.Common.{◌≡◌, ◌⊎◌, ℕ, ◌≤◌, Bool, true, false, Option, Some, None, inl, inr, List, refl, nat_le, arith, ◌+◌, ap, ◌<◌}
use Rattle.std.specs.Prelude.{if◌then◌else◌}
use Rattle.std.proofs.lemmas.Bool.Decides.{nat_tests}
use Rattle.cl_model.specs.declared.{chain.{LengthKind.{LengthKind, TheVariants.{Reaction, Age, Reduced}}, RequirementKind.{RequirementKind, TheVariants.{Length, Delay}}}, group.Group.Group}
use Rattle.cl_runs.specs.{TaskTiming.System, Run.Run, Chains.{JobChain, chain_length, last_group}, RunChains.run_moments, Requirements.{IsChainOfKind, IsChainRequired}}
use Rattle.cl_hop.specs.{Bounds.Lengths, Promises.AreAtLeast}
use Rattle.cl_exact.specs.{Hyperperiod.period_of, ExactLengths.{Witnesses, chain_of}, RunPromises.{AreGreatestIn, AreAttainedIn}}
use Rattle.cl_analyse.specs.{declared.findings.{ChainAnswer.ChainAnswer, ExactAnswer.{ExactAnswer, TheVariants.{Exact, Past, NotTimed, ChainLate}}, Verdict.TheVariants.{Met, Broken, Unshown}}, Verdicts.{witness_of_kind, limited_bound, required_bound, required_exact, verdict_on}}
use Rattle.cl_analyse.specs.declared.findings.ChainAnswer.TheVariants as bounded

-- ---- the value of what is met

abbrev pub MetBy : (most : ℕ) (exact bound : Option ℕ) → Type 0
MetBy most exact bound = (value : ℕ) × (value ≤ most) × ((exact ≡ Some value) ⊎ (bound ≡ Some value))

met_exact : (most own value : ℕ) (test : Bool) → nat_le own most ≡ test → (if test then Met own else Broken own) ≡ Met value → own ≤ most
met_exact most own value true test is = grind (arith, nat_tests)
met_exact most own value false test is = absurd cc

met_bound : (most own value : ℕ) (test : Bool) → nat_le own most ≡ test → (if test then Met own else Unshown (Some own)) ≡ Met value → own ≤ most
met_bound most own value true test is = grind (arith, nat_tests)
met_bound most own value false test is = absurd cc

pub met_by : (most value : ℕ) (exact bound : Option ℕ) → verdict_on most exact bound ≡ Met value → MetBy most exact bound
met_by most value (Some own) bound is = (own, met_exact most own value (nat_le own most) refl is, inl refl)
met_by most value None (Some own) is = (own, met_bound most own value (nat_le own most) refl is, inr refl)
met_by most value None None is = absurd cc

-- ---- the value of what is broken

broken_with : (most own value : ℕ) (test : Bool) → nat_le own most ≡ test → (if test then Met own else Broken own) ≡ Broken value → (own ≡ value) × (most < own)
broken_with most own value true test is = absurd cc
broken_with most own value false test is = (cc, grind (arith, nat_tests))

not_broken : (own value : ℕ) (test : Bool) → (if test then Met own else Unshown (Some own)) ≡ Broken value → ⊥
not_broken own value true is = cc
not_broken own value false is = cc

pub broken_by : (most value : ℕ) (exact bound : Option ℕ) → verdict_on most exact bound ≡ Broken value → (exact ≡ Some value) × (most < value)
broken_by most value (Some own) bound is =
    let (same, longer) = broken_with most own value (nat_le own most) refl is in (ap Some same, omega (arith, same, longer))
broken_by most value None (Some own) is = absurd (not_broken own value (nat_le own most) is)
broken_by most value None None is = absurd cc

-- ---- where a value comes from

-- an exact value is the length of the witness of a kind
pub required_valued : (kind : RequirementKind) (answer : ExactAnswer) (value : ℕ) → required_exact kind answer ≡ Some value
    → (own : LengthKind) × (kind ≡ Length own) × (lengths : Witnesses) × (answer ≡ Exact lengths) × ((witness_of_kind own lengths).length ≡ value)
required_valued (Length kind) (Exact lengths) value is = (kind, refl, lengths, refl, cc)
required_valued Delay (Exact lengths) value is = absurd cc
required_valued kind (Past limit) value is = absurd cc
required_valued kind NotTimed value is = absurd cc
required_valued kind ChainLate value is = absurd cc

pub bound_valued : (kind : RequirementKind) (answer : ChainAnswer) (value : ℕ) → required_bound kind answer ≡ Some value
    → (bounds : Lengths) × (answer ≡ bounded.Bounds bounds) × (limited_bound kind bounds ≡ value)
bound_valued kind (bounded.Bounds bounds) value is = (bounds, refl, cc)
bound_valued kind (bounded.Late task) value is = absurd cc

-- ---- chains of a kind

-- a chain of a kind of requirement that is so long
pub record HasChain (system : System) (groups : List Group) (run : Run) (kind : RequirementKind) (length : ℕ) : Type 0 where
  pub chain : JobChain
  pub complete : IsChainRequired kind system run groups chain
  pub is_long : chain_length chain ≡ length

-- a run that lasts to the end of each witness has a chain of each exact length
pub kind_attained : (system : System) (groups : List Group) (run : Run) (kind : LengthKind) (lengths : Witnesses) → AreAttainedIn system groups lengths run
    → lengths.reaction.to + lengths.age.to + (lengths.reduced.to + period_of system (last_group groups)) ≤ run.table.ticks
    → HasChain system groups run (Length kind) (witness_of_kind kind lengths).length
kind_attained system groups run Reaction lengths attained lasts =
    let found = attained.reaction (omega (arith, lasts)) in record { chain = chain_of lengths.reaction; complete = found.is_chain; is_long = found.length }
kind_attained system groups run Age lengths attained lasts =
    let found = attained.age (omega (arith, lasts)) in record { chain = chain_of lengths.age; complete = found.is_chain; is_long = found.length }
kind_attained system groups run Reduced lengths attained lasts =
    let found = attained.reduced (omega (arith, lasts)) in record { chain = chain_of lengths.reduced; complete = found.is_chain; is_long = found.length }

module _ (system : System) (groups : List Group) (run : Run) (chain : JobChain) where
  pub kind_exact : (kind : LengthKind) (lengths : Witnesses) → AreGreatestIn system groups lengths run → IsChainOfKind kind (run_moments system run) groups chain
      → chain_length chain ≤ (witness_of_kind kind lengths).length
  kind_exact Reaction lengths greatest is = greatest.reaction chain is
  kind_exact Age lengths greatest is = greatest.age chain is
  kind_exact Reduced lengths greatest is = greatest.reduced chain is

  pub kind_bound : (kind : RequirementKind) (bounds : Lengths) → AreAtLeast system groups bounds run → IsChainRequired kind system run groups chain
      → chain_length chain ≤ limited_bound kind bounds
  kind_bound (Length Reaction) bounds safe is = safe.reaction chain is
  kind_bound (Length Age) bounds safe is = safe.age chain is
  kind_bound (Length Reduced) bounds safe is = safe.reduced chain is
  kind_bound Delay bounds safe is = safe.delay chain is
