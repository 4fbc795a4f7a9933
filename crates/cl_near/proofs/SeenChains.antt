-- A chain of a run of some cores is one of a legal run, and so is its length. Times are in ticks.
use Rattle.std.proofs.Common.{◌≡◌, ℕ, ◌-◌, ◌<◌, Option, Some, None, List, Bool, length, refl, sym, ap, ◌∙◌, subst, arith}
use Rattle.std.specs.Prelude.{IfSome}
use Rattle.std.specs.Option.{option_map}
use Rattle.std.proofs.lemmas.List.Elements.{All-weaker}
use Rattle.cl_model.specs.{declared.{chain.{LengthKind.{LengthKind, TheVariants.{Reaction, Age, Reduced}}, RequirementKind.{RequirementKind, TheVariants.{Length, Delay}}}, group.Group.Group, model.SystemModel.SystemModel}, Groups.{groups_at, group_at, IsGroupOf}, Validity.IsValid}
use Rattle.cl_model.proofs.GroupFacts.{groups_at_are}
use Rattle.cl_runs.specs.{TaskTiming.{System, timing_at}, SystemOf.system_of, Run.Run, Delays.IsDelayChain, Measured.{IsMeasuredBy, IsMeasured}, MomentOrder.AreGroupsOf, Requirements.{IsChainOfKind, IsChainRequired, HasLength}, RunChains.run_moments}
use Rattle.cl_runs.specs.Chains as chains
use Rattle.cl_runs.proofs.ModelSystem.{count_is, system_sound}
use Rattle.cl_run_data.specs.Parts.{is_among, IsLegalOn, ShowsGroups}
use Rattle.cl_run_data.proofs.{ShownTasks.part_shows_groups, AlikeChains.same_required}
use Rattle.cl_chain.specs.{declared.job_chain.{JobChain.JobChain, Measured.Measured}, GreatestDelays.IsGreatestDelayBy, JobChains.{job_chain_of, option_of, measured_of}}
use Rattle.cl_near.specs.{declared.chain_plan.ChainPlan.ChainPlan, Plans.IsPlanOfGroups, Inner.LongestChains.longest_of_length}

-- a longest chain is a chain of its kind
longest_is_chain : (IsChain : chains.JobChain → Type 0) (job_of : chains.JobChain → ℕ) (found : Option JobChain)
    → IsMeasuredBy IsChain job_of (option_of found) → IfSome found (λ (longest : JobChain). IsChain (job_chain_of longest))
longest_is_chain IsChain job_of None measured = tt
longest_is_chain IsChain job_of (Some longest) measured = measured.is_chain

greatest_is_chain : (IsChain : chains.JobChain → Type 0) (found : Option JobChain)
    → IsGreatestDelayBy IsChain (option_of found) → IfSome found (λ (longest : JobChain). IsChain (job_chain_of longest))
greatest_is_chain IsChain None greatest = tt
greatest_is_chain IsChain (Some longest) greatest = greatest.is_chain

module _ (system : System) (run : Run) (groups : List Group) where
  longest_of_length_is : (length : LengthKind) (measured : Measured) → IsMeasured (run_moments system run) groups (measured_of measured)
      → IfSome (longest_of_length length measured) (λ (longest : JobChain). IsChainOfKind length (run_moments system run) groups (job_chain_of longest))
  longest_of_length_is Reaction measured are =
      longest_is_chain (chains.IsForwardChain (run_moments system run) groups) chains.first_job measured.reaction are.is_reaction
  longest_of_length_is Age measured are =
      longest_is_chain (chains.IsAgeChain (run_moments system run) groups) chains.last_job measured.age are.is_age
  longest_of_length_is Reduced measured are =
      longest_is_chain (chains.IsReducedChain (run_moments system run) groups) chains.last_job measured.reduced are.is_reduced

  -- the longest chain of a kind of length is one of the kind that is required
  pub longest_length_required : (kind : RequirementKind) (length : LengthKind) → kind ≡ Length length
      → (measured : Measured) → IsMeasured (run_moments system run) groups (measured_of measured)
      → (found : Option JobChain) → found ≡ longest_of_length length measured
      → IfSome found (λ (longest : JobChain). IsChainRequired kind system run groups (job_chain_of longest))
  longest_length_required kind length same measured are found is =
      subst (λ (k : RequirementKind). IfSome found (λ (longest : JobChain). IsChainRequired k system run groups (job_chain_of longest))) (sym same)
      (subst (λ (f : Option JobChain). IfSome f (λ (longest : JobChain). IsChainOfKind length (run_moments system run) groups (job_chain_of longest))) (sym is)
      (longest_of_length_is length measured are))

  -- and so is the one of the greatest delay
  pub longest_delay_required : (kind : RequirementKind) → kind ≡ Delay
      → (found : Option JobChain) → IsGreatestDelayBy (IsDelayChain system run groups) (option_of found)
      → IfSome found (λ (longest : JobChain). IsChainRequired kind system run groups (job_chain_of longest))
  longest_delay_required kind same found greatest =
      subst (λ (k : RequirementKind). IfSome found (λ (longest : JobChain). IsChainRequired k system run groups (job_chain_of longest))) (sym same)
      (greatest_is_chain (IsDelayChain system run groups) found greatest)

module _ (model : SystemModel) (valid : IsValid model) (chain : ℕ) where
  group_known : (group : Group) → IsGroupOf model group → group.task < length (system_of model).tasks
  group_known group is = omega (arith, is.known, count_is model)

  groups_known : AreGroupsOf (system_of model) (groups_at model chain)
  groups_known = All-weaker (IsGroupOf model) (λ (group : Group). group.task < length (system_of model).tasks) group_known (groups_at model chain)
      (groups_at_are model valid chain)

  -- the run of a plan on its cores shows the tasks of the chain
  pub plan_shows_chain : (plan : ChainPlan) → IsPlanOfGroups model (groups_at model chain) plan → (cores : List Bool) → cores ≡ plan.cores → (run : Run)
      → IsLegalOn (system_of model) cores run → ShowsGroups (system_of model) (groups_at model chain) run
  plan_shows_chain plan of_groups cores same run legal = part_shows_groups (system_of model) (system_sound model valid) cores run legal
      (groups_at model chain) groups_known
      (λ place within. ap (λ (marked : List Bool). is_among marked (timing_at (system_of model) (group_at (groups_at model chain) place).task).core) same
      ∙ of_groups place within)

-- a chain of a run that shows its tasks has its length
length_occurs : (model : SystemModel) (chain : ℕ) (kind : RequirementKind) (run : Run) → ShowsGroups (system_of model) (groups_at model chain) run
    → (jobs : chains.JobChain) → IsChainRequired kind (system_of model) run (groups_at model chain) jobs
    → HasLength model chain kind (chains.chain_length jobs)
length_occurs model chain kind run shows jobs complete = record {
  run = shows.whole;
  legal = shows.legal;
  jobs = jobs;
  complete = (same_required (system_of model) (groups_at model chain) run shows.whole (record { alike = shows.alike }) kind jobs).0 complete;
  lasts = refl;
}

-- and so has the longest one that is found
found_occurs : (model : SystemModel) (chain : ℕ) (kind : RequirementKind) (run : Run) → ShowsGroups (system_of model) (groups_at model chain) run
    → (found : Option JobChain)
    → IfSome found (λ (longest : JobChain). IsChainRequired kind (system_of model) run (groups_at model chain) (job_chain_of longest))
    → IfSome (option_map (λ (longest : JobChain). longest.to - longest.from) found) (HasLength model chain kind)
found_occurs model chain kind run shows None complete = tt
found_occurs model chain kind run shows (Some longest) complete = length_occurs model chain kind run shows (job_chain_of longest) complete

pub length_found : (model : SystemModel) (chain : ℕ) (kind : RequirementKind) (run : Run) → ShowsGroups (system_of model) (groups_at model chain) run
    → (found : Option JobChain)
    → IfSome found (λ (longest : JobChain). IsChainRequired kind (system_of model) run (groups_at model chain) (job_chain_of longest))
    → (length : Option ℕ) → length ≡ option_map (λ (longest : JobChain). longest.to - longest.from) found
    → IfSome length (HasLength model chain kind)
length_found model chain kind run shows found complete length is =
    subst (λ (l : Option ℕ). IfSome l (HasLength model chain kind)) (sym is) (found_occurs model chain kind run shows found complete)
