-- Where no delay is negative the greatest is a longest chain. It is so in a run that shows the chain's groups of a legal one.
use Rattle.std.proofs.Common.{ℕ, ◌<◌, Option, Some, None, arith}
use Rattle.cl_model.specs.{declared.model.SystemModel.SystemModel, ByNumber.chain_at, Groups.{groups_of, groups_at, steps_of}, Validity.IsValid}
use Rattle.cl_runs.specs.{SystemOf.system_of, Run.Run, Chains.{JobChain, first_job}, Delays.IsDelayChain, Measured.IsMeasuredBy}
use Rattle.cl_runs.proofs.ModelSystem.{system_sound}
use Rattle.cl_run_data.specs.Parts.{ShowsGroups}
use Rattle.cl_run_data.proofs.AlikeChains.{delay_alike}
use Rattle.cl_chain.specs.GreatestDelays.{IsGreatestDelayBy}
use Rattle.cl_chain.proofs.DelayOrder.{run_delay_ordered}

module _ (IsChain : JobChain → Type 0) (after : (chain : JobChain) → IsChain chain → chain.from < chain.to) where
  greatest_is_longest : (found : Option JobChain) → IsGreatestDelayBy IsChain found → IsMeasuredBy IsChain first_job found
  greatest_is_longest None none = none
  greatest_is_longest (Some chain) is = record {
    is_chain = is.is_chain;
    longest = λ other is_other. omega (arith, is.greatest other is_other, after chain is.is_chain, after other is_other);
    least = λ other is_other equal. is.least other is_other (omega (arith, equal, after chain is.is_chain, after other is_other));
  }

module _ (model : SystemModel) (valid : IsValid model) (run : Run) (chain : ℕ) (shows : ShowsGroups (system_of model) (groups_at model chain) run) where
  delay_later : (c : JobChain) → IsDelayChain (system_of model) run (groups_at model chain) c → c.from < c.to
  unfolding groups_of
  delay_later c is = run_delay_ordered (system_of model) (system_sound model valid) shows.whole shows.legal (steps_of model (chain_at model chain)) c
      (delay_alike (system_of model) (groups_at model chain) run shows.whole (record { alike = shows.alike }) c is)

  pub shown_delay_measured : (found : Option JobChain) → IsGreatestDelayBy (IsDelayChain (system_of model) run (groups_at model chain)) found
      → IsMeasuredBy (IsDelayChain (system_of model) run (groups_at model chain)) first_job found
  shown_delay_measured = greatest_is_longest (IsDelayChain (system_of model) run (groups_at model chain)) delay_later
