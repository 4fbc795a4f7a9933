-- Each run has a replay.
use Rattle.std.proofs.Common.{ℕ, ◌<◌, inl, inr, List, length, map, refl, subst, sym, arith}
use Rattle.std.specs.List.{range_with_len}
use Rattle.std.proofs.lemmas.List.FromFn.{get_or-map-range_with_len, length-map-range_with_len}
use Rattle.cl_model.specs.{declared.model.SystemModel.SystemModel, Groups.groups_at, Validity.IsValid}
use Rattle.cl_model.proofs.GroupFacts.{groups_at_some}
use Rattle.cl_runs.specs.{Run.Run, RunChains.run_moments, SystemOf.system_of, Measured.{Measured, IsMeasured}}
use Rattle.cl_analyse.proofs.SomeFindings.{some_findings}
use Rattle.cl_replay.specs.Replay.{nothing_measured, AreMeasured, IsReplayOf, replay_text}
use Rattle.cl_chain.proofs.{DecidedMoments.{Decided, lt_or_not}, SomeMeasured.run_measured}

module _ (model : SystemModel) (valid : IsValid model) (run : Run) where
  measured_of : (chain : ℕ) → Decided (0 < length (groups_at model chain)) → Measured
  measured_of chain (inl some) = (run_measured (system_of model) run (groups_at model chain) some).0
  measured_of chain (inr none) = nothing_measured

  measured_is : (chain : ℕ) (some : Decided (0 < length (groups_at model chain))) → 0 < length (groups_at model chain)
      → IsMeasured (run_moments (system_of model) run) (groups_at model chain) (measured_of chain some)
  unfolding measured_of
  measured_is chain (inl some) there = (run_measured (system_of model) run (groups_at model chain) some).1
  measured_is chain (inr none) there = absurd (none there)

  abbrev of_chain : ℕ → Measured
  of_chain chain = measured_of chain (lt_or_not 0 (length (groups_at model chain)))

  all_measured : List Measured
  all_measured = map of_chain (range_with_len 0 (length model.chains))

  are_measured : AreMeasured model run all_measured
  unfolding all_measured
  are_measured = record {
    one_a_chain = length-map-range_with_len of_chain 0 (length model.chains);
    each = λ chain lt.
        subst (IsMeasured (run_moments (system_of model) run) (groups_at model chain))
        (sym (get_or-map-range_with_len of_chain 0 (length model.chains) chain chain nothing_measured lt (omega arith)))
        (measured_is chain (lt_or_not 0 (length (groups_at model chain))) (groups_at_some model valid chain lt));
  }

  -- a text is its replay
  pub some_replay : (text : List ℕ) × IsReplayOf model run text
  some_replay =
      let (findings, found) = some_findings model valid in (
        replay_text model findings all_measured,
        record {
          findings = findings;
          found = found;
          measured = all_measured;
          are_measured = are_measured;
          printed = refl;
        },
      )
