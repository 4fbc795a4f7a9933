-- What is simulated can be replayed.
use Rattle.std.proofs.Common.{◌≡◌, ℕ, ◌≤◌, inl, inr, List, Some, sym, ap, subst, ◌∙◌, arith, length}
use Rattle.std.proofs.lemmas.Bool.{cases_lt}
use Rattle.cl_model.specs.{declared.model.SystemModel.SystemModel, AreNamed.AreNamed, Reading.model_of, Validity.IsValid}
use Rattle.cl_model.proofs.ReadModels.{read_named}
use Rattle.cl_runs.specs.{Legal.IsLegal, Run.Run, SystemOf.system_of}
use Rattle.cl_gen.specs.{declared.limits.TheConstants.{MOST_RUN_TICKS, MOST_EXECUTIONS}, Count.execution_count}
use Rattle.cl_gen.proofs.LawfulTables.{table_ticks}
use Rattle.cl_trace.specs.Trace.{spelled}
use Rattle.cl_trace.proofs.{LegalTraces.legal_trace, OneTrace.{one_run, no_bad_line}, ShortTraces.short_trace}
use Rattle.cl_top.specs.{declared.command.{TheConstants.TRACE_LIMIT, Command.TheVariants.Replay}, Commands.{command_meaning, commands, Replay.{IsReplayed, IsOfReplay}, Simulate.{IsSimulated, IsTraced}}, OfTrace.IsOfRun, Simulated.IsSimulatedFile}
use Rattle.cl_engine.specs.{declared.{outcome.Outcome.Outcome, status.TheConstants.DONE}, Fetched.{Fetched, Bytes, told_fetch}, Content.MeansModel, Files.{model_file, second_file}, Outcome.{ValidatesTo, ReadsTo, OpensTo, HasOutcome}}
use Rattle.cl_top.proofs.{CountedExecutions.table_counted, AnswersOfRuns.breaks_none}
use Rattle.cl_engine.proofs.{Openings.valid_read, Outcomes.done_model, Tellings.told_bytes}

-- what comes next of a file whose bytes mean a model
next_of : (next : SystemModel → Outcome → Type 0) (found : Outcome) (fetch : Fetched) (bytes : List ℕ) (model : SystemModel) → fetch ≡ Bytes bytes
    → MeansModel bytes model → OpensTo 1 fetch (λ bytes. ReadsTo (model_of bytes) next) found → next model found
next_of next found fetch bytes model gave is opens =
    subst (λ refusal. ValidatesTo model refusal next found) is.unrefused
    (subst (λ read. ReadsTo read next found) is.means
    (subst (λ (f : Fetched). OpensTo 1 f (λ bytes. ReadsTo (model_of bytes) next) found) gave opens))

module _ (model : SystemModel) (valid : IsValid model) (named : AreNamed model) (run : Run) (legal : IsLegal (system_of model) run) (few : run.table.ticks ≤ MOST_RUN_TICKS) where
  -- the trace of a legal run whose executions are few enough is within the limit of a file
  fits : execution_count model run.table.ticks ≤ MOST_EXECUTIONS → length (spelled model run) ≤ TRACE_LIMIT
  fits counted = omega (arith, counted, short_trace model valid named run legal few, table_counted model valid run.table legal.lawful)

  replayed_run : (found : Outcome) → IsOfRun model (IsReplayed model) run found → found.status ≡ DONE
  replayed_run found (inl is) = is.outcome.status_is
  replayed_run found (inr is) = breaks_none model run found legal is

  -- the trace of a legal run is replayed
  replayed : (found : Outcome) → IsOfReplay model (spelled model run) found → found.status ≡ DONE
  replayed found (inl has) =
      replayed_run found (subst (λ r. IsOfRun model (IsReplayed model) r found) (one_run model valid named (spelled model run) has.run run has.trace (legal_trace model valid run legal few)) has.of_run)
  replayed found (inr bad) = absurd (no_bad_line model valid named (spelled model run) run bad.number (legal_trace model valid run legal few) bad.bad)

module _ (contents : ℕ → List ℕ) (ticks seed : ℕ) (found : Outcome) (file : IsSimulatedFile contents ticks seed) (replays : HasOutcome commands (Some Replay) (told_fetch contents) found) where
  module _ (bytes : List ℕ) (model : SystemModel) (gave : told_fetch contents model_file ≡ Bytes bytes) (means : MeansModel bytes model) (comes : IsSimulated ticks seed model file.outcome) where
    -- the trace file, opened
    opened : OpensTo 2 (told_fetch contents (second_file TRACE_LIMIT)) (IsOfReplay model) found
    unfolding command_meaning
    opened = next_of (λ m. OpensTo 2 (told_fetch contents (second_file TRACE_LIMIT)) (IsOfReplay m)) found (told_fetch contents model_file) bytes model gave means replays

    of_trace : IsTraced ticks seed model file.outcome → execution_count model ticks ≤ MOST_EXECUTIONS → found.status ≡ DONE
    of_trace is counted =
        let valid : IsValid model = valid_read bytes model means in
        let named : AreNamed model = read_named bytes model means.means in
        let same : is.run.table.ticks ≡ ticks = ap (λ table. table.ticks) is.table ∙ table_ticks model ticks seed in
        let few : is.run.table.ticks ≤ MOST_RUN_TICKS = subst (λ t. t ≤ MOST_RUN_TICKS) (sym same) file.few in
        let holds : contents 2 ≡ spelled model is.run = file.holds ∙ ap (λ (o : Outcome). o.text) is.printed in
        let short : length (spelled model is.run) ≤ TRACE_LIMIT = fits model valid named is.run is.legal few (subst (λ t. execution_count model t ≤ MOST_EXECUTIONS) (sym same) counted) in
        let within : length (contents 2) ≤ TRACE_LIMIT = subst (λ (text : List ℕ). length text ≤ TRACE_LIMIT) (sym holds) short in
        let told : IsOfReplay model (contents 2) found = subst (λ (f : Fetched). OpensTo 2 f (IsOfReplay model) found) (told_bytes TRACE_LIMIT (contents 2) within) opened in
        replayed model valid named is.run is.legal few found (subst (λ (text : List ℕ). IsOfReplay model text found) holds told)

    of_model : found.status ≡ DONE
    of_model = elim (cases_lt MOST_EXECUTIONS (execution_count model ticks)) [
      | inl many ↦ absurd (omega (arith, file.done, ap (λ (o : Outcome). o.status) (comes.refused many)))
      | inr counted ↦ of_trace (comes.simulated counted) counted
    ]

  pub simulation_replayed : found.status ≡ DONE
  unfolding command_meaning
  simulation_replayed =
      let (bytes, gave, (model, means, comes)) = done_model file.outcome (inl file.done) (told_fetch contents model_file) (IsSimulated ticks seed) file.comes in
      of_model bytes model gave means comes
