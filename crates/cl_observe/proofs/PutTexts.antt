-- The texts that are put one behind the other.
use Rattle.std.proofs.Common.{◌≡◌, ◌⊎◌, ℕ, Option, List, ◌++◌, length, refl, ap, subst, ◌∙◌}
use Rattle.std.specs.Prelude.{codes}
use Rattle.std.proofs.lemmas.List.{append_assoc}
use Rattle.cl_text.specs.Line.{line}
use Rattle.cl_model.specs.{declared.model.SystemModel.SystemModel, ByNumber.task_at, Groups.groups_at}
use Rattle.cl_runs.specs.{Run.{Run, jobs_of}, SystemOf.system_of, RunChains.run_moments, Delays.IsDelayChain, Measured.IsMeasured}
use Rattle.cl_bound.specs.{declared.answer.TaskAnswer.TaskAnswer, Answers.answer_at}
use Rattle.cl_analyse.specs.{declared.findings.ChainAnswer.ChainAnswer, ChainAnswers.chain_answer_at}
use Rattle.cl_check.specs.InOrder.{IsRunInOrder}
use Rattle.cl_chain.specs.declared.job_chain.Measured as own_measured
use Rattle.cl_chain.specs.declared.job_chain.JobChain as own_chain
use Rattle.cl_chain.specs.{JobChains.{option_of, measured_of}, GreatestDelays.IsGreatestDelayBy}
use Rattle.cl_tight.specs.{declared.findings.TightFindings.TightFindings, TightFindings.tight_findings_of}
use Rattle.cl_observe.specs.{declared.{values.Spread.Spread, task_shown.ShownTask.ShownTask}, Shown.{IsShownTask, IsShownTime}, Rules.IsLegalityLine, Observed.{observed_runnable_line, shown_line, observed_jitter_line, length_of, kind_length_lines, GoesOnWith, IsMadeOf, IsTimeLine}}
use Rattle.cl_observe.specs.Observed.{IsTaskText, IsChainText, IsShownInOrder, IsUnordered, IsObservationOf}

module _ (model : SystemModel) (run : Run) where
  -- ---- tasks

  pub time_put : (task place : ℕ) (time : Option Spread) → IsShownTime (system_of model) run task place time → (old new : List ℕ)
      → new ≡ old ++ observed_runnable_line model task place time → GoesOnWith (IsTimeLine model run task place) old new
  time_put task place time shown old new put = record {
    piece = observed_runnable_line model task place time;
    is = record { time = time; shown = shown; printed = refl };
    joined = put;
  }

  pub task_put : (answer : TaskAnswer) (task jobs : ℕ) (shown : ShownTask) → IsShownTask (system_of model) run task shown → jobs ≡ length (jobs_of run task)
      → (old one two new : List ℕ) → one ≡ old ++ shown_line model answer task jobs shown → two ≡ one ++ observed_jitter_line model task shown.jitter
      → GoesOnWith (IsMadeOf (IsTimeLine model run task) (length (task_at model task).runnables)) two new
      → GoesOnWith (IsTaskText model run answer task) old new
  task_put answer task jobs shown is count old one two new first second times =
      let head = shown_line model answer task (length (jobs_of run task)) shown in
      let jitter = observed_jitter_line model task shown.jitter in
      record {
        piece = (head ++ jitter) ++ times.piece;
        is = record { shown = shown; is_shown = is; times = times.piece; are_times = times.is; printed = refl };
        joined = times.joined
            ∙ ap (λ t. t ++ times.piece)
            (second ∙ ap (λ t. t ++ jitter) (first ∙ ap (λ n. old ++ shown_line model answer task n shown) count) ∙ append_assoc old head jitter)
            ∙ append_assoc old (head ++ jitter) times.piece;
      }

  -- ---- chains

  pub chain_put : (answer : ChainAnswer) (chain : ℕ) (measured : own_measured.Measured) (delay : Option own_chain.JobChain)
      → IsMeasured (run_moments (system_of model) run) (groups_at model chain) (measured_of measured)
      → IsGreatestDelayBy (IsDelayChain (system_of model) run (groups_at model chain)) (option_of delay) → (old new : List ℕ)
      → new ≡ old ++ kind_length_lines model answer chain (measured_of measured) (length_of (option_of delay)) → GoesOnWith (IsChainText model run answer chain) old new
  chain_put answer chain measured delay is greatest old new put = record {
    piece = kind_length_lines model answer chain (measured_of measured) (length_of (option_of delay));
    is = record { measured = measured_of measured; is_measured = is; delay = option_of delay; is_delay = greatest; printed = refl };
    joined = put;
  }

  -- ---- the run

  abbrev TaskLines : List TaskAnswer → List ℕ → Type 0
  TaskLines answers = IsMadeOf (λ task. IsTaskText model run (answer_at answers task) task) (length model.tasks)

  abbrev ChainLines : List ChainAnswer → List ℕ → Type 0
  ChainLines answers = IsMadeOf (λ chain. IsChainText model run (chain_answer_at answers chain) chain) (length model.chains)

  pub all_put : (findings : TightFindings) → findings ≡ tight_findings_of model → (tasks : List TaskAnswer) → tasks ≡ findings.tasks → (chains : List ChainAnswer)
      → chains ≡ findings.chains → IsRunInOrder (system_of model) run → (old middle new : List ℕ) → GoesOnWith (TaskLines tasks) old middle
      → GoesOnWith (ChainLines chains) middle new → GoesOnWith (IsShownInOrder model run) old new
  all_put findings found tasks of_tasks chains of_chains in_order old middle new first second =
      let tasks_are = of_tasks ∙ ap (λ (f : TightFindings). f.tasks) found in
      let chains_are = of_chains ∙ ap (λ (f : TightFindings). f.chains) found in
      record {
        piece = first.piece ++ second.piece;
        is = record {
          in_order = in_order;
          tasks = first.piece;
          are_tasks = subst (λ (answers : List TaskAnswer). TaskLines answers first.piece) tasks_are first.is;
          chains = second.piece;
          are_chains = subst (λ (answers : List ChainAnswer). ChainLines answers second.piece) chains_are second.is;
          printed = refl;
        };
        joined = second.joined ∙ ap (λ t. t ++ second.piece) first.joined ∙ append_assoc old first.piece second.piece;
      }

  pub observation_put : (title legality text : List ℕ) → title ≡ line (codes "chainlat observed 1") → GoesOnWith (IsLegalityLine model run) title legality
      → GoesOnWith (λ shown. IsShownInOrder model run shown ⊎ IsUnordered model run shown) legality text → IsObservationOf model run text
  observation_put title legality text is first second = record {
    legality = first.piece;
    is_legality = first.is;
    shown = second.piece;
    is_shown = second.is;
    printed = second.joined ∙ ap (λ t. t ++ second.piece) (first.joined ∙ ap (λ t. t ++ first.piece) is);
  }
