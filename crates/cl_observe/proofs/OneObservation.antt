-- A run shows one thing.
use Rattle.std.proofs.Common.{◌≡◌, ◌⊎◌, ℕ, inl, inr, Option, Some, None, List, ◌++◌, length, refl, sym, ap, ◌∙◌, arith}
use Rattle.std.specs.Prelude.{pos, ◌-ℤ◌, codes}
use Rattle.std.proofs.lemmas.Int.{ints}
use Rattle.cl_text.specs.Line.{line}
use Rattle.cl_model.specs.{declared.model.SystemModel.SystemModel, Groups.groups_at}
use Rattle.cl_runs.specs.{Run.{Run, jobs_of}, SystemOf.system_of, Chains.JobChain, RunChains.run_moments, Measured.Measured}
use Rattle.cl_runs.proofs.{MeasuredOnce.measured_once, OrderedMoments.run_unique}
use Rattle.cl_bound.specs.{declared.answer.TaskAnswer.TaskAnswer, Answers.answer_at}
use Rattle.cl_analyse.specs.{declared.findings.ChainAnswer.ChainAnswer, ChainAnswers.chain_answer_at}
use Rattle.cl_chain.specs.GreatestDelays.{IsGreatestDelayBy}
use Rattle.cl_tight.specs.TightFindings.{tight_findings_of}
use Rattle.cl_observe.specs.{declared.task_shown.ShownTask.ShownTask, Shown.{MissesItsDeadline, HasResponseIn, HasJitterIn, HasTimeIn, IsShownTask}, Observed.{observed_runnable_line, shown_line, observed_jitter_line, length_of, kind_length_lines, IsTimeLine, IsTaskText, IsChainText}}
use Rattle.cl_observe.specs.Observed.{IsShownInOrder, IsUnordered, IsObservationOf}
use Rattle.cl_observe.proofs.{OneValue.{counts_once, greatest_once, spread_once}, OneRule.one_legality, MadeTexts.made_once}

module _ (model : SystemModel) (run : Run) where
  -- ---- a task

  same_shown : (a b : ShownTask) → a.misses ≡ b.misses → a.response ≡ b.response → a.jitter ≡ b.jitter → a ≡ b
  same_shown a b misses response jitter = λ i. record { misses = misses i; response = response i; jitter = jitter i }

  shown_once : (task : ℕ) (a b : ShownTask) → IsShownTask (system_of model) run task a → IsShownTask (system_of model) run task b → a ≡ b
  shown_once task a b one other = same_shown a b
      (counts_once (MissesItsDeadline (system_of model) run task) (length (jobs_of run task)) a.misses b.misses one.misses other.misses)
      (greatest_once (HasResponseIn (system_of model) run task) a.response b.response one.response other.response)
      (spread_once (HasJitterIn run task) a.jitter b.jitter one.jitter other.jitter)

  time_once : (task place : ℕ) (one other : List ℕ) → IsTimeLine model run task place one → IsTimeLine model run task place other → one ≡ other
  time_once task place one other is also =
      is.printed
      ∙ ap (observed_runnable_line model task place) (spread_once (HasTimeIn (system_of model) run task place) is.time also.time is.shown also.shown)
      ∙ sym also.printed

  task_once : (answer : TaskAnswer) (task : ℕ) (one other : List ℕ) → IsTaskText model run answer task one → IsTaskText model run answer task other → one ≡ other
  task_once answer task one other is also =
      is.printed
      ∙ ap (λ (shown : ShownTask). (shown_line model answer task (length (jobs_of run task)) shown ++ observed_jitter_line model task shown.jitter) ++ is.times)
      (shown_once task is.shown also.shown is.is_shown also.is_shown)
      ∙ ap (λ times. (shown_line model answer task (length (jobs_of run task)) also.shown ++ observed_jitter_line model task also.shown.jitter) ++ times)
      (made_once (IsTimeLine model run task) (time_once task) _ is.times also.times is.are_times also.are_times)
      ∙ sym also.printed

  -- ---- a chain

  delay_once : (IsChain : JobChain → Type 0) (a b : Option JobChain) → IsGreatestDelayBy IsChain a → IsGreatestDelayBy IsChain b → length_of a ≡ length_of b
  delay_once IsChain None None one other = refl
  delay_once IsChain None (Some b) one other = absurd (one b other.is_chain)
  delay_once IsChain (Some a) None one other = absurd (other a one.is_chain)
  delay_once IsChain (Some a) (Some b) one other =
      let same : pos a.to -ℤ pos a.from ≡ pos b.to -ℤ pos b.from = omega (arith, ints, one.greatest b other.is_chain, other.greatest a one.is_chain) in
      ap Some same

  chain_once : (answer : ChainAnswer) (chain : ℕ) (one other : List ℕ) → IsChainText model run answer chain one → IsChainText model run answer chain other
      → one ≡ other
  chain_once answer chain one other is also =
      is.printed
      ∙ ap (λ (measured : Measured). kind_length_lines model answer chain measured (length_of is.delay))
      (measured_once (run_moments (system_of model) run) (groups_at model chain) (run_unique (system_of model) run (groups_at model chain))
      is.measured also.measured is.is_measured also.is_measured)
      ∙ ap (kind_length_lines model answer chain also.measured) (delay_once _ is.delay also.delay is.is_delay also.is_delay)
      ∙ sym also.printed

  -- ---- the run

  in_order_once : (one other : List ℕ) → IsShownInOrder model run one → IsShownInOrder model run other → one ≡ other
  in_order_once one other is also =
      is.printed
      ∙ ap (λ tasks. tasks ++ is.chains)
      (made_once _ (λ task. task_once (answer_at (tight_findings_of model).tasks task) task) _ is.tasks also.tasks is.are_tasks also.are_tasks)
      ∙ ap (λ chains. also.tasks ++ chains)
      (made_once _ (λ chain. chain_once (chain_answer_at (tight_findings_of model).chains chain) chain) _ is.chains also.chains is.are_chains also.are_chains)
      ∙ sym also.printed

  shown_text_once : (one other : List ℕ) → IsShownInOrder model run one ⊎ IsUnordered model run one → IsShownInOrder model run other ⊎ IsUnordered model run other
      → one ≡ other
  shown_text_once one other (inl is) (inl also) = in_order_once one other is also
  shown_text_once one other (inl is) (inr also) = absurd (also.out_of_order is.in_order)
  shown_text_once one other (inr is) (inl also) = absurd (is.out_of_order also.in_order)
  shown_text_once one other (inr is) (inr also) = is.printed ∙ sym also.printed

  pub one_observation : (one other : List ℕ) → IsObservationOf model run one → IsObservationOf model run other → one ≡ other
  one_observation one other is also =
      is.printed
      ∙ ap (λ legality. (line (codes "chainlat observed 1") ++ legality) ++ is.shown)
      (one_legality model run is.legality also.legality is.is_legality also.is_legality)
      ∙ ap (λ shown. (line (codes "chainlat observed 1") ++ also.legality) ++ shown) (shown_text_once is.shown also.shown is.is_shown also.is_shown)
      ∙ sym also.printed
