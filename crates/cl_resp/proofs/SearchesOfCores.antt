-- How far the search for a window came, and where that for a task below may begin.
use Rattle.std.proofs.Common.{◌≡◌, ◌≢◌, ℕ, zero, suc, ◌+◌, ◌-◌, ◌<◌, ◌≤◌, ◌&&◌, Bool, nat_eq, nat_lt, Option, Some, None, length, refl, sym, ap, ◌∙◌, arith, inl, inr}
use Rattle.std.specs.Option.{option_map}
use Rattle.std.proofs.lemmas.Bool.{cases_lt, eq-eqb, ne_eqb}
use Rattle.cl_model.specs.{declared.{model.SystemModel.SystemModel, task.TaskDef.TaskDef}, ByNumber.{task_at, core_of}}
use Rattle.cl_runs.specs.{SystemOf.{timing_of, system_of}, TaskTiming.timing_at, Priorities.is_above}
use Rattle.cl_runs.proofs.ModelSystem.{timing_is}
use Rattle.cl_resp.specs.{declared.question.Question.Question, Response.{Response, demand, busy_window, response_to, NoneServesBelow}}
use Rattle.cl_resp.proofs.{SettledTasks.{answer_of, answer_parts}, Windows.{window_is_least, no_window_holds, demand_some}}

-- ---- how far a search came

module _ (question : Question) (some : 1 ≤ question.time) where
  -- a width of a tick or more holds its own demand only where that is so
  below_window : (width window : ℕ) → ((lesser : ℕ) → 1 ≤ lesser → demand question lesser ≤ lesser → window ≤ lesser) → width < window → width < demand question width
  below_window zero window least below = omega (arith, some, demand_some question 0)
  below_window (suc width) window least below = elim (cases_lt (suc width) (demand question (suc width))) [
    | inl short ↦ short
    | inr serves ↦ absurd (omega (arith, below, least (suc width) (omega arith) serves))
  ]

  pub none_below_settled : (answer : Response) → response_to question ≡ Some answer → NoneServesBelow question answer.window
  none_below_settled answer answered width below =
      below_window width answer.window (window_is_least question answer.window (answer_parts question.jitter answer (busy_window question) answered).0).least below

  no_answer : (jitter : ℕ) (found : Option ℕ) → option_map (answer_of jitter) found ≡ None → found ≡ None
  no_answer jitter None none = refl
  no_answer jitter (Some width) none = cc

  pub none_below_late : response_to question ≡ None → NoneServesBelow question (question.deadline - question.jitter + 1)
  none_below_late none zero below = omega (arith, some, demand_some question 0)
  none_below_late none (suc width) below =
      no_window_holds question (no_answer question.jitter (busy_window question) none) (suc width) (omega arith) (omega (arith, below))

-- ---- whether a task stands above another on its core

module _ (model : SystemModel) (task other : ℕ) (task_known : task < length model.tasks) (other_known : other < length model.tasks)
    (core other_core : ℕ) (core_is : core ≡ core_of model task) (other_core_is : other_core ≡ core_of model other) where
  by_number : is_above (timing_at (system_of model) task) (timing_at (system_of model) other)
      ≡ (nat_eq (core_of model other) (core_of model task) && nat_lt (task_at model task).priority (task_at model other).priority)
  by_number =
      ap (λ t. is_above t (timing_at (system_of model) other)) (timing_is model task task_known)
      ∙ ap (λ t. is_above (timing_of model (task_at model task)) t) (timing_is model other other_known)

  pub higher_there : (one two : TaskDef) → one ≡ task_at model task → two ≡ task_at model other → other_core ≡ core
      → nat_lt one.priority two.priority ≡ is_above (timing_at (system_of model) task) (timing_at (system_of model) other)
  higher_there one two one_is two_is same =
      ap (λ (t : TaskDef). nat_lt t.priority two.priority) one_is ∙ ap (λ (t : TaskDef). nat_lt (task_at model task).priority t.priority) two_is
      ∙ sym (ap (λ (b : Bool). b && nat_lt (task_at model task).priority (task_at model other).priority) (eq-eqb _ _ (sym other_core_is ∙ same ∙ core_is)))
      ∙ sym by_number

  pub elsewhere : other_core ≢ core → nat_eq other_core core ≡ is_above (timing_at (system_of model) task) (timing_at (system_of model) other)
  elsewhere apart =
      ne_eqb other_core core apart
      ∙ sym (ap (λ (b : Bool). b && nat_lt (task_at model task).priority (task_at model other).priority) (ne_eqb _ _ (λ same. apart (other_core_is ∙ same ∙ sym core_is))))
      ∙ sym by_number
