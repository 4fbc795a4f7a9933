-- What is found of a trial is kept in it, one answer after another.
use Rattle.std.proofs.Common.{◌≡◌, ℕ, ◌+◌, ◌<◌, inl, inr, false, Option, Some, None, List, [], ◌∷◌, ◌++◌, length, get_or, map, set, sym, ap, ◌∙◌, subst, arith}
use Rattle.std.specs.Prelude.{IfSome, slice_get}
use Rattle.std.specs.Option.{option_map}
use Rattle.std.proofs.lemmas.Bool.{cases_lt, cases_eq}
use Rattle.std.proofs.lemmas.List.{length-map, length-set, get_or-map, get_or_default, get_or_past, get_or-set_same, get_or-set_other, length-append, get_or_append_left, get_or-append-add}
use Rattle.std.proofs.lemmas.List.FromFn.{length-map-range_with_len}
use Rattle.std.proofs.lemmas.Option.{same_Some, slice_get-get_or, slice_get_within, get_or_from_slice_get}
use Rattle.cl_model.specs.declared.model.SystemModel.{SystemModel}
use Rattle.cl_runs.specs.{SystemOf.system_of, TaskTiming.{System, timing_at, IsSound}}
use Rattle.cl_runs.proofs.ModelSystem.{count_is}
use Rattle.cl_cycle.specs.{declared.cycle.Cycle.Cycle, Promises.IsCycleOf}
use Rattle.cl_resp.specs.{ByPhase.IsSettledByPhase, Question.tight_question_of, Response.{Response, busy_window, IsTightlySettled}}
use Rattle.cl_resp.proofs.AnsweredSooner.{tight_by_phase}
use Rattle.cl_bound.specs.{declared.answer.TaskAnswer.{TaskAnswer, TheVariants.{Settled, Late}}, Answers.{answer_with, answer_at, is_late, response_in}}
use Rattle.cl_tight.specs.{declared.{access_windows.AccessWindows.AccessWindows, findings.TightFindings.TightFindings}, Found.AreWindowsOf, TightAnswers.{tight_answer_to, tight_answers_of, tight_response}, TightFindings.tight_findings_of}
use Rattle.cl_tight.proofs.TightTasks.{phased_answer, tight_task}
use Rattle.cl_margin.specs.{declared.trial.Trial.Trial, Inner.Trials.{AreFoundAnswers, AreCyclesOf, IsTrialOf, with_answer}}

none_some : {A : Type 0} {x : Option A} {a : A} → x ≡ None → x ≡ Some a → ⊥
none_some none some = cc

-- ---- one answer more

module _ (model : SystemModel) (trial : Trial) (is : IsTrialOf model trial) where
  module _ (task : ℕ) (answer : TaskAnswer) (h : task < length model.tasks) (own : answer ≡ answer_at (tight_answers_of (system_of model)) task) where
    abbrev more : List (Option TaskAnswer)
    more = set trial.answers task (Some answer)

    found_more : AreFoundAnswers (system_of model) more
    found_more i a at = elim (cases_eq i task) [
      | inl same ↦
          let there : get_or more i None ≡ Some answer =
          ap (λ j. get_or more j None) same ∙ get_or-set_same trial.answers task (Some answer) None (omega (arith, h, is.one_a_task)) in
          same_Some a answer (sym at ∙ there) ∙ own ∙ ap (answer_at (tight_answers_of (system_of model))) (sym same)
      | inr apart ↦ is.answers i a (sym (get_or-set_other trial.answers task i (Some answer) None apart) ∙ at)
    ]

    pub one_answered : IsTrialOf model (with_answer trial task answer)
    one_answered = record {
      is = is.is;
      one_a_task = length-set trial.answers task (Some answer) ∙ is.one_a_task;
      answers = found_more;
      windows = is.windows;
      cycles = is.cycles;
    }

  -- what has been found of a task is its answer
  pub found_is : (task : ℕ) (found : Option TaskAnswer) → task < length model.tasks → found ≡ get_or trial.answers task found
      → IfSome found (λ answer. answer ≡ answer_at (tight_answers_of (system_of model)) task)
  found_is task None h at = tt
  found_is task (Some answer) h at =
      is.answers task answer (sym (at ∙ get_or_default trial.answers task (Some answer) None (omega (arith, h, is.one_a_task))))

  pub with_windows : (windows : AccessWindows) → AreWindowsOf (system_of model) windows → IsTrialOf model (record trial { windows = windows })
  with_windows windows are = record { is = is.is; one_a_task = is.one_a_task; answers = is.answers; windows = are; cycles = is.cycles }

-- ---- all answers of a model as it stands

tight_count : (system : System) → length (tight_answers_of system) ≡ length system.tasks
unfolding tight_answers_of
tight_count system = length-map-range_with_len (tight_answer_to system) 0 (length system.tasks)

module _ (model : SystemModel) (found : TightFindings) (are : found ≡ tight_findings_of model) where
  pub tasks_found : found.tasks ≡ tight_answers_of (system_of model)
  unfolding tight_findings_of
  tasks_found = ap (λ (f : TightFindings). f.tasks) are

  pub count_found : length found.tasks ≡ length model.tasks
  count_found = ap length tasks_found ∙ tight_count (system_of model) ∙ count_is model

  -- the answer at a place is the one of the task of that number
  pub answer_found : (task : ℕ) (answer : TaskAnswer) → task < length model.tasks → answer ≡ get_or found.tasks task answer
      → answer ≡ answer_at (tight_answers_of (system_of model)) task
  answer_found task answer h at =
      at
      ∙ ap (λ (list : List TaskAnswer). get_or list task answer) tasks_found
      ∙ get_or_default (tight_answers_of (system_of model)) task answer Late (omega (arith, h, tight_count (system_of model), count_is model))

  all_found : (answers : List (Option TaskAnswer)) → answers ≡ map (λ (answer : TaskAnswer). Some answer) found.tasks → AreFoundAnswers (system_of model) answers
  all_found answers is task answer at = elim (cases_lt task (length found.tasks)) [
    | inl lt ↦
        answer_found task answer (omega (arith, lt, count_found))
        (same_Some _ _ (sym at ∙ ap (λ (list : List (Option TaskAnswer)). get_or list task None) is
        ∙ get_or-map (λ (a : TaskAnswer). Some a) found.tasks task answer None lt))
    | inr past ↦
        absurd (none_some (get_or_past answers task None
        (omega (arith, past, ap length is, length-map found.tasks (λ (a : TaskAnswer). Some a)))) at)
  ]

  -- so a trial of it that has them is one of it
  pub trial_begun : (trial : Trial) → trial.model ≡ model → trial.answers ≡ map (λ (answer : TaskAnswer). Some answer) found.tasks
      → AreWindowsOf (system_of model) trial.windows → AreCyclesOf (system_of model) trial.cycles → IsTrialOf model trial
  trial_begun trial same answers windows cycles = record {
    is = same;
    one_a_task = ap length answers ∙ length-map found.tasks (λ (a : TaskAnswer). Some a) ∙ count_found;
    answers = all_found trial.answers answers;
    windows = windows;
    cycles = cycles;
  }

-- ---- a settled task

-- where its answer is settled, its response is the one by phases, in each model that is the same
module _ (model now : SystemModel) (same : now ≡ model) (task : ℕ) (answer : TaskAnswer) (settled : Response)
    (found : answer ≡ answer_at (tight_answers_of (system_of model)) task) (is : answer ≡ Settled settled) where
  pub timely_found : is_late (answer_at (tight_answers_of (system_of model)) task) ≡ false
  timely_found = ap is_late (sym found ∙ is)

  own_response : settled.response ≡ tight_response (system_of model) task
  own_response = ap response_in (sym is ∙ found)

  pub response_found : (response : ℕ) → response ≡ settled.response → response ≡ tight_response (system_of now) task
  response_found response at = subst (λ (m : SystemModel). response ≡ tight_response (system_of m) task) (sym same) (at ∙ own_response)

  pub settled_found : task < length model.tasks → (response : ℕ) → response ≡ settled.response → IsSettledByPhase (system_of now) task response
  settled_found h response at =
      subst (λ (m : SystemModel). IsSettledByPhase (system_of m) task response) (sym same)
      (subst (λ (r : ℕ). IsSettledByPhase (system_of model) task r) (sym (at ∙ own_response))
      (tight_task (system_of model) task (omega (arith, h, count_is model)) timely_found))

-- ---- cycles, one after another

-- each of the first cycles is that of its task
abbrev pub AreFirstCycles : System → List Cycle → Type 0
AreFirstCycles system cycles = (task : ℕ) (cycle : Cycle) → slice_get cycles task ≡ Some cycle → IsCycleOf system task cycle

pub none_first : (system : System) (cycles : List Cycle) → cycles ≡ [] → AreFirstCycles system cycles
none_first system cycles none task cycle at = absurd (omega (arith, slice_get_within cycles task cycle at, ap length none))

module _ (system : System) (cycles more : List Cycle) (count : ℕ) (own : Cycle) (as_many : length cycles ≡ count) (pushed : more ≡ cycles ++ own ∷ []) where
  pub one_more_cycle : length more ≡ count + 1
  one_more_cycle = omega (arith, ap length pushed, length-append cycles (own ∷ []), as_many)

  pub cycle_more : AreFirstCycles system cycles → IsCycleOf system count own → AreFirstCycles system more
  cycle_more are is task cycle at =
      let within : task < count + 1 = omega (arith, slice_get_within more task cycle at, one_more_cycle) in
      let there : get_or (cycles ++ own ∷ []) task cycle ≡ cycle =
      ap (λ (list : List Cycle). get_or list task cycle) (sym pushed) ∙ get_or_from_slice_get more task cycle cycle at in
      elim (cases_lt task count) [
        | inl before ↦
            let lt : task < length cycles = omega (arith, before, as_many) in
            are task cycle (slice_get-get_or cycles task cycle lt
            ∙ ap Some (sym (get_or_append_left cycles (own ∷ []) cycle task lt) ∙ there))
        | inr past ↦
            let same : task ≡ count = omega (arith, past, within) in
            let end : task ≡ length cycles + 0 = omega (arith, same, as_many) in
            let last : own ≡ cycle =
            sym (get_or-append-add cycles (own ∷ []) 0 cycle) ∙ ap (λ i. get_or (cycles ++ own ∷ []) i cycle) (sym end) ∙ there in
            subst (λ (c : Cycle). IsCycleOf system task c) last (subst (λ i. IsCycleOf system i own) (sym same) is)
      ]

-- ---- a task with a tight window

-- isn't late by phases
pub timely_with_window : (system : System) → IsSound system → (task : ℕ) → task < length system.tasks → (width : ℕ)
    → busy_window (tight_question_of system (timing_at system task)) ≡ Some width → is_late (answer_at (tight_answers_of system) task) ≡ false
timely_with_window system sound task h width is =
    let question = tight_question_of system (timing_at system task) in
    let settled : IsTightlySettled system task (question.jitter + width) = record {
      is_task = h;
      window = width;
      answered = ap (option_map (λ window. record { window = window; response = question.jitter + window })) is;
    } in
    let (by_phase, phased, by) = tight_by_phase system sound task (question.jitter + width) settled in
    ap is_late (phased_answer system task h ∙ ap answer_with phased.answered)
