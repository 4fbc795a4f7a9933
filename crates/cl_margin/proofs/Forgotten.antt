-- What has been found of a trial is forgotten of one task after another, and what stays is so with the changed times.
use Rattle.std.proofs.Common.{◌≡◌, ℕ, ◌+◌, ◌<◌, ◌≤◌, inl, inr, Bool, true, false, ◌&&◌, ◌||◌, nat_lt, Option, Some, None, List, length, get_or, set, refl, sym, ap, ◌∙◌, arith}
use Rattle.std.specs.Prelude.{◌==◌, slice_get}
use Rattle.std.proofs.lemmas.Bool.{true≢false, cases_lt, cases_eq, eqb-true, eq-eqb, ne_eqb, lt-ltb, le-ltb, or_parts}
use Rattle.std.proofs.lemmas.List.{length-set, get_or_past, get_or-set_same, get_or-set_other}
use Rattle.cl_model.specs.{declared.model.SystemModel.SystemModel, Validity.IsValid}
use Rattle.cl_runs.specs.{SystemOf.system_of, TaskTiming.{System, IsSound}}
use Rattle.cl_runs.proofs.ModelSystem.{system_sound}
use Rattle.cl_cycle.specs.{declared.cycle.Cycle.Cycle, Cycles.is_one_of, Promises.IsCycleOf}
use Rattle.cl_cycle.proofs.SameCycles.{same_in_phase, same_cycle}
use Rattle.cl_lead.specs.LeastTimes.{HaveSameLeastTimes}
use Rattle.cl_lead.proofs.SameLeads.{same_lead}
use Rattle.cl_bound.specs.{declared.answer.TaskAnswer.TaskAnswer, Answers.answer_at}
use Rattle.cl_tight.specs.{declared.{access_windows.AccessWindows.AccessWindows, found.FoundNumbers.FoundNumbers}, Found.number_found, TightAnswers.tight_answers_of, TightTimings.part_response}
use Rattle.cl_margin.specs.{declared.{trial.Trial.Trial, whose.Whose.Whose}, Grown.grown, Inner.{Touched.touches, Trials.{IsTrialAt, Forgets, is_touched_task}}}
use Rattle.cl_margin.proofs.{GrownSystem.{system_count, systems_alike}, GrownTouched.{task_apart, through_apart}, GrownValid.count_grown, SameAnswers.{same_answer, same_part, past_parts}}

-- ---- of one task after another

pub forgets_none : (p : ℕ → Bool) → ((task : ℕ) → p task ≡ false) → (trial : Trial) → Forgets p trial trial
forgets_none p none trial = record {
  model = refl;
  as_many = refl;
  answers = λ task is. absurd (true≢false (sym is ∙ none task));
  other_answers = λ task is. refl;
  parts = λ task place is. absurd (true≢false (sym is ∙ none task));
  other_parts = λ task place is. refl;
  leads = refl;
  cycles = refl;
}

pub forgets_alike : (p q : ℕ → Bool) → ((task : ℕ) → p task ≡ q task) → (before after : Trial) → Forgets p before after → Forgets q before after
forgets_alike p q same before after is = record {
  model = is.model;
  as_many = is.as_many;
  answers = λ task passes. is.answers task (same task ∙ passes);
  other_answers = λ task fails. is.other_answers task (same task ∙ fails);
  parts = λ task place passes. is.parts task place (same task ∙ passes);
  other_parts = λ task place fails. is.other_parts task place (same task ∙ fails);
  leads = is.leads;
  cycles = is.cycles;
}

-- of two tests one has passed
either_passes : (p q : Bool) → (p || q) ≡ true → (q ≡ false) → p ≡ true
either_passes true q passes fails = refl
either_passes false true passes fails = absurd (true≢false fails)
either_passes false false passes fails = absurd (true≢false (sym passes))

module _ (p q r : ℕ → Bool) (both : (task : ℕ) → r task ≡ (p task || q task)) (first second third : Trial)
    (one : Forgets p first second) (more : Forgets q second third) where
  fail : (task : ℕ) → r task ≡ false → (p task ≡ false) × (q task ≡ false)
  fail task fails = or_parts (p task) (q task) (sym (both task) ∙ fails)

  pub forgets_more : Forgets r first third
  forgets_more = record {
    model = more.model ∙ one.model;
    as_many = more.as_many ∙ one.as_many;
    answers = λ task passes. elim (q task) as (λ b. q task ≡ b → get_or third.answers task None ≡ None) [
      | true ↦ λ is. more.answers task is
      | false ↦ λ is. more.other_answers task is ∙ one.answers task (either_passes (p task) (q task) (sym (both task) ∙ passes) is)
    ] refl;
    other_answers = λ task fails. more.other_answers task (fail task fails).1 ∙ one.other_answers task (fail task fails).0;
    parts = λ task place passes. elim (q task) as (λ b. q task ≡ b → number_found third.windows.parts task place ≡ None) [
      | true ↦ λ is. more.parts task place is
      | false ↦ λ is. more.other_parts task place is ∙ one.parts task place (either_passes (p task) (q task) (sym (both task) ∙ passes) is)
    ] refl;
    other_parts = λ task place fails. more.other_parts task place (fail task fails).1 ∙ one.other_parts task place (fail task fails).0;
    leads = more.leads ∙ one.leads;
    cycles = more.cycles ∙ one.cycles;
  }

-- one task is
module _ (before : Trial) (task : ℕ) (windows : AccessWindows) (h : task < length before.answers)
    (leads : windows.leads ≡ before.windows.leads)
    (none : (place : ℕ) → number_found windows.parts task place ≡ None)
    (others : (other place : ℕ) → (other ≡ task → ⊥) → number_found windows.parts other place ≡ number_found before.windows.parts other place) where
  apart : (other : ℕ) → (other == task) ≡ false → other ≡ task → ⊥
  apart other fails same = true≢false (sym (eq-eqb other task same) ∙ fails)

  pub one_forgotten : Forgets (λ other. other == task) before (record before { answers = set before.answers task None; windows = windows })
  one_forgotten = record {
    model = refl;
    as_many = length-set before.answers task None;
    answers = λ other is. ap (λ t. get_or (set before.answers task None) t None) (eqb-true other task is) ∙ get_or-set_same before.answers task None None h;
    other_answers = λ other fails. get_or-set_other before.answers task other None None (apart other fails);
    parts = λ other place is. ap (λ t. number_found windows.parts t place) (eqb-true other task is) ∙ none place;
    other_parts = λ other place fails. others other place (apart other fails);
    leads = leads;
    cycles = refl;
  }

-- a number that isn't below another, and isn't it, is past it
past_it : (count task : ℕ) → (task ≡ count → ⊥) → count ≤ task → count + 1 ≤ task
past_it count task apart past = elim (cases_lt count task) [
  | inl lt ↦ omega (arith, lt)
  | inr by ↦ absurd (apart (omega (arith, by, past)))
]

or_true : (b : Bool) → (b || true) ≡ true
or_true true = refl
or_true false = refl

-- the tasks below a number, and the one of that number
pub one_below : (count task : ℕ) → nat_lt task (count + 1) ≡ (nat_lt task count || (task == count))
one_below count task = elim (cases_eq task count) [
  | inl same ↦ lt-ltb task (count + 1) (omega (arith, same)) ∙ sym (ap (λ b. nat_lt task count || b) (eq-eqb task count same) ∙ or_true (nat_lt task count))
  | inr apart ↦ elim (cases_lt task count) [
    | inl lt ↦ lt-ltb task (count + 1) (omega (arith, lt)) ∙ sym (ap (λ b. b || (task == count)) (lt-ltb task count lt))
    | inr past ↦
        le-ltb task (count + 1) (past_it count task apart past)
        ∙ sym (ap (λ b. b || (task == count)) (le-ltb task count past) ∙ ne_eqb task count apart)
  ]
]

-- ---- what stays

none_some : {A : Type 0} {x : Option A} {a : A} → x ≡ None → x ≡ Some a → ⊥
none_some none some = cc

module _ (model : SystemModel) (whose : Whose) (now percent : ℕ) (valid_now : IsValid (grown model whose now)) (valid_then : IsValid (grown model whose percent)) where
  abbrev before : System
  before = system_of (grown model whose now)

  abbrev after : System
  after = system_of (grown model whose percent)

  sound_now : IsSound before
  sound_now = system_sound (grown model whose now) valid_now

  sound_then : IsSound after
  sound_then = system_sound (grown model whose percent) valid_then

  least_same : HaveSameLeastTimes after before
  least_same = systems_alike model whose percent now

  -- a task of the model that is not among those touched isn't touched
  untouched : (task : ℕ) → task < length model.tasks → is_touched_task model whose task ≡ false → touches model whose task ≡ false
  untouched task h out = sym (ap (λ b. b && touches model whose task) (lt-ltb _ _ h)) ∙ out

  answer_kept : (task : ℕ) → task < length model.tasks → is_touched_task model whose task ≡ false
      → answer_at (tight_answers_of after) task ≡ answer_at (tight_answers_of before) task
  answer_kept task h out =
      let apart = untouched task h out in
      same_answer after before sound_then sound_now task (task_apart model whose percent now task h apart) (task_apart model whose now percent task h apart)
      (omega (arith, h, system_count model whose now))

  part_kept : (task place : ℕ) → is_touched_task model whose task ≡ false → part_response after task place ≡ part_response before task place
  part_kept task place out = elim (cases_lt task (length model.tasks)) [
    | inl h ↦
        let apart = untouched task h out in
        same_part after before sound_then sound_now task (task_apart model whose percent now task h apart) (task_apart model whose now percent task h apart)
        (omega (arith, h, system_count model whose now)) place (through_apart model whose percent now task h apart place)
    | inr past ↦ past_parts after before task place (omega (arith, past, system_count model whose percent)) (omega (arith, past, system_count model whose now))
  ]

  cycle_kept : (task : ℕ) (cycle : Cycle) → IsCycleOf before task cycle → IsCycleOf after task cycle
  cycle_kept task cycle is = record {
    in_phase = λ other. is.in_phase other ∙ sym (ap (λ tasks. is_one_of tasks other) (same_in_phase after before least_same.alike task));
    ticks = is.ticks ∙ sym (same_cycle after before least_same.alike task);
  }

  module _ (one changed next : Trial) (is : IsTrialAt model whose now one) (made : changed.model ≡ grown model whose percent)
      (answers : changed.answers ≡ one.answers) (windows : changed.windows ≡ one.windows) (cycles : changed.cycles ≡ one.cycles)
      (forgets : Forgets (is_touched_task model whose) changed next) where
    found_answers : (task : ℕ) (answer : TaskAnswer) → get_or next.answers task None ≡ Some answer → answer ≡ answer_at (tight_answers_of after) task
    found_answers task answer found = elim (is_touched_task model whose task) as (λ b. is_touched_task model whose task ≡ b → answer ≡ answer_at (tight_answers_of after) task) [
      | true ↦ λ touched. absurd (none_some (forgets.answers task touched) found)
      | false ↦ λ out.
          let there : get_or one.answers task None ≡ Some answer =
          sym (forgets.other_answers task out ∙ ap (λ (list : List (Option TaskAnswer)). get_or list task None) answers) ∙ found in
          elim (cases_lt task (length model.tasks)) [
            | inl h ↦ is.answers task answer there ∙ sym (answer_kept task h out)
            | inr past ↦ absurd (none_some (get_or_past one.answers task None (omega (arith, past, is.one_a_task, count_grown model whose now))) there)
          ]
    ] refl

    found_leads : next.windows.leads ≡ one.windows.leads
    found_leads = forgets.leads ∙ ap (λ (w : AccessWindows). w.leads) windows

    found_parts : (task place number : ℕ) → number_found next.windows.parts task place ≡ Some number → number ≡ part_response after task place
    found_parts task place number found = elim (is_touched_task model whose task) as (λ b. is_touched_task model whose task ≡ b → number ≡ part_response after task place) [
      | true ↦ λ touched. absurd (none_some (forgets.parts task place touched) found)
      | false ↦ λ out.
          is.windows.parts task place number
          (sym (forgets.other_parts task place out ∙ ap (λ (w : AccessWindows). number_found w.parts task place) windows) ∙ found)
          ∙ sym (part_kept task place out)
    ] refl

    pub trial_kept : IsTrialAt model whose percent next
    trial_kept = record {
      is = forgets.model ∙ made;
      one_a_task = omega (arith, forgets.as_many, ap length answers, is.one_a_task, count_grown model whose now, count_grown model whose percent);
      answers = found_answers;
      windows = record {
        leads = λ task place number found.
            is.windows.leads task place number (sym (ap (λ (f : FoundNumbers). number_found f task place) found_leads) ∙ found)
            ∙ sym (same_lead after before least_same task place);
        parts = found_parts;
      };
      cycles = record {
        one_a_task = omega (arith, ap length (forgets.cycles ∙ cycles), is.cycles.one_a_task, system_count model whose now, system_count model whose percent);
        each = λ task cycle at. cycle_kept task cycle (is.cycles.each task cycle (sym (ap (λ (list : List Cycle). slice_get list task) (forgets.cycles ∙ cycles)) ∙ at));
      };
    }
