-- A valid model has a margin, and but one: whether a percentage keeps what is met is decided, there are but 1,000, and
-- what breaks first is one thing.
use Rattle.std.proofs.Common.{◌≡◌, ℕ, zero, suc, ◌+◌, ◌<◌, ◌≤◌, ◌⊎◌, inl, inr, Bool, true, false, Option, Some, None, length, refl, sym, ap, ◌∙◌, subst, arith}
use Rattle.std.specs.List.{list_all}
use Rattle.std.proofs.lemmas.Bool.{true≢false, false≢true, cases_eq, cases_order}
use Rattle.cl_model.specs.{declared.model.SystemModel.SystemModel, ByNumber.task_at, Ranges.IsInRange, Validity.IsValid}
use Rattle.cl_tight.specs.TightFindings.{tight_findings_of}
use Rattle.cl_scale.specs.declared.percent.TheConstants.{MOST_PERCENT}
use Rattle.cl_margin.specs.{declared.{answer.{Breaks.{Breaks, TheVariants.{Task, Requirement, Limit}}, Margin.Margin}, whose.Whose.{Whose, TheVariants.{EveryTask, OneTask}}}, Grown.grown, Margins.{is_met_task, is_met_requirement, KeepsMet, IsFirstLost, IsFirstLate, IsFirstUnmet}}
use Rattle.cl_margin.specs.{Margins.{BreaksFirst, IsGreatestPercent, BreaksAfter, IsMargin}, Inner.Touched.{IsOfModel, are_times_within}}
use Rattle.cl_margin.proofs.{GrownRange.{every_in_range, every_passes, one_in_range, one_passes}, GrownValid.grown_same}

-- ---- what breaks

module _ (met then : ℕ → Bool) where
  -- of those below a number the first breaks, or none does
  first_below : (n : ℕ) → ((number : ℕ) × (number < n) × IsFirstLost met then number) ⊎ ((i : ℕ) → i < n → met i ≡ true → then i ≡ true)
  first_below zero = inr (λ i lt is. absurd (omega (arith, lt)))
  first_below (suc n) = elim (first_below n) [
    | inl (number, below, is) ↦ inl (number, omega (arith, below), is)
    | inr kept ↦ go kept (met n) refl (then n) refl
  ]
    where
      with_last : ((i : ℕ) → i < n → met i ≡ true → then i ≡ true) → (met n ≡ true → then n ≡ true) → (i : ℕ) → i < suc n → met i ≡ true → then i ≡ true
      with_last kept last i lt is = elim (cases_eq i n) [
        | inl same ↦ ap then same ∙ last (sym (ap met same) ∙ is)
        | inr apart ↦ kept i (omega (arith, lt, apart)) is
      ]

      go : ((i : ℕ) → i < n → met i ≡ true → then i ≡ true) → (now : Bool) → met n ≡ now → (later : Bool) → then n ≡ later
          → ((number : ℕ) × (number < suc n) × IsFirstLost met then number) ⊎ ((i : ℕ) → i < suc n → met i ≡ true → then i ≡ true)
      go kept false is later is_later = inr (with_last kept (λ met. absurd (true≢false (sym met ∙ is))))
      go kept true is true is_later = inr (with_last kept (λ met. is_later))
      go kept true is false is_later = inl (n, omega arith, record { met = is; broken = is_later; first = kept })

  -- the first is one
  first_once : (one other : ℕ) → IsFirstLost met then one → IsFirstLost met then other → one ≡ other
  first_once one other is is_other = elim (cases_order one other) [
    | inl same ↦ same
    | inr (inl below) ↦ absurd (true≢false (sym (is_other.first one below is.met) ∙ is.broken))
    | inr (inr above) ↦ absurd (true≢false (sym (is.first other above is_other.met) ∙ is_other.broken))
  ]

module _ (model other : SystemModel) where
  -- all is kept, or something breaks first
  what_breaks : (IsInRange other ⊎ (IsInRange other → ⊥)) → KeepsMet model other ⊎ ((breaks : Breaks) × BreaksFirst model other breaks × (KeepsMet model other → ⊥))
  what_breaks (inr out) = inr (Limit, out, λ kept. out kept.in_range)
  what_breaks (inl in_range) = elim (first_below (is_met_task (tight_findings_of model)) (is_met_task (tight_findings_of other)) (length model.tasks)) [
    | inl (task, is_task, first) ↦ inr (
      Task task,
      record { in_range = in_range; is_task = is_task; first = first },
      λ kept. true≢false (sym (kept.tasks task is_task first.met) ∙ first.broken),
    )
    | inr tasks ↦ elim (first_below (is_met_requirement (tight_findings_of model)) (is_met_requirement (tight_findings_of other)) (length model.requirements)) [
      | inl (i, is_requirement, first) ↦ inr (
        Requirement i,
        record { in_range = in_range; tasks = tasks; is_requirement = is_requirement; first = first },
        λ kept. true≢false (sym (kept.requirements i is_requirement first.met) ∙ first.broken),
      )
      | inr requirements ↦ inl (record { in_range = in_range; tasks = tasks; requirements = requirements })
    ]
  ]

  -- a task that breaks first breaks before each requirement
  task_before : {P : Type 0} (task i : ℕ) → IsFirstLate model other task → IsFirstUnmet model other i → P
  task_before task i late unmet = absurd (true≢false (sym (unmet.tasks task late.is_task late.first.met) ∙ late.first.broken))

  breaks_once : (one two : Breaks) → BreaksFirst model other one → BreaksFirst model other two → one ≡ two
  breaks_once (Task one) (Task two) is is_two = ap Task (first_once (is_met_task (tight_findings_of model)) (is_met_task (tight_findings_of other)) one two is.first is_two.first)
  breaks_once (Task one) (Requirement two) is is_two = task_before one two is is_two
  breaks_once (Task one) Limit is is_two = absurd (is_two is.in_range)
  breaks_once (Requirement one) (Task two) is is_two = task_before two one is_two is
  breaks_once (Requirement one) (Requirement two) is is_two =
      ap Requirement (first_once (is_met_requirement (tight_findings_of model)) (is_met_requirement (tight_findings_of other)) one two is.first is_two.first)
  breaks_once (Requirement one) Limit is is_two = absurd (is_two is.in_range)
  breaks_once Limit (Task two) is is_two = absurd (is is_two.in_range)
  breaks_once Limit (Requirement two) is is_two = absurd (is is_two.in_range)
  breaks_once Limit Limit is is_two = refl

-- ---- there is a margin

module _ (model : SystemModel) (valid : IsValid model) where
  by_test : {P : Type 0} (test : Bool) → (test ≡ true → P) → (P → test ≡ true) → P ⊎ (P → ⊥)
  by_test true there back = inl (there refl)
  by_test false there back = inr (λ holds. false≢true (back holds))

  -- whether a grown model is in range is decided
  in_range_or_not : (whose : Whose) → IsOfModel model whose → (percent : ℕ) → IsInRange (grown model whose percent) ⊎ (IsInRange (grown model whose percent) → ⊥)
  in_range_or_not EveryTask is percent =
      by_test (list_all (are_times_within percent) model.tasks) (every_in_range model valid.in_range percent) (every_passes model valid.in_range percent)
  in_range_or_not (OneTask one) is percent =
      by_test (are_times_within percent (task_at model one)) (one_in_range model valid.in_range percent one is) (one_passes model valid.in_range percent one is)

  module _ (whose : Whose) (is : IsOfModel model whose) where
    -- as the model stands all is kept
    kept_as_it_stands : KeepsMet model (grown model whose 100)
    kept_as_it_stands = subst (KeepsMet model) (sym (grown_same model valid whose))
        (record { in_range = valid.in_range; tasks = λ task h met. met; requirements = λ i h met. met })

    abbrev NoneAbove : (percent : ℕ) → Type 0
    NoneAbove percent = (other : ℕ) → percent < other → other ≤ MOST_PERCENT → KeepsMet model (grown model whose other) → ⊥

    margin_at : (percent : ℕ) → 100 ≤ percent → percent ≤ MOST_PERCENT → NoneAbove percent → (breaks : Option Breaks) → BreaksAfter model whose percent breaks
        → KeepsMet model (grown model whose percent) → (margin : Margin) × IsMargin model whose margin
    margin_at percent some few none breaks after kept = (
      record { percent = percent; breaks = breaks },
      record { best = record { some = some; few = few; kept = kept; greatest = none }; breaks = after },
    )

    -- where none above a percentage keeps, that or a smaller one is the greatest that does
    margin_up_to : (more : ℕ) → 100 + more ≤ MOST_PERCENT → NoneAbove (100 + more) → (breaks : Option Breaks) → BreaksAfter model whose (100 + more) breaks
        → (margin : Margin) × IsMargin model whose margin
    margin_up_to zero few none breaks after = margin_at 100 (omega arith) few none breaks after kept_as_it_stands
    margin_up_to (suc more) few none breaks after = elim (what_breaks model (grown model whose (100 + suc more)) (in_range_or_not whose is (100 + suc more))) [
      | inl kept ↦ margin_at (100 + suc more) (omega arith) few none breaks after kept
      | inr (first, breaks_first, fails) ↦
          let next : 100 + suc more ≡ (100 + more) + 1 = omega arith in
          margin_up_to more (omega (arith, few))
          (λ other above within kept. elim (cases_eq other (100 + suc more)) [
            | inl same ↦ fails (subst (λ n. KeepsMet model (grown model whose n)) same kept)
            | inr apart ↦ none other (omega (arith, above, apart)) within kept
          ])
          (Some first) (omega (arith, few), subst (λ n. BreaksFirst model (grown model whose n) first) next breaks_first)
    ]

    pub some_margin : (margin : Margin) × IsMargin model whose margin
    some_margin = margin_up_to 900 (omega arith) (λ other above within kept. absurd (omega (arith, above, within))) None (omega arith)

-- ---- and but one

module _ (model : SystemModel) (whose : Whose) where
  none_greater : {P : Type 0} (one other : ℕ) → IsGreatestPercent model whose one → IsGreatestPercent model whose other → one < other → P
  none_greater one other is is_other below = absurd (is.greatest other below is_other.few is_other.kept)

  same_percent : (one other : ℕ) → IsGreatestPercent model whose one → IsGreatestPercent model whose other → one ≡ other
  same_percent one other is is_other = elim (cases_order one other) [
    | inl same ↦ same
    | inr (inl below) ↦ none_greater one other is is_other below
    | inr (inr above) ↦ none_greater other one is_other is above
  ]

  same_breaks : (percent : ℕ) (one other : Option Breaks) → BreaksAfter model whose percent one → BreaksAfter model whose percent other → one ≡ other
  same_breaks percent None None is is_other = refl
  same_breaks percent None (Some other) is is_other = absurd (omega (arith, is, is_other.0))
  same_breaks percent (Some one) None is is_other = absurd (omega (arith, is.0, is_other))
  same_breaks percent (Some one) (Some other) is is_other = ap Some (breaks_once model (grown model whose (percent + 1)) one other is.1 is_other.1)

  pub only_one : (one other : Margin) → IsMargin model whose one → IsMargin model whose other → one ≡ other
  only_one one other is is_other =
      let percent = same_percent one.percent other.percent is.best is_other.best in
      let breaks = same_breaks other.percent one.breaks other.breaks (subst (λ n. BreaksAfter model whose n one.breaks) percent is.breaks) is_other.breaks in
      λ i. record { percent = percent i; breaks = breaks i }
