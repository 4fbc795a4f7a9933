-- The spans of tasks over the stretches of a core.
use Rattle.std.proofs.Common.{◌≡◌, ℕ, zero, suc, ◌+◌, ◌-◌, ◌<◌, ◌≤◌, inl, inr, Option, Some, None, List, [], ◌∷◌, ◌++◌, length, get_or, refl, sym, ap, subst, ◌∙◌, arith}
use Rattle.std.proofs.lemmas.Bool.{cases_lt}
use Rattle.std.proofs.lemmas.List.{get_or_default}
use Rattle.cl_runs.proofs.Executed.{cases_entry}
use Rattle.cl_run_data.specs.{declared.stretches.Stretch.Stretch, Stretches.{entries_from, AreLongest, AreStretchesOf, LastsFrom}}
use Rattle.cl_run_data.proofs.{StretchFacts.neighbours_differ, StretchEntries.{entry_of_tick, lasts_some, last_ends}}
use Rattle.cl_draw.specs.{declared.spans.Span.Span, Inner.Spans.{spans_at, no_span, span_at, RunsIn, HasSpanAt, AreSpansBelow, PutsSpan, PutsCore}}
use Rattle.cl_draw.proofs.Pushed.{count_pushed, kept, added, each_pushed, neighbours_pushed}

-- no spans below the first tick
pub none_below : (entries : List (Option ℕ)) (task : ℕ) → AreSpansBelow entries task 0 []
none_below entries task = record {
  each = λ k h. absurd (omega (arith, h));
  apart = λ k h. absurd (omega (arith, h));
  all = λ tick below runs. absurd (omega (arith, below));
}

-- a tick that some span has, it has with a span more
have_pushed : (spans : List Span) (span : Span) (tick : ℕ) → HasSpanAt spans tick → HasSpanAt (spans ++ span ∷ []) tick
have_pushed spans span tick have = record {
  place = have.place;
  within = omega (arith, have.within, count_pushed spans span no_span);
  from = subst (λ (s : Span). s.from ≤ tick) (sym (kept spans span no_span have.place have.within)) have.from;
  to = subst (λ (s : Span). tick < s.to) (sym (kept spans span no_span have.place have.within)) have.to;
}

have_last : (spans : List Span) (span : Span) (tick : ℕ) → span.from ≤ tick → tick < span.to → HasSpanAt (spans ++ span ∷ []) tick
have_last spans span tick from to = record {
  place = length spans;
  within = omega (arith, count_pushed spans span no_span);
  from = subst (λ (s : Span). s.from ≤ tick) (sym (added spans span no_span (length spans) refl)) from;
  to = subst (λ (s : Span). tick < s.to) (sym (added spans span no_span (length spans) refl)) to;
}

module _ (entries : List (Option ℕ)) (task from to : ℕ) (spans : List Span) (are : AreSpansBelow entries task from spans) (some : from < to) where
  later : (span : Span) → RunsIn entries task from span → RunsIn entries task to span
  later span runs = record { some = runs.some; by = omega (arith, runs.by, some); runs = runs.runs }

  -- the task doesn't run in the ticks up to a later one
  pub rest_below : ((tick : ℕ) → from ≤ tick → tick < to → get_or entries tick None ≡ Some task → ⊥) → AreSpansBelow entries task to spans
  rest_below rests = record {
    each = λ k h. later (span_at spans k) (are.each k h);
    apart = are.apart;
    all = λ tick below runs. elim (cases_lt tick from) [
      | inl before ↦ are.all tick before runs
      | inr after ↦ absurd (rests tick after below runs)
    ];
  }

  -- it runs in all of them, and not in the one before
  pub runs_below : ((tick : ℕ) → from ≤ tick → tick < to → get_or entries tick None ≡ Some task)
      → ((tick : ℕ) → suc tick ≡ from → get_or entries tick None ≡ Some task → ⊥)
      → AreSpansBelow entries task to (spans ++ (record { from = from; to = to }) ∷ [])
  runs_below runs begins =
      let span : Span = record { from = from; to = to } in
      record {
        each = each_pushed spans span no_span (RunsIn entries task to) (λ k h. later (span_at spans k) (are.each k h))
            (record { some = some; by = omega arith; runs = runs });
        apart = neighbours_pushed spans span no_span (λ (one next : Span). one.to < next.from) are.apart
            (λ k last.
            let own = are.each k (omega (arith, last)) in
            elim (cases_lt (span_at spans k).to from) [
              | inl before ↦ before
              | inr not ↦
                  let touch : suc ((span_at spans k).to - 1) ≡ from = omega (arith, own.by, own.some, not) in
                  absurd (begins ((span_at spans k).to - 1) touch (own.runs ((span_at spans k).to - 1) (omega (arith, own.some)) (omega (arith, own.some))))
            ]);
        all = λ tick below is. elim (cases_lt tick from) [
          | inl before ↦ have_pushed spans span tick (are.all tick before is)
          | inr after ↦ have_last spans span tick after below
        ];
      }

-- ---- the stretches of a core

no_stretch : Stretch
no_stretch = record { who = None; end = 0 }

-- a stretch lasts from some tick
lasts_at : (ss : List Stretch) (k : ℕ) → k < length ss → (start : ℕ) × LastsFrom ss k start (get_or ss k no_stretch).end
lasts_at ss zero h = (
  0,
  record {
    within = h;
    first = λ _. refl;
    next = λ before d is. absurd (omega (arith, is));
    ends = λ d. ap (λ (s : Stretch). s.end) (get_or_default ss 0 no_stretch d h);
  },
)
lasts_at ss (suc k) h = (
  (get_or ss k no_stretch).end,
  record {
    within = h;
    first = λ is. absurd (omega (arith, is));
    next = λ before d is.
        let same : k ≡ before = omega (arith, is) in
        ap (λ (s : Stretch). s.end) (get_or_default ss k no_stretch d (omega (arith, h)) ∙ ap (λ n. get_or ss n d) same);
    ends = λ d. ap (λ (s : Stretch). s.end) (get_or_default ss (suc k) no_stretch d h);
  },
)

-- what is put for the first stretches of a core, up to a tick
pub record IsPutBelow (ss : List Stretch) (k from : ℕ) (old new : List (List Span)) : Type 0 where
  pub first : k ≡ 0 → from ≡ 0
  pub next : (before : ℕ) (d : Stretch) → suc before ≡ k → from ≡ (get_or ss before d).end
  pub count : length new ≡ length old
  pub own : (task : ℕ) → task < length old → spans_at old task ≡ [] → AreSpansBelow (entries_from 0 ss) task from (spans_at new task)
  pub others : (task : ℕ) → ((tick : ℕ) → get_or (entries_from 0 ss) tick None ≡ Some task → ⊥) → spans_at new task ≡ spans_at old task

pub nothing_put : (ss : List Stretch) (old : List (List Span)) → IsPutBelow ss 0 0 old old
nothing_put ss old = record {
  first = λ _. refl;
  next = λ before d is. absurd (omega (arith, is));
  count = refl;
  own = λ task h empty. subst (AreSpansBelow (entries_from 0 ss) task 0) (sym empty) (none_below (entries_from 0 ss) task);
  others = λ task none. refl;
}

module _ (ss : List Stretch) (longest : AreLongest 0 ss) where
  of : AreStretchesOf (entries_from 0 ss) ss
  of = record { longest = longest; entries_are = refl }

  module _ (k from : ℕ) (stretch e : Stretch) (within : k < length ss) (is : stretch ≡ get_or ss k e) (old now new : List (List Span))
      (put : IsPutBelow ss k from old now) (next : PutsSpan stretch.who (record { from = from; to = stretch.end }) now new) where
    lasts : LastsFrom ss k from stretch.end
    lasts = record {
      within = within;
      first = put.first;
      next = put.next;
      ends = λ d. ap (λ (s : Stretch). s.end) (is ∙ get_or_default ss k e d within);
    }

    here : (tick : ℕ) → from ≤ tick → tick < stretch.end → get_or (entries_from 0 ss) tick None ≡ stretch.who
    here tick after before = entry_of_tick (entries_from 0 ss) ss of k from stretch.end lasts tick e after before ∙ ap (λ (s : Stretch). s.who) (sym is)

    some : from < stretch.end
    some = lasts_some (entries_from 0 ss) ss of k from stretch.end lasts

    -- the tick before a stretch has another entry
    other_before : (place : ℕ) → place ≡ k → (task tick : ℕ) → stretch.who ≡ Some task → suc tick ≡ from → get_or (entries_from 0 ss) tick None ≡ Some task → ⊥
    other_before zero first task tick who at runs = absurd (omega (arith, put.first (sym first), at))
    other_before (suc before) later task tick who at runs =
        let (start, last) = lasts_at ss before (omega (arith, later, within)) in
        let ended : from ≡ (get_or ss before no_stretch).end = put.next before no_stretch later in
        let entry = entry_of_tick (entries_from 0 ss) ss of before start (get_or ss before no_stretch).end last tick no_stretch
        (omega (arith, at, ended, lasts_some (entries_from 0 ss) ss of before start (get_or ss before no_stretch).end last)) (omega (arith, at, ended)) in
        let next_is : get_or ss (suc before) no_stretch ≡ stretch = ap (λ n. get_or ss n no_stretch) later ∙ get_or_default ss k no_stretch e within ∙ sym is in
        neighbours_differ ss 0 before no_stretch longest (omega (arith, later, within))
        (sym entry ∙ runs ∙ sym who ∙ ap (λ (s : Stretch). s.who) (sym next_is))

    own_next : (task : ℕ) → task < length old → spans_at old task ≡ [] → AreSpansBelow (entries_from 0 ss) task stretch.end (spans_at new task)
    own_next task h empty = elim (cases_entry task stretch.who) [
      | inl who ↦ subst (AreSpansBelow (entries_from 0 ss) task stretch.end) (sym (next.own task (omega (arith, h, put.count)) who))
          (runs_below (entries_from 0 ss) task from stretch.end (spans_at now task) (put.own task h empty) some
          (λ tick after before. here tick after before ∙ who)
          (λ tick at runs. other_before k refl task tick who at runs))
      | inr not ↦ subst (AreSpansBelow (entries_from 0 ss) task stretch.end) (sym (next.others task not))
          (rest_below (entries_from 0 ss) task from stretch.end (spans_at now task) (put.own task h empty) some
          (λ tick after before runs. not (sym (here tick after before) ∙ runs)))
    ]

    pub one_more_stretch : IsPutBelow ss (k + 1) stretch.end old new
    one_more_stretch = record {
      first = λ none. absurd (omega (arith, none));
      next = λ before d at.
          let same : k ≡ before = omega (arith, at) in
          ap (λ (s : Stretch). s.end) (is ∙ get_or_default ss k e d within ∙ ap (λ n. get_or ss n d) same);
      count = next.count ∙ put.count;
      own = own_next;
      others = λ task none. next.others task (λ who. none from (here from (omega arith) some ∙ who)) ∙ put.others task none;
    }

  -- all stretches
  pub all_stretches : (k from : ℕ) (old new : List (List Span)) → k ≡ length ss → IsPutBelow ss k from old new → PutsCore (entries_from 0 ss) old new
  all_stretches k from old new all put = record {
    count = put.count;
    own = λ task h empty. subst (λ n. AreSpansBelow (entries_from 0 ss) task n (spans_at new task)) (ends k refl) (put.own task h empty);
    others = put.others;
  }
    where
      none_left : (ss : List Stretch) → length ss ≡ 0 → 0 ≡ length (entries_from 0 ss)
      none_left [] none = refl
      none_left (s ∷ ss) none = absurd (omega (arith, none))

      ends : (place : ℕ) → place ≡ k → from ≡ length (entries_from 0 ss)
      ends zero is = put.first (sym is) ∙ none_left ss (sym all ∙ sym is)
      ends (suc before) is =
          let (start, last) = lasts_at ss before (omega (arith, is, all)) in
          put.next before no_stretch is ∙ last_ends (entries_from 0 ss) ss of before start (get_or ss before no_stretch).end last (is ∙ all)
