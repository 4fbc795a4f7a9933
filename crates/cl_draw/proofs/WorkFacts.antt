-- What a task executes, span by span.
use Rattle.std.proofs.Common.{◌≡◌, ℕ, zero, suc, ◌+◌, ◌<◌, ◌≤◌, inl, inr, Some, List, [], length, get_or, sym, ap, subst, ◌∙◌, arith}
use Rattle.std.proofs.lemmas.Bool.{cases_lt}
use Rattle.std.proofs.lemmas.List.{get_or_default}
use Rattle.cl_model.specs.declared.model.SystemModel.{SystemModel}
use Rattle.cl_runs.specs.{TaskTiming.{System, timing_at}, SystemOf.system_of, Run.{Run, core_entries, entry_at}}
use Rattle.cl_draw.specs.{declared.{cursor.Cursor.Cursor, parts.Work.Work, spans.Span.Span}, Inner.{TaskRuns.IsTaskRun, Spans.{no_span, span_at, AreSpans}, Cursors.{StandsAt, IsWorkAt, IsCutAt, RunsFrom, IsFurther}}}
use Rattle.cl_draw.proofs.{CursorFacts.ticks_are, PartFacts.{work_begins, work_rests}}

-- in a span, up to a tick
pub record IsInSpan (system : System) (run : Run) (task : ℕ) (span : Span) (work : Work) (cursor : Cursor) (from : ℕ) : Type 0 where
  pub after : span.from ≤ from
  pub by : from ≤ span.to
  pub at_from : IsWorkAt system run task work cursor from
  pub cut : from < span.to → IsCutAt system run task work.parts cursor from

pub further_in_span : (system : System) (run : Run) (task : ℕ) (span : Span) (work : Work) (cursor : Cursor) (from to : ℕ) → span.from ≤ from
    → IsFurther system run task from span.to work cursor to → IsInSpan system run task span work cursor to
further_in_span system run task span work cursor from to after further = record {
  after = omega (arith, after, further.after);
  by = further.by;
  at_from = further.at_end;
  cut = further.cut;
}

pub past_span : (system : System) (run : Run) (task : ℕ) (span : Span) (work : Work) (cursor : Cursor) (from : ℕ) → span.to ≤ from
    → IsInSpan system run task span work cursor from → IsWorkAt system run task work cursor span.to
past_span system run task span work cursor from past in_span =
    let same : from ≡ span.to = omega (arith, past, in_span.by) in subst (IsWorkAt system run task work cursor) same in_span.at_from

-- behind the first spans
pub record IsWalked (system : System) (run : Run) (task : ℕ) (spans : List Span) (k : ℕ) (work : Work) (cursor : Cursor) : Type 0 where
  pub tick : ℕ
  pub at_tick : IsWorkAt system run task work cursor tick
  pub within : tick ≤ run.table.ticks
  pub ended : (j : ℕ) → j < k → (span_at spans j).to ≤ tick
  pub ahead : (j : ℕ) → k ≤ j → j < length spans → tick ≤ (span_at spans j).from
  pub apart : (i j : ℕ) → suc i ≡ length work.parts → k ≤ j → j < length spans → tick < (span_at spans j).from

module _ (model : SystemModel) (run : Run) (task : ℕ) (of : IsTaskRun model run task) (spans : List Span)
    (are : AreSpans (core_entries run (timing_at (system_of model) task).core) task spans) where
  -- spans rise
  rise : (i j : ℕ) → i < j → j < length spans → (span_at spans i).to < (span_at spans j).from
  rise i zero before within = absurd (omega (arith, before))
  rise i (suc j) before within = elim (cases_lt i j) [
    | inl earlier ↦ omega (arith, rise i j earlier (omega (arith, within)), (are.each j (omega (arith, within))).some, are.apart j within)
    | inr last ↦ let same : j ≡ i = omega (arith, last, before) in subst (λ n. (span_at spans n).to < (span_at spans (suc j)).from) same (are.apart j within)
  ]

  pub walk_begins : (work : Work) (cursor : Cursor) → work.parts ≡ [] → work.finishes ≡ [] → cursor.job ≡ 0 → StandsAt (system_of model) run task cursor 0
      → IsWalked (system_of model) run task spans 0 work cursor
  walk_begins work cursor no_parts no_finishes first stands = record {
    tick = 0;
    at_tick = work_begins model run task of work cursor no_parts no_finishes first stands;
    within = omega arith;
    ended = λ j below. absurd (omega (arith, below));
    ahead = λ j after within. omega arith;
    apart = λ i j last after within. absurd (omega (arith, last, ap length no_parts));
  }

  -- the task doesn't run between the ticks behind the first spans and a tick by which no further span begins
  rests : (k : ℕ) (work : Work) (cursor : Cursor) (walked : IsWalked (system_of model) run task spans k work cursor) (to : ℕ) → to ≤ run.table.ticks
      → ((j : ℕ) → k ≤ j → j < length spans → to ≤ (span_at spans j).from)
      → (t : ℕ) → walked.tick ≤ t → t < to → entry_at run (timing_at (system_of model) task).core t ≡ Some task → ⊥
  rests k work cursor walked to within ahead t after before runs =
      let have = are.all t (omega (arith, before, within, ticks_are model run task of)) runs in
      elim (cases_lt have.place k) [
        | inl early ↦ omega (arith, walked.ended have.place early, have.to, after)
        | inr late ↦ omega (arith, ahead have.place late have.within, have.from, before)
      ]

  module _ (k : ℕ) (span d : Span) (in_list : k < length spans) (is : span ≡ get_or spans k d) (work : Work) (cursor : Cursor)
      (walked : IsWalked (system_of model) run task spans k work cursor) where
    is_span : span ≡ span_at spans k
    is_span = is ∙ get_or_default spans k d no_span in_list

    own : ((span_at spans k).from < (span_at spans k).to) × ((span_at spans k).to ≤ run.table.ticks)
    own = ((are.each k in_list).some, omega (arith, (are.each k in_list).by, ticks_are model run task of))

    pub span_some : span.from < span.to
    span_some = subst (λ (s : Span). s.from < s.to) (sym is_span) own.0

    pub span_within : span.to ≤ run.table.ticks
    span_within = subst (λ (s : Span). s.to ≤ run.table.ticks) (sym is_span) own.1

    pub span_runs : RunsFrom (system_of model) run task span.from span.to
    span_runs = subst (λ (s : Span). RunsFrom (system_of model) run task s.from s.to) (sym is_span) ((are.each k in_list).runs)

    ahead_of : (j : ℕ) → k ≤ j → j < length spans → (span_at spans k).from ≤ (span_at spans j).from
    ahead_of j after within = elim (cases_lt k j) [
      | inl later ↦ omega (arith, own.0, rise k j later within)
      | inr not ↦ let same : k ≡ j = omega (arith, after, not) in omega (arith, ap (λ n. (span_at spans n).from) same)
    ]

    pub at_span : IsWorkAt (system_of model) run task work cursor span.from
    at_span = subst (λ (s : Span). IsWorkAt (system_of model) run task work cursor s.from) (sym is_span)
        (work_rests model run task of work cursor walked.tick (span_at spans k).from walked.at_tick (walked.ahead k (omega arith) in_list)
        (omega (arith, own.0, own.1))
        (rests k work cursor walked (span_at spans k).from (omega (arith, own.0, own.1)) ahead_of))

    pub cut_at_span : IsCutAt (system_of model) run task work.parts cursor span.from
    cut_at_span = record {
      cut = λ i last at job place. absurd (omega (
        arith,
        at,
        walked.at_tick.parts.by i (omega (arith, last)),
        walked.apart i k last (omega arith) in_list,
        ap (λ (s : Span). s.from) is_span,
      ));
    }

    pub walk_on : (after : Work) (next : Cursor) → IsWorkAt (system_of model) run task after next span.to → IsWalked (system_of model) run task spans (k + 1) after next
    walk_on after next at_end = record {
      tick = (span_at spans k).to;
      at_tick = subst (λ (s : Span). IsWorkAt (system_of model) run task after next s.to) is_span at_end;
      within = own.1;
      ended = λ j below. elim (cases_lt j k) [
        | inl early ↦ omega (arith, walked.ended j early, walked.ahead k (omega arith) in_list, own.0)
        | inr not ↦ let same : k ≡ j = omega (arith, not, below) in omega (arith, ap (λ n. (span_at spans n).to) same)
      ];
      ahead = λ j late within. omega (arith, rise k j (omega (arith, late)) within);
      apart = λ i j last late within. rise k j (omega (arith, late)) within;
    }

  -- behind all spans
  pub walk_ends : (k : ℕ) (work : Work) (cursor : Cursor) → length spans ≤ k → IsWalked (system_of model) run task spans k work cursor
      → IsWorkAt (system_of model) run task work cursor run.table.ticks
  walk_ends k work cursor all walked = work_rests model run task of work cursor walked.tick run.table.ticks walked.at_tick walked.within (omega arith)
      (rests k work cursor walked run.table.ticks (omega arith) (λ j late within. absurd (omega (arith, late, within, all))))
