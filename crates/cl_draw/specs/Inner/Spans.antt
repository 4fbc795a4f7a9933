-- When tasks run, as lists of spans. Times are in ticks.
use Rattle.std.specs.Prelude.{◌≡◌, ℕ, suc, Option, Some, None, ◌<◌, ◌≤◌, List, [], ◌∷◌, ◌++◌, length, slice_index_or}
use Rattle.cl_draw.specs.declared.spans.Span.{Span}

-- the spans of a task
abbrev pub spans_at : List (List Span) → (task : ℕ) → List Span
spans_at spans task = slice_index_or spans task []

-- what stands past the last span
unfoldable pub no_span : Span
no_span = record { from = 0; to = 0 }

-- the span of a number
abbrev pub span_at : List Span → (k : ℕ) → Span
span_at spans k = slice_index_or spans k no_span

-- a task runs in each tick of a span, and the span ends by a tick
pub record RunsIn (entries : List (Option ℕ)) (task end : ℕ) (span : Span) : Type 0 where
  pub some : span.from < span.to
  pub by : span.to ≤ end
  pub runs : (tick : ℕ) → span.from ≤ tick → tick < span.to → slice_index_or entries tick None ≡ Some task

-- some span has a tick
pub record HasSpanAt (spans : List Span) (tick : ℕ) : Type 0 where
  pub place : ℕ
  pub within : place < length spans
  pub from : (span_at spans place).from ≤ tick
  pub to : tick < (span_at spans place).to

-- the spans of a task below a tick: all ticks in which it runs, as long as can be, in order
pub record AreSpansBelow (entries : List (Option ℕ)) (task end : ℕ) (spans : List Span) : Type 0 where
  pub each : (k : ℕ) → k < length spans → RunsIn entries task end (span_at spans k)
  pub apart : (k : ℕ) → suc k < length spans → (span_at spans k).to < (span_at spans (suc k)).from
  pub all : (tick : ℕ) → tick < end → slice_index_or entries tick None ≡ Some task → HasSpanAt spans tick

-- the spans of a task
abbrev pub AreSpans : (entries : List (Option ℕ)) → (task : ℕ) → List Span → Type 0
AreSpans entries task spans = AreSpansBelow entries task (length entries) spans

-- so many empty lists
pub record AreEmpty (tasks : ℕ) (spans : List (List Span)) : Type 0 where
  pub count : length spans ≡ tasks
  pub empty : (task : ℕ) → spans_at spans task ≡ []

-- a span behind those of a task, where there is one, and the others as they were
pub record PutsSpan (who : Option ℕ) (span : Span) (old new : List (List Span)) : Type 0 where
  pub count : length new ≡ length old
  pub own : (task : ℕ) → task < length old → who ≡ Some task → spans_at new task ≡ spans_at old task ++ span ∷ []
  pub others : (task : ℕ) → (who ≡ Some task → ⊥) → spans_at new task ≡ spans_at old task

-- the spans of the entries of a core behind none, and those of tasks that don't run on it as they were
pub record PutsCore (entries : List (Option ℕ)) (old new : List (List Span)) : Type 0 where
  pub count : length new ≡ length old
  pub own : (task : ℕ) → task < length old → spans_at old task ≡ [] → AreSpans entries task (spans_at new task)
  pub others : (task : ℕ) → ((tick : ℕ) → slice_index_or entries tick None ≡ Some task → ⊥) → spans_at new task ≡ spans_at old task
