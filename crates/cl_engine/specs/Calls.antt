-- What a call finds and leaves of its shelf and of its sink.
use Rattle.std.specs.Prelude.{◌≡◌, ℕ, Bool, List, Option}
use Rattle.cl_io.specs.{Counts.{Rose, RisesAlone}, Names.SameAtEach, Shelf.Held}

-- ---- the shelf

-- A shelf before and after a call: what it holds under each name, and the two numbers that it keeps of each name, how
-- often a fetch failed and the most bytes that one fetch took.
pub record ShelfCall : Type 0 where
  pub held : List ℕ → Held
  pub held_after : List ℕ → Held
  pub faults : List ℕ → ℕ
  pub faults_after : List ℕ → ℕ
  pub longest : List ℕ → ℕ
  pub longest_after : List ℕ → ℕ

abbrev pub shelf_call : {S : Type 0} (held : S → List ℕ → Held) (faults longest : S → List ℕ → ℕ) (before after : S) → ShelfCall
shelf_call held faults longest before after = record {
  held = held before;
  held_after = held after;
  faults = faults before;
  faults_after = faults after;
  longest = longest before;
  longest_after = longest after;
}

-- the count of faults of this name rose
abbrev pub RoseAt : ShelfCall → (name : List ℕ) → Type 0
RoseAt shelf name = Rose (shelf.faults name) (shelf.faults_after name)

-- both numbers of this name are as they were
pub record StaysAt (shelf : ShelfCall) (name : List ℕ) : Type 0 where
  pub faults : shelf.faults_after name ≡ shelf.faults name
  pub longest : shelf.longest_after name ≡ shelf.longest name

-- What the shelf holds is as it was, and so are the numbers of every name but this one, whose numbers haven't fallen.
pub record FetchesAlone (shelf : ShelfCall) (name : List ℕ) : Type 0 where
  pub same : SameAtEach shelf.held shelf.held_after
  pub faults : RisesAlone name shelf.faults shelf.faults_after
  pub longest : RisesAlone name shelf.longest shelf.longest_after

-- ---- the sink

-- A sink before and after a call, with what it tells of what was written, how often a write failed, and whether the last
-- one did.
pub record SinkCall (K : Type 0) : Type 0 where
  pub written : K → Option (List ℕ)
  pub faults : K → ℕ
  pub last_failed : K → Bool
  pub before : K
  pub after : K

abbrev pub sink_call : {K : Type 0} (written : K → Option (List ℕ)) (faults : K → ℕ) (last_failed : K → Bool) (before after : K) → SinkCall K
sink_call written faults last_failed before after =
    record { written = written; faults = faults; last_failed = last_failed; before = before; after = after }
