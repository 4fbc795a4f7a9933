-- Entries kept as stretches of one entry.
use Rattle.std.specs.Prelude.{◌≡◌, ◌≢◌, ℕ, suc, Option, None, ◌-◌, ◌<◌, ◌≤◌, List, [], ◌∷◌, ◌++◌, length, replicate, slice_index_or}
use Rattle.cl_run_data.specs.declared.stretches.Stretch.{Stretch}

-- the entries of stretches of which the first begins at `from`
abbrev pub entries_from : ℕ → List Stretch → List (Option ℕ)
entries_from from [] = []
entries_from from (stretch ∷ stretches) = replicate (stretch.end - from) stretch.who ++ entries_from stretch.end stretches

-- each stretch has an entry at least, and another one than the stretch before it
abbrev pub AreLongest : ℕ → List Stretch → Type 0
AreLongest from [] = Unit {0}
AreLongest from (stretch ∷ []) = from < stretch.end
AreLongest from (stretch ∷ next ∷ stretches) = (from < stretch.end) × (stretch.who ≢ next.who) × AreLongest stretch.end (next ∷ stretches)

-- the longest stretches of a list of entries
pub record AreStretchesOf (entries : List (Option ℕ)) (stretches : List Stretch) : Type 0 where
  pub longest : AreLongest 0 stretches
  pub entries_are : entries_from 0 stretches ≡ entries

-- a stretch of the list lasts from one tick to another: from the end of the stretch before it to its own
pub record LastsFrom (stretches : List Stretch) (place start end : ℕ) : Type 0 where
  pub within : place < length stretches
  pub first : place ≡ 0 → start ≡ 0
  pub next : (before : ℕ) (d : Stretch) → suc before ≡ place → start ≡ (slice_index_or stretches before d).end
  pub ends : (d : Stretch) → end ≡ (slice_index_or stretches place d).end

-- `end` is the end of the longest stretch of one entry that begins at a tick
pub record IsStretchEnd (entries : List (Option ℕ)) (tick end : ℕ) : Type 0 where
  pub after : tick < end
  pub within : end ≤ length entries
  pub same : (t : ℕ) → tick ≤ t → t < end → slice_index_or entries t None ≡ slice_index_or entries tick None
  pub longest : end < length entries → slice_index_or entries end None ≢ slice_index_or entries tick None
