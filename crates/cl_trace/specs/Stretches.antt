-- The longest stretches of entries, computed from them.
use Rattle.std.specs.Prelude.{ℕ, suc, ◌==◌, if◌then◌else◌, Option, List, [], ◌∷◌}
use Rattle.std.specs.Option.{option_eq}
use Rattle.cl_run_data.specs.declared.stretches.Stretch.{Stretch}

-- an entry that lasts up to a tick, before the stretches that begin there: it joins the first of them where that has
-- the same entry, and is a stretch of its own otherwise
abbrev pub before_stretches : (who : Option ℕ) (end : ℕ) → List Stretch → List Stretch
before_stretches who end [] = record { who = who; end = end } ∷ []
before_stretches who end (next ∷ stretches) = if option_eq ◌==◌ who next.who then next ∷ stretches
    else record { who = who; end = end } ∷ next ∷ stretches

-- the longest stretches of the entries from a tick on
abbrev pub stretches_from : (tick : ℕ) → List (Option ℕ) → List Stretch
stretches_from tick [] = []
stretches_from tick (who ∷ entries) = before_stretches who (suc tick) (stretches_from (suc tick) entries)

-- the longest stretches of entries
unfoldable pub stretches_of : List (Option ℕ) → List Stretch
stretches_of entries = stretches_from 0 entries
