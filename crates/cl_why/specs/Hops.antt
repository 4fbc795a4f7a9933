-- The lines of the groups of a chain on its walk, and of the hops between them.
use Rattle.std.specs.Prelude.{ℕ, ◌+◌, ◌-◌, ℤ, pos, ◌+ℤ◌, ◌-ℤ◌, Bool, false, ◌&&◌, ◌==◌, cond, if◌then◌else◌, List, [], ◌++◌, length, slice_index_or, codes}
use Rattle.std.specs.Fmt.{signed_decimal}
use Rattle.std.specs.List.{flat_map, range_with_len}
use Rattle.cl_text.specs.Line.{line}
use Rattle.cl_model.specs.{declared.model.SystemModel.SystemModel, Groups.{group_at, groups_at}}
use Rattle.cl_runs.specs.SystemOf.{system_of}
use Rattle.cl_hop.specs.{Hops.lag, declared.group_timing.GroupTiming.GroupTiming}
use Rattle.cl_phase.specs.declared.whole.WholeWalk.{WholeWalk}
use Rattle.cl_tight.specs.TightTimings.{tight_timing}
use Rattle.cl_explain.specs.Explanation.{group_words, hop_head}
use Rattle.cl_why.specs.Shares.{free_words}

-- what tight bounds know of the group at a place of a chain
abbrev pub timing_at_place : SystemModel → (chain place : ℕ) → GroupTiming
timing_at_place model chain place = tight_timing (system_of model) (group_at (groups_at model chain) place)

-- whether the group of a place keeps its phase, when its job arrives that just misses, and when the one that takes
abbrev pub kept_at : WholeWalk → (place : ℕ) → Bool
kept_at walk place = slice_index_or walk.kept place false

abbrev pub missed_arrival : WholeWalk → (place : ℕ) → ℤ
missed_arrival walk place = slice_index_or walk.missed place (pos 0)

abbrev pub taken_arrival : WholeWalk → (place : ℕ) → ℤ
taken_arrival walk place = slice_index_or walk.taken place (pos 0)

-- the line of a group
unfoldable pub why_group_line : SystemModel → (chain : ℕ) → WholeWalk → (place : ℕ) → List ℕ
why_group_line model chain walk place =
    line (group_words model chain place (timing_at_place model chain place) ++ free_words (kept_at walk place))

-- by how much what the job of the group of a place hands over comes too late for the job of the next group that just
-- misses it
abbrev pub missed_by : WholeWalk → (place : ℕ) → (lag : ℤ) → ℤ
missed_by walk place lag = (taken_arrival walk place +ℤ lag) -ℤ missed_arrival walk (place + 1)

-- which is said where both keep their phases
abbrev pub missed_by_words : WholeWalk → (place : ℕ) → (lag : ℤ) → List ℕ
missed_by_words walk place lag =
    cond (kept_at walk place && kept_at walk (place + 1)) (codes " missed by " ++ signed_decimal (missed_by walk place lag)) []

-- the lag of a hop, and by how much it is missed, where its groups aren't of one task
abbrev pub lag_words : WholeWalk → (place : ℕ) → (writer reader : GroupTiming) → List ℕ
lag_words walk place writer reader =
    if writer.task == reader.task then []
    else codes " lag " ++ signed_decimal (lag writer reader) ++ missed_by_words walk place (lag writer reader)

-- the line of the hop from the group of a place to the next
unfoldable pub why_hop_line : SystemModel → (chain : ℕ) → WholeWalk → (place : ℕ) → List ℕ
why_hop_line model chain walk place =
    let writer = timing_at_place model chain place in
    let reader = timing_at_place model chain (place + 1) in
    line (hop_head model chain place writer reader ++ lag_words walk place writer reader)

-- the lines of the groups of a chain, with those of the hops between them
unfoldable pub why_group_lines : SystemModel → (chain : ℕ) → WholeWalk → List ℕ
why_group_lines model chain walk =
    why_group_line model chain walk 0
    ++ flat_map (λ place. why_hop_line model chain walk place ++ why_group_line model chain walk (place + 1))
    (range_with_len 0 (length (groups_at model chain) - 1))
