-- The lines of the jobs of a chain on its walk, and of how long that lasts. Times are in ticks, and moments may lie before 0.
use Rattle.std.specs.Prelude.{ℕ, ◌-◌, ℤ, pos, ◌+ℤ◌, List, ◌++◌, length, codes}
use Rattle.std.specs.Fmt.{signed_decimal}
use Rattle.std.specs.List.{flat_map, range_with_len}
use Rattle.cl_text.specs.Line.{line}
use Rattle.cl_model.specs.{declared.{chain.RequirementKind.{RequirementKind, TheVariants.{Length, Delay}}, model.SystemModel.SystemModel}, ByNumber.chain_at, Groups.groups_at}
use Rattle.cl_phase.specs.declared.whole.WholeWalk.{WholeWalk}
use Rattle.cl_explain.specs.Explanation.{walk_arrival_text}
use Rattle.cl_why.specs.Hops.{timing_at_place, missed_arrival, taken_arrival}

-- the line of a job of a group: when it arrives, and when it reads or writes, so many ticks after that
unfoldable pub job_line : (word does : List ℕ) → SystemModel → (chain place : ℕ) → (arrival : ℤ) → (after : ℕ) → List ℕ
job_line word does model chain place arrival after =
    line (walk_arrival_text word model chain place arrival ++ does ++ signed_decimal (arrival +ℤ pos after))

-- the place of the first group of which a job just misses: of a delay the second
abbrev pub first_missed : RequirementKind → ℕ
first_missed (Length kind) = 0
first_missed Delay = 1

-- the lines of the jobs that just miss, from a place on
abbrev pub missed_lines : SystemModel → (chain : ℕ) → WholeWalk → (from : ℕ) → List ℕ
missed_lines model chain walk from =
    flat_map (λ place. job_line (codes "missed ") (codes " read ") model chain place (missed_arrival walk place) (timing_at_place model chain place).read)
    (range_with_len from (length (groups_at model chain) - from))

-- the lines of the jobs that take
abbrev pub taken_lines : SystemModel → (chain : ℕ) → WholeWalk → List ℕ
taken_lines model chain walk =
    flat_map (λ place. job_line (codes "taken ") (codes " write ") model chain place (taken_arrival walk place) (timing_at_place model chain place).write)
    (range_with_len 0 (length (groups_at model chain)))

-- from when a walk lasts: from the first read that just misses or, of a delay, from the first arrival that is taken
abbrev pub walk_from : WholeWalk → RequirementKind → (read : ℕ) → ℤ
walk_from walk (Length kind) read = missed_arrival walk 0 +ℤ pos read
walk_from walk Delay read = taken_arrival walk 0

-- to when: to the last write that is taken
abbrev pub walk_to : WholeWalk → (write : ℕ) → ℤ
walk_to walk write = taken_arrival walk (length walk.taken - 1) +ℤ pos write

-- the line of it
unfoldable pub why_length_line : SystemModel → (chain : ℕ) → (from to : ℤ) → List ℕ
why_length_line model chain from to =
    line (codes "length " ++ (chain_at model chain).name ++ codes " from " ++ signed_decimal from ++ codes " to " ++ signed_decimal to)

-- how early the first group reads, and how late the last has written
abbrev pub read_of_first : SystemModel → (chain : ℕ) → ℕ
read_of_first model chain = (timing_at_place model chain 0).read

abbrev pub write_of_last : SystemModel → (chain : ℕ) → ℕ
write_of_last model chain = (timing_at_place model chain (length (groups_at model chain) - 1)).write

-- all lines of a walk
unfoldable pub why_walk_lines : SystemModel → (chain : ℕ) → WholeWalk → RequirementKind → List ℕ
why_walk_lines model chain walk kind =
    missed_lines model chain walk (first_missed kind)
    ++ taken_lines model chain walk
    ++ why_length_line model chain (walk_from walk kind (read_of_first model chain)) (walk_to walk (write_of_last model chain))
