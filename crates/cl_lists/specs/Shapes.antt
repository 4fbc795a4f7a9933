-- The lines that a list of edits may have: their first words, and the shape of each, as a list of version 2 may have them.
use Rattle.std.specs.Prelude.{ℕ, if◌then◌else◌, List, Option, Some, None, codes}
use Rattle.std.specs.Option.{option_or}
use Rattle.std.specs.Str.{bytes_eq}
use Rattle.cl_edit.specs.declared.version.Version.{Version, TheVariants.{One, Two}}

-- of both versions
abbrev pub early_shape : List ℕ → Option (List ℕ)
early_shape word =
    if bytes_eq word (codes "range") then Some (codes "range RUNNABLE LEAST GREATEST")
    else if bytes_eq word (codes "whole") then Some (codes "whole RUNNABLE yes or no")
    else if bytes_eq word (codes "period") then Some (codes "period STIMULUS PERIOD")
    else if bytes_eq word (codes "offset") then Some (codes "offset STIMULUS OFFSET")
    else if bytes_eq word (codes "jitter") then Some (codes "jitter STIMULUS JITTER")
    else if bytes_eq word (codes "distances") then Some (codes "distances STIMULUS LEAST GREATEST")
    else if bytes_eq word (codes "burst") then Some (codes "burst STIMULUS PERIOD COUNT DISTANCE")
    else if bytes_eq word (codes "deadline") then Some (codes "deadline TASK DEADLINE")
    else if bytes_eq word (codes "swap") then Some (codes "swap TASK TASK")
    else if bytes_eq word (codes "move") then Some (codes "move TASK CORE PRIORITY")
    else if bytes_eq word (codes "access") then Some (codes "access TASK KIND")
    else if bytes_eq word (codes "task") then Some (codes "task NAME CORE STIMULUS PRIORITY KIND DEADLINE and 1 to 256 times RUNNABLE LEAST GREATEST READS WRITES")
    else if bytes_eq word (codes "drop-task") then Some (codes "drop-task TASK")
    else if bytes_eq word (codes "chain") then Some (codes "chain NAME RUNNABLES LABELS")
    else if bytes_eq word (codes "drop-chain") then Some (codes "drop-chain CHAIN")
    else if bytes_eq word (codes "report") then Some (codes "report")
    else None

-- of version 2 alone
abbrev pub later_shape : List ℕ → Option (List ℕ)
later_shape word =
    if bytes_eq word (codes "priorities") then Some (codes "priorities TASK N, 1 to 1024 times")
    else if bytes_eq word (codes "requirement") then Some (codes "requirement NAME CHAIN KIND MOST")
    else if bytes_eq word (codes "drop-requirement") then Some (codes "drop-requirement NAME")
    else if bytes_eq word (codes "tighten") then Some (codes "tighten")
    else if bytes_eq word (codes "verify") then Some (codes "verify")
    else None

-- the shape of the lines of a version that begin with a word
abbrev pub shape_of : Version → (word : List ℕ) → Option (List ℕ)
shape_of One word = early_shape word
shape_of Two word = option_or (later_shape word) (early_shape word)

-- the words with which the lines of a version begin
abbrev pub words_text : Version → List ℕ
words_text One = codes "range, whole, period, offset, jitter, distances, burst, deadline, swap, move, access, task, drop-task, chain, drop-chain, report"
words_text Two = codes "range, whole, period, offset, jitter, distances, burst, deadline, swap, priorities, move, access, task, drop-task, chain, drop-chain, requirement, drop-requirement, tighten, verify, report"
