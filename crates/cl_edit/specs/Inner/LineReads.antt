-- What the words of a line are read as.
use Rattle.std.specs.Prelude.{ℕ, zero, suc, false, if◌then◌else◌, Option, Some, None, List, [], ◌∷◌, ◌++◌, map, codes}
use Rattle.std.specs.Option.{option_map, option_and_then}
use Rattle.std.specs.Str.{bytes_eq}
use Rattle.cl_model.specs.{declared.{limits.TheConstants.{MOST_TICKS, MOST_PRIORITY, MOST_REQUIRED, MOST_TASKS, MOST_RUNNABLES, MOST_ACCESSES, MOST_STEPS, MOST_HOPS, LEAST_JOBS_OF_BURST, MOST_JOBS_OF_BURST}, task.{RunnableDef.RunnableDef, TaskDef.TaskDef}}, Named.has_name}
use Rattle.cl_edit.specs.declared.edit.{NamedPriority.NamedPriority, Edit.{Edit, TheVariants.{Range, Whole, Period, Offset, Jitter, Distances, Burst, Deadline, Swap, Priorities, Move, Kind, AddTask, DropTask, AddChain, DropChain, Requirement, DropRequirement, Report, Tighten, Verify}}}
use Rattle.cl_edit.specs.{declared.version.Version.{Version, TheVariants.{One, Two}}, Inner.{Parts.{parts, first_read, then_read, with_left, if_done}, Fields.{name_in, decimal_from, time_in, flag_in, access_in, deadline_in, names_in, requirement_kind_in}}}

-- what is read of words, and the words that are left
abbrev pub Read : Type 0 → Type 0
Read X = Option (X × List (List ℕ))

-- ---- lines of fixed length

-- a name
abbrev pub name_line : (make : List ℕ → Edit) → List (List ℕ) → Read Edit
name_line make words = then_read (first_read name_in words) (λ name words. Some (make name, words))

-- a name, and a word behind it
abbrev pub read_name_and_word : {X : Type 0} → (read : List ℕ → Option X) → (make : List ℕ → X → Edit) → List (List ℕ) → Read Edit
read_name_and_word read make words = then_read (first_read name_in words) (λ name words. then_read (first_read read words) (λ x words.
    Some (make name x, words)))

-- a name, and two words behind it
abbrev pub two_word_line : {X Y : Type 0} → (read : List ℕ → Option X) → (read_next : List ℕ → Option Y) → (make : List ℕ → X → Y → Edit)
    → List (List ℕ) → Read Edit
two_word_line read read_next make words = then_read (first_read name_in words) (λ name words. then_read (first_read read words) (λ x words.
    then_read (first_read read_next words) (λ y words. Some (make name x y, words))))

abbrev pub range_in : List (List ℕ) → Read Edit
range_in words = two_word_line time_in time_in Range words

abbrev pub whole_in : List (List ℕ) → Read Edit
whole_in words = read_name_and_word flag_in Whole words

abbrev pub period_in : List (List ℕ) → Read Edit
period_in words = read_name_and_word time_in Period words

abbrev pub offset_in : List (List ℕ) → Read Edit
offset_in words = read_name_and_word (decimal_from 0 MOST_TICKS) Offset words

abbrev pub jitter_in : List (List ℕ) → Read Edit
jitter_in words = read_name_and_word (decimal_from 0 MOST_TICKS) Jitter words

abbrev pub distances_in : List (List ℕ) → Read Edit
distances_in words = two_word_line time_in time_in Distances words

abbrev pub burst_in : List (List ℕ) → Read Edit
burst_in words = then_read (first_read name_in words) (λ stimulus words. then_read (first_read time_in words) (λ period words.
    then_read (first_read (decimal_from LEAST_JOBS_OF_BURST MOST_JOBS_OF_BURST) words) (λ count words.
    then_read (first_read time_in words) (λ distance words. Some (Burst stimulus period count distance, words)))))

abbrev pub deadline_line_in : List (List ℕ) → Read Edit
deadline_line_in words = read_name_and_word deadline_in Deadline words

abbrev pub swap_in : List (List ℕ) → Read Edit
swap_in words = read_name_and_word name_in Swap words

abbrev pub move_in : List (List ℕ) → Read Edit
move_in words = two_word_line name_in (decimal_from 0 MOST_PRIORITY) Move words

abbrev pub access_line_in : List (List ℕ) → Read Edit
access_line_in words = read_name_and_word access_in Kind words

abbrev pub drop_task_in : List (List ℕ) → Read Edit
drop_task_in words = name_line DropTask words

abbrev pub drop_chain_in : List (List ℕ) → Read Edit
drop_chain_in words = name_line DropChain words

abbrev pub chain_in : List (List ℕ) → Read Edit
chain_in words = two_word_line (names_in MOST_STEPS) (names_in MOST_HOPS)
    (λ name runnables labels. AddChain (record { name = name; runnables = runnables; labels = labels })) words

abbrev pub requirement_in : List (List ℕ) → Read Edit
requirement_in words = then_read (first_read name_in words) (λ name words. then_read (first_read name_in words) (λ chain words.
    then_read (first_read requirement_kind_in words) (λ kind words. then_read (first_read (decimal_from 0 MOST_REQUIRED) words) (λ most words.
    Some (Requirement (record { name = name; chain = chain; kind = kind; most = most }), words)))))

abbrev pub drop_requirement_in : List (List ℕ) → Read Edit
drop_requirement_in words = name_line DropRequirement words

-- ---- lists that go on to the end of a line

-- at most so many, of all words, where one is read by those that stand above it
unfoldable pub list_in : {X : Type 0} → (read : (above : List X) → List (List ℕ) → Read X) → (most : ℕ) → (above : List X) → List (List ℕ) → Option (List X)
list_in read most above [] = Some []
list_in read zero above (word ∷ words) = None
list_in read (suc most) above (word ∷ words) = then_read (read above (word ∷ words)) (λ x left.
    option_map (λ xs. x ∷ xs) (list_in read most (above ++ x ∷ []) left))

-- ---- the line of priorities

-- a task and the priority that it gets
abbrev pub read_priority : List (List ℕ) → Read NamedPriority
read_priority words = then_read (first_read name_in words) (λ task words. then_read (first_read (decimal_from 0 MOST_PRIORITY) words) (λ priority words.
    Some (record { task = task; priority = priority }, words)))

-- the tasks that get one
abbrev pub tasks_of : List NamedPriority → List (List ℕ)
tasks_of priorities = map (λ (p : NamedPriority). p.task) priorities

-- one, unless its task stands above
abbrev pub unless_above : (above : List NamedPriority) → NamedPriority → List (List ℕ) → Read NamedPriority
unless_above above p words = if has_name p.task (tasks_of above) then None else Some (p, words)

abbrev pub new_priority_in : (above : List NamedPriority) → List (List ℕ) → Read NamedPriority
new_priority_in above words = then_read (read_priority words) (unless_above above)

-- priorities, of all words
abbrev pub priority_list_in : List (List ℕ) → Option (List NamedPriority)
priority_list_in words = list_in new_priority_in MOST_TASKS [] words

-- the edit that sets them, where there is one
abbrev pub with_priorities_read : List NamedPriority → Option Edit
with_priorities_read [] = None
with_priorities_read (p ∷ ps) = Some (Priorities (p ∷ ps))

abbrev pub priorities_in : List (List ℕ) → Read Edit
priorities_in words = with_left [] (option_and_then with_priorities_read (priority_list_in words))

-- ---- the line of a new task

-- a runnable of it
abbrev pub runnable_in : List (List ℕ) → Read RunnableDef
runnable_in words = then_read (first_read name_in words) (λ name words. then_read (first_read time_in words) (λ least words.
    then_read (first_read time_in words) (λ greatest words. then_read (first_read (names_in MOST_ACCESSES) words) (λ reads words.
    then_read (first_read (names_in MOST_ACCESSES) words) (λ writes words.
    Some (record { name = name; least = least; greatest = greatest; whole = false; reads = reads; writes = writes }, words))))))

-- runnables, of all words
abbrev pub runnables_in : List (List ℕ) → Option (List RunnableDef)
runnables_in words = list_in (λ above words. runnable_in words) MOST_RUNNABLES [] words

-- the edit with a new task, where it has a runnable
abbrev pub with_runnables : TaskDef → List RunnableDef → Option Edit
with_runnables task [] = None
with_runnables task (r ∷ rs) = Some (AddTask (record task { runnables = r ∷ rs }))

-- what stands in front of its runnables
abbrev pub task_head_in : List (List ℕ) → Read TaskDef
task_head_in words = then_read (first_read name_in words) (λ name words. then_read (first_read name_in words) (λ core words.
    then_read (first_read name_in words) (λ stimulus words. then_read (first_read (decimal_from 0 MOST_PRIORITY) words) (λ priority words.
    then_read (first_read access_in words) (λ access words. then_read (first_read deadline_in words) (λ deadline words.
    Some (record { name = name; core = core; stimulus = stimulus; priority = priority; access = access; deadline = deadline; runnables = [] }, words)))))))

-- and its runnables, of all words
abbrev pub task_in : List (List ℕ) → Read Edit
task_in words = then_read (task_head_in words) (λ task words.
    with_left [] (option_and_then (with_runnables task) (runnables_in words)))

-- ---- a line

-- the edit of a keyword and of the words behind it
unfoldable pub fields_in : (keyword : List ℕ) → List (List ℕ) → Read Edit
fields_in keyword words =
    if bytes_eq keyword (codes "range") then range_in words
    else if bytes_eq keyword (codes "whole") then whole_in words
    else if bytes_eq keyword (codes "period") then period_in words
    else if bytes_eq keyword (codes "offset") then offset_in words
    else if bytes_eq keyword (codes "jitter") then jitter_in words
    else if bytes_eq keyword (codes "distances") then distances_in words
    else if bytes_eq keyword (codes "burst") then burst_in words
    else if bytes_eq keyword (codes "deadline") then deadline_line_in words
    else if bytes_eq keyword (codes "swap") then swap_in words
    else if bytes_eq keyword (codes "move") then move_in words
    else if bytes_eq keyword (codes "access") then access_line_in words
    else if bytes_eq keyword (codes "task") then task_in words
    else if bytes_eq keyword (codes "drop-task") then drop_task_in words
    else if bytes_eq keyword (codes "chain") then chain_in words
    else if bytes_eq keyword (codes "drop-chain") then drop_chain_in words
    else if bytes_eq keyword (codes "report") then Some (Report, words)
    else None

-- the same of version 2
unfoldable pub later_fields_in : (keyword : List ℕ) → List (List ℕ) → Read Edit
later_fields_in keyword words =
    if bytes_eq keyword (codes "priorities") then priorities_in words
    else if bytes_eq keyword (codes "requirement") then requirement_in words
    else if bytes_eq keyword (codes "drop-requirement") then drop_requirement_in words
    else if bytes_eq keyword (codes "tighten") then Some (Tighten, words)
    else if bytes_eq keyword (codes "verify") then Some (Verify, words)
    else fields_in keyword words

-- that of a version
abbrev pub fields_of : Version → (keyword : List ℕ) → List (List ℕ) → Read Edit
fields_of One keyword words = fields_in keyword words
fields_of Two keyword words = later_fields_in keyword words

-- the edit of all words of a line of a version
unfoldable pub words_in : Version → List (List ℕ) → Option Edit
words_in version [] = None
words_in version (keyword ∷ words) = then_read (fields_of version keyword words) if_done

-- the edit of a line of a version, without its end
unfoldable pub edit_in : Version → List ℕ → Option Edit
edit_in version text = words_in version (parts 0x20 text)
