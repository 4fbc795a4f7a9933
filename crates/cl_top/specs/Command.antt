-- The words of each command, and the files that it needs.
use Rattle.std.specs.Prelude.{ℕ, Bool, List, [], ◌∷◌, length, drop, Option, Some, None, ◌+◌, ◌≤◌, ◌||◌, ◌==◌, codes, if◌then◌else◌}
use Rattle.std.specs.Option.{option_map}
use Rattle.std.specs.Str.{bytes_eq}
use Rattle.cl_model.specs.{Name.is_name, declared.limits.TheConstants.MOST_TASKS}
use Rattle.cl_gen.specs.declared.limits.TheConstants.{MOST_RUN_TICKS}
use Rattle.cl_picture.specs.declared.window.TheConstants.{MOST_WINDOW}
use Rattle.cl_engine.specs.{declared.{files.{Files.Files, TheConstants.FILE_LIMIT}, words.Bounds.Bounds}, Files.file_count, Words.two_numbers}
use Rattle.cl_engine.specs.declared.files.Files.TheVariants as files
use Rattle.cl_top.specs.{declared.{command.{Command.Command, TheConstants.TRACE_LIMIT}, subject.What.What}, Subject.what_of}
use Rattle.cl_top.specs.declared.command.Command.TheVariants as command
use Rattle.cl_help.specs.Topic.{topic_of}

-- ---- the files of each

-- a model file that is valid, but for these
abbrev pub files_read : Command → Files
files_read command.Check = files.Content
files_read command.CheckFile = files.ContentAnd TRACE_LIMIT
files_read command.Replay = files.ModelAnd TRACE_LIMIT
files_read command.Observe = files.ModelAnd TRACE_LIMIT
files_read (command.Draw from to) = files.ModelAnd TRACE_LIMIT
files_read command.Edit = files.ModelAnd FILE_LIMIT
files_read command.Apply = files.ModelAnd FILE_LIMIT
files_read (command.Generate seed tasks) = files.Nothing
files_read (command.Survey seed tasks) = files.Nothing
files_read command.Help = files.Nothing
files_read (command.HelpOn topic) = files.Nothing
files_read command.Version = files.Nothing
files_read asked = files.Model

-- ---- the words of each

-- a number of at most so much
abbrev pub upto : (most : ℕ) → Bounds
upto most = record { least = 0; most = most }

-- a number of tasks
abbrev pub some_tasks : Bounds
some_tasks = record { least = 1; most = MOST_TASKS }

-- a seed: any number of 64 bits
abbrev pub any_seed : Bounds
any_seed = upto 18446744073709551615

-- a verb, a file for each that the command needs, and nothing behind them
abbrev pub whole : Command → List (List ℕ) → Option Command
whole asked words = if length words == file_count (files_read asked) + 1 then Some asked else None

-- `check`, of a model file alone or with a second file behind it
abbrev pub checking_of : List (List ℕ) → Option Command
checking_of words = if length words == 2 then whole command.Check words else whole command.CheckFile words

-- behind a verb and so many files two numbers within these bounds, and nothing behind them
abbrev pub with_two_numbers : (asked : ℕ → ℕ → Command) → (place : ℕ) → (one other : Bounds) → List (List ℕ) → Option Command
with_two_numbers asked place one other words = option_map (λ numbers. asked numbers.0 numbers.1) (two_numbers one other (drop place words))

-- what is asked of, where it is a name
abbrev pub named_by : Option What → (name : List ℕ) → Option (What × List ℕ)
named_by what name = if is_name name then option_map (λ of. (of, name)) what else None

-- the words are what is asked of and its name
abbrev pub subject_of : List (List ℕ) → Option (What × List ℕ)
subject_of (what ∷ name ∷ []) = named_by (what_of what) name
subject_of words = None

-- the words behind a verb and a file are what is asked of and its name
abbrev pub with_subject : (asked : What → List ℕ → Command) → List (List ℕ) → Option Command
with_subject asked words = option_map (λ subject. asked subject.0 subject.1) (subject_of (drop 2 words))

-- `help` alone, or with the verb of a command behind it
abbrev pub with_topic : List (List ℕ) → Option Command
with_topic (help ∷ []) = Some command.Help
with_topic (help ∷ verb ∷ []) = option_map (λ topic. command.HelpOn topic) (topic_of verb)
with_topic words = None

-- the options that ask for help, and the words that ask for the version
abbrev pub asks_help : List ℕ → Bool
asks_help verb = bytes_eq verb (codes "--help") || bytes_eq verb (codes "-h")

abbrev pub asks_version : List ℕ → Bool
asks_version verb = bytes_eq verb (codes "version") || bytes_eq verb (codes "--version")

-- the command on the program itself that words spell, by the first of them
abbrev pub by_word : (verb : List ℕ) (words : List (List ℕ)) → Option Command
by_word verb words =
    if bytes_eq verb (codes "help") then with_topic words
    else if asks_help verb then whole command.Help words
    else if asks_version verb then whole command.Version words
    else None

-- the command on two files, on numbers or on a name that words spell, by their verb
abbrev pub by_other_verb : (verb : List ℕ) (words : List (List ℕ)) → Option Command
by_other_verb verb words =
    if bytes_eq verb (codes "witness") then with_subject command.Witness words
    else if bytes_eq verb (codes "why") then with_subject command.Why words
    else if bytes_eq verb (codes "simulate") then with_two_numbers command.Simulate 2 (upto MOST_RUN_TICKS) any_seed words
    else if bytes_eq verb (codes "replay") then whole command.Replay words
    else if bytes_eq verb (codes "observe") then whole command.Observe words
    else if bytes_eq verb (codes "draw") then with_two_numbers command.Draw 3 (upto MOST_WINDOW) (upto MOST_WINDOW) words
    else if bytes_eq verb (codes "edit") then whole command.Edit words
    else if bytes_eq verb (codes "apply") then whole command.Apply words
    else if bytes_eq verb (codes "generate") then with_two_numbers command.Generate 1 any_seed some_tasks words
    else if bytes_eq verb (codes "survey") then with_two_numbers command.Survey 1 any_seed some_tasks words
    else by_word verb words

-- the command that words spell, by their verb: on a model alone, or another
abbrev pub by_verb : (verb : List ℕ) (words : List (List ℕ)) → Option Command
by_verb verb words =
    if bytes_eq verb (codes "analyse") then whole command.Analyse words
    else if bytes_eq verb (codes "migrate") then whole command.Migrate words
    else if bytes_eq verb (codes "cut") then whole command.Cut words
    else if bytes_eq verb (codes "order") then whole command.Order words
    else if bytes_eq verb (codes "headroom") then whole command.Headroom words
    else if bytes_eq verb (codes "margin") then whole command.Margin words
    else if bytes_eq verb (codes "tighten") then whole command.Tighten words
    else if bytes_eq verb (codes "verify") then whole command.Verify words
    else if bytes_eq verb (codes "explain") then whole command.Explain words
    else if bytes_eq verb (codes "check") then checking_of words
    else by_other_verb verb words

-- the command that words spell, or none
unfoldable pub command_of : List (List ℕ) → Option Command
command_of [] = None
command_of (verb ∷ words) = by_verb verb (verb ∷ words)

-- a command that words spell asks for few: for as many ticks as a run may have, for a window of such ticks, for some tasks
-- and as many as a model may have
unfoldable pub AsksForFew : Command → Type 0
AsksForFew (command.Simulate ticks seed) = ticks ≤ MOST_RUN_TICKS
AsksForFew (command.Draw from to) = to ≤ MOST_WINDOW
AsksForFew (command.Generate seed tasks) = (1 ≤ tasks) × (tasks ≤ MOST_TASKS)
AsksForFew (command.Survey seed tasks) = (1 ≤ tasks) × (tasks ≤ MOST_TASKS)
AsksForFew asked = Unit {0}
