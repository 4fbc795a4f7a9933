-- The explanation of a model: what loads its cores, what its responses are the sum of, and what its bounds are.
use Rattle.std.specs.Prelude.{ℕ, ◌+◌, ◌-◌, ℤ, ◌==◌, if◌then◌else◌, List, [], ◌++◌, length, slice_index_or, pos, codes, decimal}
use Rattle.std.specs.Fmt.{signed_decimal}
use Rattle.std.specs.List.{flat_map, range_with_len}
use Rattle.cl_text.specs.Line.{line}
use Rattle.cl_model.specs.{declared.model.SystemModel.SystemModel, ByNumber.{core_at, task_at, chain_at}, Groups.{group_at, groups_at}}
use Rattle.cl_runs.specs.SystemOf.{system_of}
use Rattle.cl_hop.specs.{declared.group_timing.GroupTiming.GroupTiming, Bounds.Lengths, Hops.{saves, forward_hop, backward_hop}}
use Rattle.cl_bound.specs.{Answers.{answers_of, answer_at}, Bounds.settled_timing}
use Rattle.cl_phase.specs.Walked.{walked_of}
use Rattle.cl_analyse.specs.{declared.findings.ChainAnswer.{ChainAnswer, TheVariants.{Bounds, Late}}, ChainAnswers.chain_answer_of}
use Rattle.cl_tight.specs.{TightTimings.tight_timing, TightFindings.tight_chain_answer_of}
use Rattle.cl_report.specs.Report.{task_line, chain_line, bounds_words}
use Rattle.cl_explain.specs.{Loads.{core_load, MILLION}, Parts.part_lines}

-- ---- cores and tasks

-- the line of core i
unfoldable pub core_line : SystemModel → ℕ → List ℕ
core_line model i =
    line (codes "core " ++ (core_at model i).name ++ codes " load " ++ decimal (core_load (system_of model) i) ++ codes " of " ++ decimal MILLION)

-- all lines of task i
abbrev pub task_lines_of : SystemModel → ℕ → List ℕ
task_lines_of model i =
    let answer = answer_at (answers_of (system_of model)) i in
    task_line model answer i ++ part_lines model i answer

-- ---- groups and hops

-- the name of the task of a group of chain i
abbrev pub task_of_group : SystemModel → (chain place : ℕ) → List ℕ
task_of_group model chain place = (task_at model (group_at (groups_at model chain) place).task).name

abbrev pub timing_of_group : SystemModel → (chain place : ℕ) → GroupTiming
timing_of_group model chain place = settled_timing (system_of model) (group_at (groups_at model chain) place)

-- what is known of a group: its greatest distance between arrivals, its earliest read and its latest write after one
unfoldable pub group_words : SystemModel → (chain place : ℕ) → GroupTiming → List ℕ
group_words model chain place timing =
    codes "group " ++ (chain_at model chain).name ++ codes " " ++ task_of_group model chain place
    ++ codes " distance " ++ decimal timing.distance ++ codes " read " ++ decimal timing.read ++ codes " write " ++ decimal timing.write

-- the line of a group
unfoldable pub group_line : SystemModel → (chain place : ℕ) → List ℕ
group_line model chain place = line (group_words model chain place (timing_of_group model chain place))

-- how a hop is bounded
abbrev pub hop_word : (writer reader : GroupTiming) → List ℕ
hop_word writer reader =
    if writer.task == reader.task then codes "same"
    else if saves writer reader then codes "saves"
    else codes "plain"

-- from which group to which a hop is, and how it is bounded
unfoldable pub hop_head : SystemModel → (chain place : ℕ) → (writer reader : GroupTiming) → List ℕ
hop_head model chain place writer reader =
    codes "hop " ++ (chain_at model chain).name ++ codes " " ++ task_of_group model chain place ++ codes " " ++ task_of_group model chain (place + 1)
    ++ codes " " ++ hop_word writer reader

-- what a line says of the bounds of a hop
unfoldable pub hop_words : (writer reader : GroupTiming) → List ℕ
hop_words writer reader =
    codes " forward " ++ signed_decimal (forward_hop writer reader) ++ codes " backward " ++ signed_decimal (backward_hop writer reader)

-- the line of the hop from the group of a place to the next
unfoldable pub hop_line : SystemModel → (chain place : ℕ) → List ℕ
hop_line model chain place =
    let writer = timing_of_group model chain place in
    let reader = timing_of_group model chain (place + 1) in
    line (hop_head model chain place writer reader ++ hop_words writer reader)

-- the lines of the groups of a chain, with those of the hops between them
unfoldable pub group_lines : SystemModel → (chain : ℕ) → List ℕ
group_lines model chain =
    group_line model chain 0
    ++ flat_map (λ place. hop_line model chain place ++ group_line model chain (place + 1)) (range_with_len 0 (length (groups_at model chain) - 1))

-- the lines of groups of a chain that has bounds
abbrev pub lines_where_bounded : SystemModel → (chain : ℕ) → ChainAnswer → List ℕ
lines_where_bounded model chain (Bounds bounds) = group_lines model chain
lines_where_bounded model chain (Late task) = []

-- ---- tight bounds

-- a group and the arrival of one of its jobs
unfoldable pub walk_arrival_text : (word : List ℕ) → SystemModel → (chain place : ℕ) → ℤ → List ℕ
walk_arrival_text word model chain place arrival =
    word ++ (chain_at model chain).name ++ codes " " ++ task_of_group model chain place ++ codes " arrival " ++ signed_decimal arrival

-- the line of such
abbrev pub arrival_line : (word : List ℕ) → SystemModel → (chain place : ℕ) → ℤ → List ℕ
arrival_line word model chain place arrival = line (walk_arrival_text word model chain place arrival)

-- the lines of arrivals of groups from a place on
abbrev pub arrival_lines : (word : List ℕ) → SystemModel → (chain from : ℕ) → (arrivals : List ℤ) → List ℕ
arrival_lines word model chain from arrivals =
    flat_map (λ n. arrival_line word model chain (from + n) (slice_index_or arrivals n (pos 0))) (range_with_len 0 (length arrivals))

-- the jobs of a walk that lasts as long as the tight reaction: those that just miss the input, and those that take it
unfoldable pub walk_lines : SystemModel → (chain : ℕ) → (reaction : ℕ) → List ℕ
walk_lines model chain reaction =
    let walk = walked_of (system_of model) (tight_timing (system_of model)) (groups_at model chain) reaction in
    arrival_lines (codes "missed ") model chain 0 walk.missed
    ++ arrival_lines (codes "taken ") model chain walk.place walk.taken

-- the line of the tight bounds
unfoldable pub tight_line : SystemModel → (chain : ℕ) → Lengths → List ℕ
tight_line model chain bounds = line (codes "tight " ++ (chain_at model chain).name ++ bounds_words bounds)

abbrev pub tight_lines : SystemModel → (chain : ℕ) → ChainAnswer → List ℕ
tight_lines model chain (Bounds bounds) = tight_line model chain bounds ++ walk_lines model chain bounds.reaction
tight_lines model chain (Late task) = []

-- ---- chains

-- the lines of chain i by the responses of the report
abbrev pub report_lines_of : SystemModel → ℕ → List ℕ
report_lines_of model i =
    let answer = chain_answer_of model (chain_at model i) in
    chain_line model answer i ++ lines_where_bounded model i answer

-- all lines of chain i
unfoldable pub chain_lines_of : SystemModel → ℕ → List ℕ
chain_lines_of model i =
    report_lines_of model i
    ++ tight_lines model i (tight_chain_answer_of model (chain_at model i))

-- ---- the explanation

unfoldable pub explanation : SystemModel → List ℕ
explanation model =
    line (codes "chainlat explain 1")
    ++ flat_map (core_line model) (range_with_len 0 (length model.cores))
    ++ flat_map (task_lines_of model) (range_with_len 0 (length model.tasks))
    ++ flat_map (chain_lines_of model) (range_with_len 0 (length model.chains))
