-- The report of a model: a title, a line for each task, the lines of each chain, and a line for each requirement.
use Rattle.std.specs.Prelude.{◌≡◌, ℕ, List, [], ◌++◌, length, slice_index, codes, decimal, Some, None}
use Rattle.std.specs.List.{flat_map, range_with_len}
use Rattle.cl_text.specs.Line.{line}
use Rattle.cl_model.specs.{declared.{model.SystemModel.SystemModel, chain.{LengthKind.{LengthKind, TheVariants.{Reaction, Age, Reduced}}, RequirementDef.RequirementDef}}, Kinds.{length_word, requirement_word}, ByNumber.{task_at, deadline_of, chain_at, requirement_at}, Groups.group_at}
use Rattle.cl_model.specs.Groups.{groups_at}
use Rattle.cl_hop.specs.Bounds.{Lengths}
use Rattle.cl_bound.specs.{declared.answer.TaskAnswer.TaskAnswer, Answers.answer_at}
use Rattle.cl_bound.specs.declared.answer.TaskAnswer.TheVariants as task
use Rattle.cl_exact.specs.declared.witness.Witness.{Witness}
use Rattle.cl_analyse.specs.{declared.findings.{ChainAnswer.ChainAnswer, ExactAnswer.ExactAnswer, Verdict.{Verdict, TheVariants.{Met, Broken, Unshown}}, Findings.Findings}, ChainAnswers.{chain_answer_at, exact_answer_at}, Verdicts.verdict_at, Findings.AreFindings}
use Rattle.cl_analyse.specs.declared.findings.ChainAnswer.TheVariants as chain
use Rattle.cl_analyse.specs.declared.findings.ExactAnswer.TheVariants as exact

-- ---- tasks

-- what a line says of a task
abbrev pub task_words : TaskAnswer → List ℕ
task_words (task.Settled settled) = codes " response " ++ decimal settled.response
task_words task.Late = codes " late"

-- the line of a task that has this answer
unfoldable pub task_line : SystemModel → (answer : TaskAnswer) → (task : ℕ) → List ℕ
task_line model answer task =
    line (codes "task " ++ (task_at model task).name ++ task_words answer ++ codes " deadline " ++ decimal (deadline_of model task))

-- the lines of all tasks, in file order
abbrev pub task_lines : SystemModel → List TaskAnswer → List ℕ
task_lines model answers = flat_map (λ task. task_line model (answer_at answers task) task) (range_with_len 0 (length model.tasks))

-- ---- bounds

-- what a line says of a chain: its bounds, or the first of its tasks that is late
unfoldable pub bounds_words : Lengths → List ℕ
bounds_words bounds =
    codes " reaction " ++ decimal bounds.reaction ++ codes " age " ++ decimal bounds.age ++ codes " reduced " ++ decimal bounds.reduced

abbrev pub chain_words : SystemModel → ChainAnswer → List ℕ
chain_words model (chain.Bounds bounds) = bounds_words bounds
chain_words model (chain.Late i) = codes " late " ++ (task_at model i).name

-- the line of a chain that has this answer
unfoldable pub chain_line : SystemModel → ChainAnswer → (chain : ℕ) → List ℕ
chain_line model answer chain = line (codes "chain " ++ (chain_at model chain).name ++ chain_words model answer)

-- ---- exact lengths

-- the job of the group at a place of a chain, as ` TASK:JOB`
abbrev pub job_words : SystemModel → (chain : ℕ) → (jobs : List ℕ) → (place : ℕ) → List ℕ
job_words model chain jobs place =
    codes " " ++ (task_at model (group_at (groups_at model chain) place).task).name ++ codes ":" ++ decimal (slice_index jobs place)

-- the jobs of a chain, one for each group
unfoldable pub jobs_words : SystemModel → (chain : ℕ) → (jobs : List ℕ) → List ℕ
jobs_words model chain jobs = flat_map (job_words model chain jobs) (range_with_len 0 (length (groups_at model chain)))

-- the line of an exact length of chain i
unfoldable pub witness_line : SystemModel → ℕ → LengthKind → Witness → List ℕ
witness_line model i kind witness =
    line (codes "exact " ++ (chain_at model i).name ++ codes " " ++ length_word kind ++ codes " " ++ decimal witness.length
    ++ codes " from " ++ decimal witness.from ++ codes " to " ++ decimal witness.to
    ++ codes " jobs" ++ jobs_words model i witness.jobs)

-- the line of a chain whose hyperperiod exceeds this limit
unfoldable pub past_line : SystemModel → ℕ → (limit : ℕ) → List ℕ
past_line model i limit = line (codes "exact " ++ (chain_at model i).name ++ codes " past " ++ decimal limit)

-- the lines of the exact lengths of chain i
abbrev pub exact_lines : SystemModel → ℕ → ExactAnswer → List ℕ
exact_lines model i (exact.Exact lengths) =
    witness_line model i Reaction lengths.reaction
    ++ witness_line model i Age lengths.age
    ++ witness_line model i Reduced lengths.reduced
exact_lines model i (exact.Past limit) = past_line model i limit
exact_lines model i exact.NotTimed = []
exact_lines model i exact.ChainLate = []

-- all lines of chain i
abbrev pub chain_lines : SystemModel → Findings → ℕ → List ℕ
chain_lines model findings i = chain_line model (chain_answer_at findings.chains i) i ++ exact_lines model i (exact_answer_at findings.exacts i)

-- ---- requirements

-- the value of a verdict, where there is one
abbrev pub verdict_value : Verdict → List ℕ
verdict_value (Met value) = decimal value
verdict_value (Broken value) = decimal value
verdict_value (Unshown (Some value)) = decimal value
verdict_value (Unshown None) = codes "late"

abbrev pub verdict_word : Verdict → List ℕ
verdict_word (Met value) = codes "met"
verdict_word (Broken value) = codes "broken"
verdict_word (Unshown value) = codes "unshown"

-- what a line says of a verdict
unfoldable pub verdict_words : (most : ℕ) → Verdict → List ℕ
verdict_words most verdict = verdict_value verdict ++ codes " of " ++ decimal most ++ codes " " ++ verdict_word verdict

-- the line of a requirement
unfoldable pub verdict_line : RequirementDef → Verdict → List ℕ
verdict_line requirement verdict =
    line (codes "requirement " ++ requirement.name ++ codes " " ++ requirement_word requirement.kind
    ++ codes " " ++ verdict_words requirement.most verdict)

-- the lines of all requirements, in file order
abbrev pub requirement_lines : SystemModel → List Verdict → List ℕ
requirement_lines model verdicts = flat_map (λ i. verdict_line (requirement_at model i) (verdict_at verdicts i)) (range_with_len 0 (length model.requirements))

-- ---- the report

-- the report of a model with these findings
unfoldable pub report_text : SystemModel → Findings → List ℕ
report_text model findings =
    line (codes "chainlat report 1")
    ++ task_lines model findings.tasks
    ++ flat_map (chain_lines model findings) (range_with_len 0 (length model.chains))
    ++ requirement_lines model findings.verdicts

-- the text is the report of the model's findings
pub record IsReportOf (model : SystemModel) (text : List ℕ) : Type 0 where
  pub findings : Findings
  pub found : AreFindings model findings
  pub printed : text ≡ report_text model findings
