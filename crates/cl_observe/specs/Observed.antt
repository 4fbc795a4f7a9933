-- What a run shows, legal or not, in words beside what is found of its model: a title, whether the run is legal, and, where
-- it is in order, the lines of each task and of each chain. Times are in ticks.
use Rattle.std.specs.Prelude.{◌≡◌, ◌⊎◌, ℕ, zero, suc, ℤ, pos, ◌-ℤ◌, int_lt, ◌||◌, Bool, nat_lt, if◌then◌else◌, List, [], ◌++◌, length, Option, Some, None, codes, decimal}
use Rattle.std.specs.Fmt.{signed_decimal}
use Rattle.std.specs.Option.{option_map}
use Rattle.cl_text.specs.Line.{line}
use Rattle.cl_model.specs.{declared.{model.SystemModel.SystemModel, chain.{LengthKind.TheVariants.{Reaction, Age, Reduced}, RequirementKind.{RequirementKind, TheVariants.{Length, Delay}}}}, Kinds.requirement_word, ByNumber.{task_at, runnable_at, chain_at, jitter_of}, Groups.groups_at}
use Rattle.cl_runs.specs.{Run.{Run, jobs_of}, SystemOf.system_of, Chains.JobChain, RunChains.run_moments, Delays.IsDelayChain, Measured.{Measured, IsMeasured}}
use Rattle.cl_bound.specs.{declared.answer.TaskAnswer.{TaskAnswer, TheVariants.{Settled, Late}}, Answers.answer_at}
use Rattle.cl_analyse.specs.{declared.findings.ChainAnswer.ChainAnswer, ChainAnswers.chain_answer_at, Verdicts.required_bound}
use Rattle.cl_check.specs.InOrder.{IsRunInOrder}
use Rattle.cl_chain.specs.GreatestDelays.{IsGreatestDelayBy}
use Rattle.cl_tight.specs.TightFindings.{tight_findings_of}
use Rattle.cl_observe.specs.{declared.{values.{GreatestResponse.GreatestResponse, Spread.Spread}, task_shown.ShownTask.ShownTask}, Shown.{IsShownTask, IsShownTime}, Rules.IsLegalityLine}

-- ---- words

-- what is said of a number that is above a bound
abbrev pub above_words : Option ℤ → (bound : ℕ) → List ℕ
above_words None bound = []
above_words (Some number) bound = if int_lt (pos bound) number then codes " above" else []

-- what is said of the bound of a number, which a late task and a chain with one don't have
abbrev pub bound_beside : Option ℤ → (bound : Option ℕ) → List ℕ
bound_beside number None = codes " late"
bound_beside number (Some bound) = codes " bound " ++ decimal bound ++ above_words number bound

-- what is said of the least and the greatest number
abbrev pub spread_words : Option Spread → List ℕ
spread_words None = codes "none"
spread_words (Some spread) = signed_decimal spread.least ++ codes " to " ++ signed_decimal spread.greatest

-- whether they aren't both in a range
abbrev pub is_outside : Spread → (least greatest : ℕ) → Bool
is_outside spread least greatest = int_lt spread.least (pos least) || int_lt (pos greatest) spread.greatest

abbrev pub outside_words : Option Spread → (least greatest : ℕ) → List ℕ
outside_words None least greatest = []
outside_words (Some spread) least greatest = if is_outside spread least greatest then codes " outside" else []

-- the least and the greatest number, and the range in which a legal run has them
unfoldable pub range_words : Option Spread → (least greatest : ℕ) → List ℕ
range_words spread least greatest =
    codes " " ++ spread_words spread ++ codes " of " ++ decimal least ++ codes " to " ++ decimal greatest ++ outside_words spread least greatest

-- ---- tasks

abbrev pub response_number : Option GreatestResponse → Option ℤ
response_number None = None
response_number (Some shown) = Some shown.response

abbrev pub response_words : Option GreatestResponse → List ℕ
response_words None = codes "none"
response_words (Some shown) = signed_decimal shown.response ++ codes " job " ++ decimal shown.job

-- the response by phases of a task that has one
abbrev pub response_bound : TaskAnswer → Option ℕ
response_bound (Settled settled) = Some settled.response
response_bound Late = None

-- the line of a task
unfoldable pub shown_line : SystemModel → TaskAnswer → (task jobs : ℕ) → ShownTask → List ℕ
shown_line model answer task jobs shown =
    line (codes "task " ++ (task_at model task).name ++ codes " jobs " ++ decimal jobs ++ codes " misses " ++ decimal shown.misses
    ++ codes " response " ++ response_words shown.response ++ bound_beside (response_number shown.response) (response_bound answer))

-- the line of the jitter of a task that has jobs, where its stimulus has jitter or a release isn't an arrival
abbrev pub observed_jitter_line : SystemModel → (task : ℕ) → Option Spread → List ℕ
observed_jitter_line model task None = []
observed_jitter_line model task (Some spread) =
    if nat_lt 0 (jitter_of model task) || is_outside spread 0 0
    then line (codes "jitter " ++ (task_at model task).name ++ range_words (Some spread) 0 (jitter_of model task)) else []

-- the line of the time of a runnable of a task
unfoldable pub observed_runnable_line : SystemModel → (task place : ℕ) → Option Spread → List ℕ
observed_runnable_line model task place time =
    let runnable = runnable_at model (record { task = task; place = place }) in
    line (codes "runnable " ++ runnable.name ++ range_words time runnable.least runnable.greatest)

-- ---- chains

-- how long a chain lasts: less than 0 where its last job has run before its first arrives
abbrev pub signed_length : JobChain → ℤ
signed_length chain = pos chain.to -ℤ pos chain.from

abbrev pub length_words : Option ℤ → List ℕ
length_words None = codes "none"
length_words (Some length) = signed_decimal length

-- the same, where there may be no chain
abbrev pub length_of : Option JobChain → Option ℤ
length_of longest = option_map signed_length longest

-- the line of a kind of length of a chain
unfoldable pub kind_length_line : SystemModel → ChainAnswer → (chain : ℕ) → RequirementKind → (length : Option ℤ) → List ℕ
kind_length_line model answer chain kind length =
    line (codes "chain " ++ (chain_at model chain).name ++ codes " " ++ requirement_word kind ++ codes " " ++ length_words length
    ++ bound_beside length (required_bound kind answer))

-- the lines of a chain, by the longest of each kind that is measured and the greatest delay
unfoldable pub kind_length_lines : SystemModel → ChainAnswer → (chain : ℕ) → Measured → (delay : Option ℤ) → List ℕ
kind_length_lines model answer chain measured delay =
    kind_length_line model answer chain (Length Reaction) (length_of measured.reaction)
    ++ kind_length_line model answer chain (Length Age) (length_of measured.age)
    ++ kind_length_line model answer chain (Length Reduced) (length_of measured.reduced)
    ++ kind_length_line model answer chain Delay delay

-- ---- texts of several lines

-- a text goes on with a piece of which this holds
pub record GoesOnWith (Is : List ℕ → Type 0) (old new : List ℕ) : Type 0 where
  pub piece : List ℕ
  pub is : Is piece
  pub joined : new ≡ old ++ piece

-- a text is made of one piece for each number below one, in order
abbrev pub IsMadeOf : (Is : ℕ → List ℕ → Type 0) → (n : ℕ) → (text : List ℕ) → Type 0
IsMadeOf Is zero text = text ≡ []
IsMadeOf Is (suc n) text = (before : List ℕ) × IsMadeOf Is n before × GoesOnWith (Is n) before text

-- ---- what is observed

-- the line of a runnable of a task in a run
pub record IsTimeLine (model : SystemModel) (run : Run) (task place : ℕ) (text : List ℕ) : Type 0 where
  pub time : Option Spread
  pub shown : IsShownTime (system_of model) run task place time
  pub printed : text ≡ observed_runnable_line model task place time

-- the lines of a task that has this answer
pub record IsTaskText (model : SystemModel) (run : Run) (answer : TaskAnswer) (task : ℕ) (text : List ℕ) : Type 0 where
  pub shown : ShownTask
  pub is_shown : IsShownTask (system_of model) run task shown
  pub times : List ℕ
  pub are_times : IsMadeOf (IsTimeLine model run task) (length (task_at model task).runnables) times
  pub printed : text ≡ (shown_line model answer task (length (jobs_of run task)) shown ++ observed_jitter_line model task shown.jitter) ++ times

-- the lines of a chain that has this answer
pub record IsChainText (model : SystemModel) (run : Run) (answer : ChainAnswer) (chain : ℕ) (text : List ℕ) : Type 0 where
  pub measured : Measured
  pub is_measured : IsMeasured (run_moments (system_of model) run) (groups_at model chain) measured
  pub delay : Option JobChain
  pub is_delay : IsGreatestDelayBy (IsDelayChain (system_of model) run (groups_at model chain)) delay
  pub printed : text ≡ kind_length_lines model answer chain measured (length_of delay)

-- what a run in order shows: the lines of all tasks, and of all chains
pub record IsShownInOrder (model : SystemModel) (run : Run) (text : List ℕ) : Type 0 where
  pub in_order : IsRunInOrder (system_of model) run
  pub tasks : List ℕ
  pub are_tasks : IsMadeOf (λ task. IsTaskText model run (answer_at (tight_findings_of model).tasks task) task) (length model.tasks) tasks
  pub chains : List ℕ
  pub are_chains : IsMadeOf (λ chain. IsChainText model run (chain_answer_at (tight_findings_of model).chains chain) chain) (length model.chains) chains
  pub printed : text ≡ tasks ++ chains

-- of a run that isn't in order nothing more is shown
pub record IsUnordered (model : SystemModel) (run : Run) (text : List ℕ) : Type 0 where
  pub out_of_order : IsRunInOrder (system_of model) run → ⊥
  pub printed : text ≡ line (codes "unordered")

-- the text is what a run shows
pub record IsObservationOf (model : SystemModel) (run : Run) (text : List ℕ) : Type 0 where
  pub legality : List ℕ
  pub is_legality : IsLegalityLine model run legality
  pub shown : List ℕ
  pub is_shown : IsShownInOrder model run shown ⊎ IsUnordered model run shown
  pub printed : text ≡ (line (codes "chainlat observed 1") ++ legality) ++ shown
