-- The question of a chain: all that its bounds and its exact lengths depend on. That of a task is the question that its
-- response answers.
use Rattle.std.specs.Prelude.{ℕ, ◌==◌, if◌then◌else◌, List, [], ◌∷◌, map, Option, Some, None}
use Rattle.cl_model.specs.{declared.{group.Group.Group, model.SystemModel.SystemModel}, ByNumber.chain_at, Groups.{steps_of, groups_at}}
use Rattle.cl_runs.specs.{SystemOf.system_of, TaskTiming.{System, timing_at}}
use Rattle.cl_comm.specs.Windows.{spot_at}
use Rattle.cl_hop.specs.Hops.{saves}
use Rattle.cl_bound.specs.{declared.answer.TaskAnswer.TaskAnswer, Answers.{answers_of, answer_at, response_in}, Bounds.settled_timing}
use Rattle.cl_analyse.specs.ChainAnswers.{first_late}
use Rattle.cl_incr.specs.declared.question.{GroupQuestion.GroupQuestion, HopLine.{HopLine, TheVariants.{SameTask, Saving, Plain}}}

-- ---- groups

-- what the lengths of a chain depend on, of one of its groups, where these are the answers for the tasks: how the jobs
-- of its task arrive, their deadline, how they access labels, the least times before its first and after its last
-- runnable, and its response
unfoldable pub group_question : System → (answers : List TaskAnswer) → Group → GroupQuestion
group_question system answers group =
    let timing = timing_at system group.task in
    record {
      pattern = timing.pattern;
      deadline = timing.deadline;
      access = timing.access;
      before = (spot_at timing group.first).before;
      after = (spot_at timing group.last).after;
      response = response_in (answer_at answers group.task);
    }

-- ---- hops

-- how a hop from a writer to a reader is bounded: within one task, with the writer's time saved, or plainly
abbrev pub hop_bounded_by : System → (writer reader : Group) → HopLine
hop_bounded_by system writer reader =
    if writer.task == reader.task then SameTask
    else if saves (settled_timing system writer) (settled_timing system reader) then Saving
    else Plain

-- the lines of the hops from a group over those after it, first to last
abbrev pub hop_lines_from : System → Group → List Group → List HopLine
hop_lines_from system writer [] = []
hop_lines_from system writer (reader ∷ groups) = hop_bounded_by system writer reader ∷ hop_lines_from system reader groups

-- the lines of the hops between the groups of a chain, first to last
abbrev pub hop_lines : System → List Group → List HopLine
hop_lines system [] = []
hop_lines system (first ∷ groups) = hop_lines_from system first groups

-- ---- chains

-- what the lengths of a chain depend on: the question of each group, and the line of each hop between them
pub record ChainQuestion : Type 0 where
  pub groups : List GroupQuestion
  pub hops : List HopLine

-- that of a chain of these groups of a system
abbrev pub question_of_groups : System → List Group → ChainQuestion
question_of_groups system groups = record {
  groups = map (group_question system (answers_of system)) groups;
  hops = hop_lines system groups;
}

-- a chain with a late task has no question
abbrev pub unless_late : (first_late : Option ℕ) → ChainQuestion → Option ChainQuestion
unless_late None question = Some question
unless_late (Some task) question = None

-- the question of the chain of a number of a model: none where one of its tasks is late
unfoldable pub chain_question : SystemModel → (chain : ℕ) → Option ChainQuestion
chain_question model chain =
    unless_late (first_late (answers_of (system_of model)) (steps_of model (chain_at model chain)))
    (question_of_groups (system_of model) (groups_at model chain))
