use Rattle.cl_runs.specs.{SystemOf.system_of, TaskTiming.timing_at}
use Rattle.cl_incr.proofs.SameTasks.{question_decides}
use Rattle.cl_incr.proofs.tasks.is_same_question.Goals as goal

pub returns : goal.returns
returns c = λ old new before task was is.
    let decides = question_decides (system_of old) (system_of new) (timing_at (system_of old) before) (timing_at (system_of new) task) in
    rw (c.eq.ensures, was, is) decides
