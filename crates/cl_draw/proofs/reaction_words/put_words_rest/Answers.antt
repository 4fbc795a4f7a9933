use Rattle.std.proofs.Common.{ap, ◌∙◌}
use Rattle.cl_model.specs.declared.task.TaskDef.{TaskDef}
use Rattle.cl_draw.proofs.reaction_words.put_words_rest.Goals as goal

pub returns : goal.returns
returns c =
    rw (← c.saturating_sub.ensures, ← (c.as_slice.ensures.bytes ∙ ap (λ (t : TaskDef). t.name) c.task.ensures.task), ← c.saturating_sub-2.ensures, ← (c.as_slice-2.ensures.bytes ∙ ap (λ (t : TaskDef). t.name) c.task-2.ensures.task)) c.put_line.ensures.ok
