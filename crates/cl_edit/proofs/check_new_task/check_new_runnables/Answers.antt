use Rattle.std.proofs.Common.{subst, ap, ◌∙◌}
use Rattle.cl_model.specs.{declared.{place.Place.Place, refusal.Code.TheVariants.M24}, Answers.Answers, Named.runnable_names, Place.{entry_of, at_key, at_sub}, ValidNames.repeats}
use Rattle.cl_model.specs.declared.place.Part.TheVariants as part
use Rattle.cl_model.specs.declared.place.Key.TheVariants as key
use Rattle.cl_edit.specs.Edited.{all_names}
use Rattle.cl_edit.proofs.check_new_task.check_new_runnables.Goals as goal

pub returns : goal.returns
returns c =
    subst (λ (place : Place). Answers c.check_runnable_names.result (repeats M24 (λ p. at_key key.Name (at_sub p place)) (all_names c.args.model.now) (runnable_names c.args.task.now.runnables)) tt)
    (c.entry_of-place.ensures ∙ ap (entry_of part.Task) c.tasks.ensures.count)
    (rw c.as_slice.ensures at c.check_runnable_names.ensures)
