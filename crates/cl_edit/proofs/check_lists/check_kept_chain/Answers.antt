use Rattle.std.proofs.Common.{refl, sym, ap, ◌∙◌, ◌==◌}
use Rattle.std.specs.List.{list_any}
use Rattle.std.proofs.lemmas.Option.{slice_get_within, get_or_from_slice_get}
use Rattle.cl_model.specs.{declared.{chain.ChainDef.ChainDef, group.Group.Group}, ByNumber.no_chain, Groups.groups_of, Place.{entry_of, at_key}}
use Rattle.cl_model.specs.declared.place.Part.TheVariants as part
use Rattle.cl_model.specs.declared.place.Key.TheVariants as key
use Rattle.cl_edit.proofs.GroupTasks.{none_of_task}
use Rattle.cl_edit.proofs.check_lists.check_kept_chain.Goals as goal

pub passes-requires : goal.passes-requires
passes-requires c = slice_get_within c.args.model.now.chains c.args.c c.args.chain.now c.requires.chain

-- a chain that doesn't pass the task has no runnable of it
pub returns-else-passes : goal.returns-else-passes
returns-else-passes c = (
  none_of_task c.args.model.now c.requires.valid c.args.task c.requires.task c.args.chain.now (at_key key.Runnables (entry_of part.Chain c.args.c))
      (ap (λ (chain : ChainDef). list_any (λ (g : Group). g.task == c.args.task) (groups_of c.args.model.now chain)) (sym (get_or_from_slice_get c.args.model.now.chains c.args.c c.args.chain.now no_chain c.requires.chain))
      ∙ sym c.passes.ensures ∙ c.if-passes.false),
  refl,
)
