use Rattle.std.proofs.Common.{[], ◌∷◌, ◌++◌, refl, sym, ap, ◌∙◌, append_assoc}
use Rattle.std.proofs.lemmas.List.{append-nil}
use Rattle.std.proofs.lemmas.Result.{err_from_is_err_and}
use Rattle.cl_model.specs.declared.place.Key.TheVariants as key
use Rattle.cl_model.specs.{declared.refusal.Code.TheVariants.M24, Named.runnable_names, Place.{at_key, at_sub}}
use Rattle.cl_valid.proofs.AddedNames.{name_at, name_below, name_past, none_added, one_added, one_refused, all_pass}
use Rattle.cl_edit.specs.Edited.{all_names}
use Rattle.cl_edit.proofs.check_new_task.check_runnable_names.Goals as goal

pub loop-p-init : goal.loop-p-init
loop-p-init c =
    none_added M24 (λ p. at_key key.Name (at_sub p c.args.place)) (all_names c.args.model.now) (runnable_names c.args.runnables.now) (all_names c.args.model.now ++ c.new-new.result)
    (ap (λ l. all_names c.args.model.now ++ l) c.new-new.ensures ∙ append-nil (all_names c.args.model.now))

pub loop-p-preserved : goal.loop-p-preserved
loop-p-preserved c =
    one_added M24 (λ p. at_key key.Name (at_sub p c.args.place)) (all_names c.args.model.now) (runnable_names c.args.runnables.now) c.loop-p.p (all_names c.args.model.now ++ c.loop-p.new) c.loop-p.invariant c.index-runnables-p.result.name
    c.name_of_runnable-name_place.result
    (name_below (λ r. r.name) c.args.runnables.now c.loop-p.p c.loop-p-test.true)
    (name_at (λ r. r.name) c.args.runnables.now c.loop-p.p c.index-runnables-p.result c.index-runnables-p.result.name refl c.index-runnables-p.is)
    c.name_of_runnable-name_place.ensures (all_names c.args.model.now ++ c.check_new_name.new.new) c.in_ok-check_new_name.ensures.checked.0
    (ap (λ l. all_names c.args.model.now ++ l) c.in_ok-check_new_name.ensures.names ∙ sym (append_assoc (all_names c.args.model.now) c.loop-p.new (c.index-runnables-p.result.name ∷ [])))

pub returns-in_err-check_new_name : goal.returns-in_err-check_new_name
returns-in_err-check_new_name c =
    let p = err_from_is_err_and c.from_residual.result c.from_residual.ensures.1 in rw (p.1, p.2)
    (one_refused M24 (λ p. at_key key.Name (at_sub p c.args.place)) (all_names c.args.model.now) (runnable_names c.args.runnables.now) c.loop-p.p (all_names c.args.model.now ++ c.loop-p.new) c.loop-p.invariant c.index-runnables-p.result.name
    c.name_of_runnable-name_place.result
    (name_below (λ r. r.name) c.args.runnables.now c.loop-p.p c.loop-p-test.true)
    (name_at (λ r. r.name) c.args.runnables.now c.loop-p.p c.index-runnables-p.result c.index-runnables-p.result.name refl c.index-runnables-p.is)
    c.name_of_runnable-name_place.ensures c.in_err-check_new_name.field-0.0 c.in_err-check_new_name.ensures.checked)

pub returns : goal.returns
returns c = (
  all_pass M24 (λ p. at_key key.Name (at_sub p c.args.place)) (all_names c.args.model.now) (runnable_names c.args.runnables.now) c.loop-p.p (all_names c.args.model.now ++ c.loop-p.new) c.loop-p.invariant
      (name_past (λ r. r.name) c.args.runnables.now c.loop-p.p c.loop-p-test.false),
  refl,
)
