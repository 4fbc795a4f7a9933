use Rattle.std.proofs.Common.{refl, ap, ◌∙◌}
use Rattle.std.proofs.lemmas.Result.{err_from_is_err_and}
use Rattle.cl_model.specs.declared.place.Key.TheVariants as key
use Rattle.cl_model.specs.declared.place.Part.TheVariants as part
use Rattle.cl_model.specs.{declared.refusal.Code.TheVariants.M24, Named.runnable_names, Place.{entry_of, at_key, at_sub}}
use Rattle.cl_valid.proofs.AddedNames.{name_at, name_below, name_past, none_added, one_added, one_refused, all_pass, all_added}
use Rattle.cl_valid.proofs.names.add_runnables.Goals as goal

pub loop-p-init : goal.loop-p-init
loop-p-init c = none_added M24 (λ p. at_key key.Name (at_sub p (entry_of part.Task c.args.i))) c.args.names.now (runnable_names c.args.runnables.now) c.args.names.now refl

pub loop-p-preserved : goal.loop-p-preserved
loop-p-preserved c =
    one_added M24 (λ p. at_key key.Name (at_sub p (entry_of part.Task c.args.i))) c.args.names.now (runnable_names c.args.runnables.now) c.loop-p.p c.loop-p.names c.loop-p.invariant c.index-runnables-p.result.name c.at_key-place.result
    (name_below (λ r. r.name) c.args.runnables.now c.loop-p.p c.loop-p-test.true)
    (name_at (λ r. r.name) c.args.runnables.now c.loop-p.p c.index-runnables-p.result c.index-runnables-p.result.name refl c.index-runnables-p.is)
    (c.at_key-place.ensures ∙ ap (at_key key.Name) (c.at_sub.ensures ∙ ap (at_sub c.loop-p.p) c.entry_of.ensures)) c.add_new.new.names c.in_ok-add_new.ensures.checked.0 c.in_ok-add_new.ensures.names

pub returns-in_err-add_new-clause-checked : goal.returns-in_err-add_new-clause-checked
returns-in_err-add_new-clause-checked c =
    let p = err_from_is_err_and c.from_residual.result c.from_residual.ensures.1 in rw (p.1, p.2)
    (one_refused M24 (λ p. at_key key.Name (at_sub p (entry_of part.Task c.args.i))) c.args.names.now (runnable_names c.args.runnables.now) c.loop-p.p c.loop-p.names c.loop-p.invariant c.index-runnables-p.result.name c.at_key-place.result
    (name_below (λ r. r.name) c.args.runnables.now c.loop-p.p c.loop-p-test.true)
    (name_at (λ r. r.name) c.args.runnables.now c.loop-p.p c.index-runnables-p.result c.index-runnables-p.result.name refl c.index-runnables-p.is)
    (c.at_key-place.ensures ∙ ap (at_key key.Name) (c.at_sub.ensures ∙ ap (at_sub c.loop-p.p) c.entry_of.ensures)) c.in_err-add_new.field-0.0 c.in_err-add_new.ensures.checked)

pub returns-clause-checked : goal.returns-clause-checked
returns-clause-checked c =
    (all_pass M24 (λ p. at_key key.Name (at_sub p (entry_of part.Task c.args.i))) c.args.names.now (runnable_names c.args.runnables.now) c.loop-p.p c.loop-p.names c.loop-p.invariant (name_past (λ r. r.name) c.args.runnables.now c.loop-p.p c.loop-p-test.false), refl)

pub returns-clause-names : goal.returns-clause-names
returns-clause-names c =
    all_added M24 (λ p. at_key key.Name (at_sub p (entry_of part.Task c.args.i))) c.args.names.now (runnable_names c.args.runnables.now) c.loop-p.p c.loop-p.names c.loop-p.invariant (name_past (λ r. r.name) c.args.runnables.now c.loop-p.p c.loop-p-test.false)
