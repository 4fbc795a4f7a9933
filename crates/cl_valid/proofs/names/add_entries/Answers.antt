use Rattle.std.proofs.Common.{map, refl, ap, ◌∙◌}
use Rattle.std.proofs.lemmas.Result.{err_from_is_err_and}
use Rattle.cl_model.specs.declared.place.Key.TheVariants as key
use Rattle.cl_model.specs.Place.{entry_of, at_key}
use Rattle.cl_valid.proofs.AddedNames.{name_at, name_below, name_past, none_added, one_added, one_refused, all_pass, all_added}
use Rattle.cl_valid.proofs.names.add_entries.Goals as goal

pub loop-i-init : goal.loop-i-init
loop-i-init g c = none_added c.args.code (λ i. at_key key.Name (entry_of c.args.section i)) c.args.names.now (map g.T.Named.name_of c.args.entries.now) c.args.names.now refl

pub loop-i-preserved : goal.loop-i-preserved
loop-i-preserved g c =
    one_added c.args.code (λ i. at_key key.Name (entry_of c.args.section i)) c.args.names.now (map g.T.Named.name_of c.args.entries.now) c.loop-i.i c.loop-i.names c.loop-i.invariant c.name.result.now c.at_key-place.result
    (name_below g.T.Named.name_of c.args.entries.now c.loop-i.i c.loop-i-test.true)
    (name_at g.T.Named.name_of c.args.entries.now c.loop-i.i c.index-entries-i.result c.name.result.now c.name.ensures c.index-entries-i.is)
    (c.at_key-place.ensures ∙ ap (at_key key.Name) c.entry_of.ensures) c.add_new.new.names c.in_ok-add_new.ensures.checked.0 c.in_ok-add_new.ensures.names

pub returns-in_err-add_new-clause-checked : goal.returns-in_err-add_new-clause-checked
returns-in_err-add_new-clause-checked g c =
    let p = err_from_is_err_and c.from_residual.result c.from_residual.ensures.1 in rw (p.1, p.2)
    (one_refused c.args.code (λ i. at_key key.Name (entry_of c.args.section i)) c.args.names.now (map g.T.Named.name_of c.args.entries.now) c.loop-i.i c.loop-i.names c.loop-i.invariant c.name.result.now c.at_key-place.result
    (name_below g.T.Named.name_of c.args.entries.now c.loop-i.i c.loop-i-test.true)
    (name_at g.T.Named.name_of c.args.entries.now c.loop-i.i c.index-entries-i.result c.name.result.now c.name.ensures c.index-entries-i.is)
    (c.at_key-place.ensures ∙ ap (at_key key.Name) c.entry_of.ensures) c.in_err-add_new.field-0.0 c.in_err-add_new.ensures.checked)

pub returns-clause-checked : goal.returns-clause-checked
returns-clause-checked g c = (all_pass c.args.code (λ i. at_key key.Name (entry_of c.args.section i)) c.args.names.now (map g.T.Named.name_of c.args.entries.now) c.loop-i.i c.loop-i.names c.loop-i.invariant (name_past g.T.Named.name_of c.args.entries.now c.loop-i.i c.loop-i-test.false), refl)

pub returns-clause-names : goal.returns-clause-names
returns-clause-names g c = all_added c.args.code (λ i. at_key key.Name (entry_of c.args.section i)) c.args.names.now (map g.T.Named.name_of c.args.entries.now) c.loop-i.i c.loop-i.names c.loop-i.invariant (name_past g.T.Named.name_of c.args.entries.now c.loop-i.i c.loop-i-test.false)
