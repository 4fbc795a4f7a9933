use Rattle.std.proofs.Common.{subst, sym, ap, ◌∙◌, arith}
use Rattle.std.specs.Prelude.{is_some}
use Rattle.std.proofs.lemmas.Option.{slice_get_within, get_or_from_slice_get}
use Rattle.cl_model.specs.{Answers.Answers, Named.{has_name, core_names, kind_named}, Place.at_key}
use Rattle.cl_model.specs.declared.place.Key.TheVariants as key
use Rattle.cl_model.proofs.{NamePlaces.found_somewhere, NamesKnown.{core_is_known, stimulus_is_known}}
use Rattle.cl_valid.specs.declared.names.Names.{Names}
use Rattle.cl_valid.proofs.TasksByShare.{deadline_is}
use Rattle.cl_valid.proofs.deadlines.check_deadline.Goals as goal

pub unreachable-requires : goal.unreachable-requires
unreachable-requires c =
    let within = slice_get_within c.args.model.now.tasks c.args.i c.args.task.now c.requires.task in
    let here = get_or_from_slice_get c.args.model.now.tasks c.args.i c.args.task.now c.args.task.now c.requires.task in
    found_somewhere c.number_of.result c.args.task.now.core c.args.names.now.cores (core_names c.args.model.now) c.number_of.ensures.found (ap (λ (n : Names). n.cores) c.requires.names)
    (sym (ap (λ t. has_name t.core (core_names c.args.model.now)) here) ∙ core_is_known c.args.model.now c.requires.passed c.args.i c.args.task.now within)
    c.in_default.is

pub unreachable-requires-in_default-kind_named : goal.unreachable-requires-in_default-kind_named
unreachable-requires-in_default-kind_named c =
    let within = slice_get_within c.args.model.now.tasks c.args.i c.args.task.now c.requires.task in
    let here = get_or_from_slice_get c.args.model.now.tasks c.args.i c.args.task.now c.args.task.now c.requires.task in
    let known = sym (ap (λ t. is_some (kind_named c.args.model.now t.stimulus)) here) ∙ stimulus_is_known c.args.model.now c.requires.passed c.args.i c.args.task.now within in
    let missing = sym c.in_default-kind_named.is ∙ c.kind_named.ensures in
    absurd (let e = ap is_some missing ∙ known in cc)

pub entry_of-requires : goal.entry_of-requires
entry_of-requires c =
    omega (arith, slice_get_within c.args.model.now.tasks c.args.i c.args.task.now c.requires.task, c.requires.in_range.counts.tasks)

pub returns : goal.returns
returns c =
    subst (λ refusals. Answers c.refuse_when.result refusals tt)
    (deadline_is c.args.model.now c.args.i c.args.task.now c.in-Some.core c.in-Some-kind_named.kind c.args.shares.now c.on.result.now c.deadline_under.result c.is_outpaced-is_late.result c.at_key.result
    c.requires.shares (rw (ap (λ (n : Names). n.cores) c.requires.names) at (sym c.number_of.ensures.number ∙ c.in-Some.is)) (sym c.kind_named.ensures ∙ c.in-Some-kind_named.is) c.on.ensures c.deadline_under.ensures c.is_outpaced-is_late.ensures
    (c.at_key.ensures ∙ ap (at_key key.Deadline) c.entry_of.ensures))
    c.refuse_when.ensures
