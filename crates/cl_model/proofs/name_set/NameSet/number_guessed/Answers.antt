use Rattle.std.proofs.Common.{◌∙◌, ap, sym, []}
use Rattle.cl_model.proofs.NamePlaces.{distinct_place, found_stands, stands_known}
use Rattle.cl_model.specs.Named.{index_of}
use Rattle.cl_model.proofs.name_set.NameSet.number_guessed.Goals as goal

pub returns-in-Some-clause-number : goal.returns-in-Some-clause-number
returns-in-Some-clause-number c =
    let shown = rw c.as_slice.ensures.keys at c.in-Some.ensures.lookup in
    let known = sym c.eq.ensures ∙ c.if-eq.true in
    sym (distinct_place c.args.name.now c.in-Some.known.now c.self.inside.names.keys c.args.guess c.as_slice.ensures.unique shown.3.0 (shown.3.1 []) known)
    ∙ ap (λ names. index_of c.args.name.now names) c.self.view_is

pub returns-in-Some-clause-found : goal.returns-in-Some-clause-found
returns-in-Some-clause-found c =
    let found = sym (returns-in-Some-clause-number c) in
    sym (stands_known c.args.name.now c.args.self.now (found_stands c.args.name.now c.args.self.now c.args.guess found))
