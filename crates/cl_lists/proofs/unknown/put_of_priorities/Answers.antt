use Rattle.std.proofs.Common.{◌≡◌, ℕ, not, List, [], ◌++◌, map, Option, sym, ap, ◌∙◌, subst}
use Rattle.std.specs.Prelude.{OnOk}
use Rattle.std.specs.Option.{option_map, option_map_or, option_copied}
use Rattle.std.proofs.lemmas.List.{append-nil}
use Rattle.cl_model.specs.Named.{has_name}
use Rattle.cl_edit.specs.declared.edit.NamedPriority.{NamedPriority}
use Rattle.cl_lists.specs.Unknown.{unknown_lines, first_unknown}
use Rattle.cl_lists.proofs.FirstNamed.{first_named}
use Rattle.cl_lists.proofs.unknown.put_of_priorities.Goals as goal

pub returns-in-Some : goal.returns-in-Some
returns-in-Some g c =
    let there = map g.T.Named.name_of c.args.entries.now in
    let kind = c.args.kind.now in
    let task : NamedPriority → List ℕ = λ p. p.task in
    let is : first_unknown kind there (map task c.args.priorities.now) ≡ unknown_lines kind there c.in-Some.priority.now.task =
    ap (λ (o : Option (List ℕ)). option_map_or (unknown_lines kind there) o [])
    (first_named task (λ name. not (has_name name there)) c.args.priorities.now
    ∙ ap (option_map task) (sym c.find_unknown.ensures ∙ ap option_copied c.in-Some.is)) in
    subst (λ (said : List ℕ). OnOk c.put_unknown.result (c.put_unknown.new.text ≡ c.args.text.now ++ said)) (sym is) c.put_unknown.ensures

pub returns-in-None : goal.returns-in-None
returns-in-None g c =
    let there = map g.T.Named.name_of c.args.entries.now in
    let kind = c.args.kind.now in
    let task : NamedPriority → List ℕ = λ p. p.task in
    let is : first_unknown kind there (map task c.args.priorities.now) ≡ [] =
    ap (λ (o : Option (List ℕ)). option_map_or (unknown_lines kind there) o [])
    (first_named task (λ name. not (has_name name there)) c.args.priorities.now
    ∙ ap (option_map task) (sym c.find_unknown.ensures ∙ ap option_copied c.in-None.is)) in
    sym (append-nil c.args.text.now) ∙ ap (λ (said : List ℕ). c.args.text.now ++ said) (sym is)
