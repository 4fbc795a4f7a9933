use Rattle.std.proofs.Common.{◌≡◌, ◌+◌, List, ◌∷◌, ◌++◌, length, take, drop, ◌-◌, take_all, length-drop, sym, ap, ◌∙◌, subst, arith}
use Rattle.std.specs.Prelude.{OnOk}
use Rattle.std.specs.List.{filter, flat_map}
use Rattle.std.proofs.lemmas.List.{append-nil}
use Rattle.cl_model.specs.declared.task.TaskDef.{TaskDef}
use Rattle.cl_explain.specs.Accepted.{names_stimulus, apart_line, apart_from}
use Rattle.cl_explain.proofs.FoundInLists.{first_at, filtered_first, none_at, none_filtered}
use Rattle.cl_explain.proofs.accepting.put_apart_of.Goals as goal

pub returns-in-Some : goal.returns-in-Some
returns-in-Some c =
    let tasks = c.args.tasks.now in
    let stimulus = c.args.stimulus.now in
    let i = c.in-Some.first in
    let task = c.index-tasks-first.result in
    let first = first_at (names_stimulus stimulus) tasks i task (sym c.first_of.ensures ∙ c.in-Some.is) in
    let rest : take (length tasks - (i + 1)) (drop (i + 1) tasks) ≡ drop (i + 1) tasks =
    take_all (length tasks - (i + 1)) (drop (i + 1) tasks) (omega (arith, length-drop (i + 1) tasks)) in
    let split = filtered_first (names_stimulus stimulus) task tasks i first ∙ ap (λ (t : TaskDef). t ∷ filter (names_stimulus stimulus) (drop (i + 1) tasks)) (sym c.index-tasks-first.is) in
    subst (λ (named : List TaskDef). OnOk c.put_others.result (c.put_others.new.text ≡ c.args.text.now ++ apart_from stimulus named)) (sym split)
    (subst (λ (others : List TaskDef). OnOk c.put_others.result (c.put_others.new.text ≡ c.args.text.now ++ flat_map (apart_line stimulus task) (filter (names_stimulus stimulus) others)))
    rest c.put_others.ensures)

pub returns-in-None : goal.returns-in-None
returns-in-None c =
    let tasks = c.args.tasks.now in
    let stimulus = c.args.stimulus.now in
    let none = none_filtered (names_stimulus stimulus) tasks (none_at (names_stimulus stimulus) tasks (sym c.first_of.ensures ∙ c.in-None.is)) in
    sym (append-nil c.args.text.now) ∙ ap (λ (named : List TaskDef). c.args.text.now ++ apart_from stimulus named) (sym none)
