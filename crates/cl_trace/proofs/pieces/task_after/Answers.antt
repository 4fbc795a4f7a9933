use Rattle.std.proofs.Common.{◌≡◌, ◌∷◌, ◌++◌, Some, None, ap, sym, ◌∙◌, subst}
use Rattle.cl_model.specs.{Name.IsName, ByNumber.{task_at, task_named}}
use Rattle.cl_model.proofs.Links.{own_task, task_found}
use Rattle.cl_trace.proofs.PieceFacts.{name_word, name_is_some, rest_is}
use Rattle.cl_trace.proofs.pieces.task_after.Goals as goal

pub returns-in_err-word-clause-only : goal.returns-in_err-word-clause-only
returns-in_err-word-clause-only c = λ task byte rest within named other fits.
    absurd (name_is_some (task_at c.args.model.now task).name named
    (sym (name_word c.args.text.now (task_at c.args.model.now task).name rest byte named other fits) ∙ c.in_err-word.ensures.none))

pub returns-in_err-task-clause-only : goal.returns-in_err-task-clause-only
returns-in_err-task-clause-only c = λ task byte rest within named other fits.
    let name = (task_at c.args.model.now task).name in
    let word : c.in_ok-word.word.now ≡ name = c.in_ok-word.ensures.word ∙ name_word c.args.text.now name rest byte named other fits in
    let none : None ≡ Some task = sym (c.in_err-task.ensures.none (subst IsName (sym word) named)) ∙ ap (task_named c.args.model.now) word ∙ own_task c.args.model.now c.requires task within in
    cc none

pub returns-clause-some : goal.returns-clause-some
returns-clause-some c =
    let name = task_found c.args.model.now c.in_ok-word.word.now c.in_ok-task.task c.in_ok-task.ensures.found in
    c.in_ok-word.ensures.some ∙ ap (λ w. w ++ c.in_ok-word.rest.now) (sym name)

pub returns-clause-only : goal.returns-clause-only
returns-clause-only c = λ task byte rest within named other fits.
    let name = (task_at c.args.model.now task).name in
    let word : c.in_ok-word.word.now ≡ name = c.in_ok-word.ensures.word ∙ name_word c.args.text.now name rest byte named other fits in
    let some : Some c.in_ok-task.task ≡ Some task = sym c.in_ok-task.ensures.found ∙ ap (task_named c.args.model.now) word ∙ own_task c.args.model.now c.requires task within in
    (cc some, rest_is c.args.text.now c.in_ok-word.word.now name c.in_ok-word.rest.now (byte ∷ rest) c.in_ok-word.ensures.some word fits)
