use Rattle.std.proofs.Common.{◌≡◌, [], ◌∷◌, ◌++◌, refl, sym, ◌∙◌}
use Rattle.std.specs.Prelude.{codes, decimal}
use Rattle.cl_model.specs.ByNumber.{task_at}
use Rattle.cl_trace.specs.Trace.{item_text, numbers}
use Rattle.cl_trace.proofs.LineFacts.{split_line, behind_word, whole_line}
use Rattle.cl_trace.proofs.lines.run_after.Goals as goal

pub returns-in_err-text-clause-none : goal.returns-in_err-text-clause-none
unfolding item_text
returns-in_err-text-clause-none c = rw c.from_residual.ensures (λ task from to rest within from_within to_within is.
    let name = (task_at c.args.model.now task).name in
    c.in_err-text.ensures.none (name ++ (numbers (from ∷ to ∷ []) ++ 10 ∷ rest)) (is ∙ split_line (codes "run ") name (numbers (from ∷ to ∷ [])) rest))

pub returns-in_err-task-clause-none : goal.returns-in_err-task-clause-none
unfolding item_text
returns-in_err-task-clause-none c = rw c.from_residual-in_err-task.ensures (λ task from to rest within from_within to_within is.
    let name = (task_at c.args.model.now task).name in
    let behind = behind_word (codes "run ") c.in_ok-text.text.now name (numbers (from ∷ to ∷ [])) rest (sym c.in_ok-text.ensures.some ∙ is) in
    c.in_err-task.ensures.only task 32 ((decimal from ++ numbers (to ∷ [])) ++ 10 ∷ rest) within (c.requires.named task within) refl behind)

pub returns-in_err-from-clause-none : goal.returns-in_err-from-clause-none
unfolding item_text
returns-in_err-from-clause-none c = rw c.from_residual-in_err-from.ensures (λ task from to rest within from_within to_within is.
    let name = (task_at c.args.model.now task).name in
    let behind = behind_word (codes "run ") c.in_ok-text.text.now name (numbers (from ∷ to ∷ [])) rest (sym c.in_ok-text.ensures.some ∙ is) in
    let read = c.in_ok-task.ensures.only task 32 ((decimal from ++ numbers (to ∷ [])) ++ 10 ∷ rest) within (c.requires.named task within) refl behind in
    c.in_err-from.ensures.only from to [] rest from_within to_within read.1)

pub returns-in_err-rest-clause-none : goal.returns-in_err-rest-clause-none
unfolding item_text
returns-in_err-rest-clause-none c = rw c.from_residual-in_err-rest.ensures (λ task from to rest within from_within to_within is.
    let name = (task_at c.args.model.now task).name in
    let behind = behind_word (codes "run ") c.in_ok-text.text.now name (numbers (from ∷ to ∷ [])) rest (sym c.in_ok-text.ensures.some ∙ is) in
    let read = c.in_ok-task.ensures.only task 32 ((decimal from ++ numbers (to ∷ [])) ++ 10 ∷ rest) within (c.requires.named task within) refl behind in
    let two = c.in_ok-from.ensures.only from to [] rest from_within to_within read.1 in
    c.in_err-rest.ensures.none rest two.2)

pub returns-clause-some : goal.returns-clause-some
unfolding item_text
returns-clause-some c =
    whole_line c.args.text.now (codes "run ") c.in_ok-text.text.now (task_at c.args.model.now c.in_ok-task.task).name c.in_ok-task.text.now
    (numbers (c.in_ok-from.from ∷ c.in_ok-from.to ∷ [])) c.in_ok-from.text.now c.in_ok-rest.rest.now
    c.in_ok-text.ensures.some c.in_ok-task.ensures.some c.in_ok-from.ensures.some c.in_ok-rest.ensures.some

pub returns-clause-only : goal.returns-clause-only
unfolding item_text
returns-clause-only c = λ task from to rest within from_within to_within is.
    let name = (task_at c.args.model.now task).name in
    let behind = behind_word (codes "run ") c.in_ok-text.text.now name (numbers (from ∷ to ∷ [])) rest (sym c.in_ok-text.ensures.some ∙ is) in
    let read = c.in_ok-task.ensures.only task 32 ((decimal from ++ numbers (to ∷ [])) ++ 10 ∷ rest) within (c.requires.named task within) refl behind in
    let two = c.in_ok-from.ensures.only from to [] rest from_within to_within read.1 in
    let end : c.in_ok-rest.rest.now ≡ rest = cc (sym c.in_ok-rest.ensures.some ∙ two.2) in
    (λ i. record { task = read.0 i; from = two.0 i; to = two.1 i }, end)
