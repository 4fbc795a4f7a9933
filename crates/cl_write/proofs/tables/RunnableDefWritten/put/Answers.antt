use Rattle.std.proofs.Common.{List, ℕ, ◌++◌, codes, ap, ◌∙◌}
use Rattle.std.specs.List.{concat}
use Rattle.std.proofs.lemmas.List.{append_assoc}
use Rattle.cl_write.specs.Inner.Printed.{lines_of_runnable}
use Rattle.cl_write.proofs.tables.RunnableDefWritten.put.Goals as goal

pub returns-clause-printed : goal.returns-clause-printed
returns-clause-printed c =
    let lines = concat (lines_of_runnable c.args.self.now) in
    c.in_ok-put_runnable.ensures.printed ∙ ap (λ (text : List ℕ). text ++ lines) c.in_ok-put.ensures.ok
    ∙ append_assoc c.args.text.now (codes "\n[[task.runnable]]\n") lines
