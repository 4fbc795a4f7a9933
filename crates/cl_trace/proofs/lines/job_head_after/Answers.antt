use Rattle.std.proofs.Common.{◌∷◌, ◌++◌, sym, ◌∙◌}
use Rattle.std.specs.Prelude.{codes}
use Rattle.std.proofs.lemmas.List.{append_cancel_left}
use Rattle.cl_trace.specs.Trace.{numbers}
use Rattle.cl_trace.proofs.lines.job_head_after.Goals as goal

pub returns-clause-only : goal.returns-clause-only
returns-clause-only c = λ m n more rest first second fits.
    let tail = numbers (m ∷ n ∷ more) ++ 10 ∷ rest in
    let behind = append_cancel_left (codes "job ") c.in_ok-text.text.now (c.args.name.now ++ tail) (sym c.in_ok-text.ensures.some ∙ fits) in
    let behind_name = append_cancel_left c.args.name.now c.in_ok-text-2.text.now tail (sym c.in_ok-text-2.ensures.some ∙ behind) in
    c.two_after.ensures.only m n more rest first second behind_name
