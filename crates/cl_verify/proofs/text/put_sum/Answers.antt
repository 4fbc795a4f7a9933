use Rattle.std.proofs.Common.{ℕ, ◌++◌, ap, ◌∙◌}
use Rattle.std.specs.Prelude.{count_by, decimal}
use Rattle.std.proofs.lemmas.Result.{on_ok_weaker}
use Rattle.cl_verify.specs.VerifyText.{is_task_met, is_task_broken, is_task_unshown, is_requirement_met, is_requirement_broken, is_requirement_unshown}
use Rattle.cl_verify.proofs.DecisionLines.{same_sum, summed}
use Rattle.cl_verify.proofs.text.put_sum.Goals as goal

pub returns : goal.returns
returns c =
    let tasks = c.as_slice-tasks.ensures in
    let requirements = c.as_slice-requirements.ensures in
    on_ok_weaker c.put-4.result (λ last.
    summed c.args.decisions.now c.args.text.now c.put.new.self c.put_number.new.self c.put-2.new.self c.put_number-2.new.self
    c.put-3.new.self c.put_number-3.new.self c.put-4.new.self
    c.in_ok-put.ensures.ok
    (c.in_ok-put_number.ensures.ok ∙ ap (λ (n : ℕ). c.put.new.self ++ decimal n)
    (same_sum _ _ _ _ (c.count_met_tasks.ensures ∙ ap (count_by is_task_met) tasks) (c.count_met.ensures ∙ ap (count_by is_requirement_met) requirements)))
    c.in_ok-put-2.ensures.ok
    (c.in_ok-put_number-2.ensures.ok ∙ ap (λ (n : ℕ). c.put-2.new.self ++ decimal n)
    (same_sum _ _ _ _ (c.count_broken_tasks.ensures ∙ ap (count_by is_task_broken) tasks)
    (c.count_broken.ensures ∙ ap (count_by is_requirement_broken) requirements)))
    c.in_ok-put-3.ensures.ok
    (c.in_ok-put_number-3.ensures.ok ∙ ap (λ (n : ℕ). c.put-3.new.self ++ decimal n)
    (same_sum _ _ _ _ (c.count_unshown_tasks.ensures ∙ ap (count_by is_task_unshown) tasks)
    (c.count_unshown.ensures ∙ ap (count_by is_requirement_unshown) requirements)))
    last) c.put-4.ensures.ok
