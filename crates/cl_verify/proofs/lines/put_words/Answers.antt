use Rattle.std.proofs.Common.{rules}
use Rattle.std.proofs.lemmas.List.{append_assoc}
use Rattle.std.proofs.lemmas.Result.{IfOk-equal, on_ok_weaker}
use Rattle.cl_verify.specs.VerifyText.{decision_words}
use Rattle.cl_verify.proofs.DecisionLines.{late_words}
use Rattle.cl_verify.proofs.lines.put_words.Goals as goal

pub returns-in_ok-put_value_of-in-Met : goal.returns-in_ok-put_value_of-in-Met
unfolding decision_words
returns-in_ok-put_value_of-in-Met c = search (rules, IfOk-equal, append_assoc)

pub returns-in_ok-put-in-Broken : goal.returns-in_ok-put-in-Broken
unfolding decision_words
returns-in_ok-put-in-Broken c = search (rules, IfOk-equal, append_assoc)

pub returns-in_ok-put-in-Unshown : goal.returns-in_ok-put-in-Unshown
unfolding decision_words
returns-in_ok-put-in-Unshown c = search (rules, IfOk-equal, append_assoc)

pub returns-in_ok-put-in-Late : goal.returns-in_ok-put-in-Late
returns-in_ok-put-in-Late c = on_ok_weaker c.put_task_name.result (λ last.
    late_words c.args.model.now c.args.most c.in-Late.task c.args.decision c.args.text.now c.put_none_of.new.text c.put-in-Late.new.self
    c.put_task_name.new.text c.in-Late.is
    c.in_ok-put_none_of-in-Late.ensures c.in_ok-put-in-Late.ensures.ok last) c.put_task_name.ensures.ok
