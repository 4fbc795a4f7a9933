use Rattle.std.proofs.Common.{rules}
use Rattle.std.proofs.lemmas.List.{append_assoc}
use Rattle.std.proofs.lemmas.Result.{IfOk-equal}
use Rattle.cl_verify.specs.VerifyText.{task_decision_words}
use Rattle.cl_verify.proofs.lines.put_task_words.Goals as goal

pub returns-in_ok-put_value_of-in-Met : goal.returns-in_ok-put_value_of-in-Met
unfolding task_decision_words
returns-in_ok-put_value_of-in-Met c = search (rules, IfOk-equal, append_assoc)

pub returns-in_ok-put_none_of-in-Broken : goal.returns-in_ok-put_none_of-in-Broken
unfolding task_decision_words
returns-in_ok-put_none_of-in-Broken c = search (rules, IfOk-equal, append_assoc)

pub returns-in_ok-put-in-Unshown : goal.returns-in_ok-put-in-Unshown
unfolding task_decision_words
returns-in_ok-put-in-Unshown c = search (rules, IfOk-equal, append_assoc)
