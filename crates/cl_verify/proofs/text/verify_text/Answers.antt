use Rattle.std.proofs.Common.{rules, sym, ◌∙◌, arith}
use Rattle.std.proofs.lemmas.List.{append_assoc}
use Rattle.cl_verify.specs.VerifyText.{verify_text}
use Rattle.cl_verify.proofs.text.verify_text.Goals as goal

-- there is a decision on each task
pub prove-unreachable-requires : goal.prove-unreachable-requires
prove-unreachable-requires c = c.if-prove.true (c.len.ensures ∙ c.requires.tasks.as_many ∙ sym c.tasks-tasks.ensures.count)

pub put_sum-requires : goal.put_sum-requires
put_sum-requires c =
    let counts = c.tasks-tasks.ensures.valid.in_range.counts in
    omega (arith, counts.tasks, counts.requirements, c.requires.tasks.as_many, c.requires.requirements.as_many)

pub put_tasks-requires : goal.put_tasks-requires
put_tasks-requires c = c.requires.tasks.as_many

pub put_requirements-requires : goal.put_requirements-requires
put_requirements-requires c = c.requires.requirements

pub returns : goal.returns
unfolding verify_text
returns c = search (rules, append_assoc)
