use Rattle.std.proofs.Common.{◌≢◌, [], length-append, ◌∷◌, arith}
use Rattle.std.proofs.lemmas.Bool.Decides.{nat_tests}
use Rattle.cl_model.specs.declared.limits.TheConstants.{MOST_RUNNABLES}
use Rattle.cl_edit.specs.Inner.LineReads.{runnable_in, runnables_in}
use Rattle.cl_edit.proofs.{Unreads.kept_unread, WordLists.{all_read, too_many_left, unread_next, one_more_read}}
use Rattle.cl_edit.proofs.task_line.runnables.Goals as goal

pub returns-then-len-eq-MOST_RUNNABLES-clause-read :
    goal.returns-then-len-eq-MOST_RUNNABLES-clause-read
returns-then-len-eq-MOST_RUNNABLES-clause-read c =
    let some : c.loop-alloc.words ≢ [] = λ none. let done = c.is_done.ensures.1 none in absurd (grind (arith, nat_tests, done)) in
    too_many_left (λ above words. runnable_in words) MOST_RUNNABLES c.args.words.now c.loop-alloc.runnables c.loop-alloc.words c.loop-alloc.invariant.read (omega arith) some

pub returns-in_err-runnable-clause-read : goal.returns-in_err-runnable-clause-read
returns-in_err-runnable-clause-read c =
    let some : c.loop-alloc.words ≢ [] = λ none. let done = c.is_done.ensures.1 none in absurd (grind (arith, nat_tests, done)) in
    let unread = unread_next (λ above words. runnable_in words) MOST_RUNNABLES c.args.words.now c.loop-alloc.runnables c.loop-alloc.words c.runnable.new.words c.in_err-runnable.field-0.0 c.loop-alloc.invariant.read some c.in_err-runnable.ensures in
    kept_unread c.from_residual.result c.in_err-runnable.field-0.0 (runnables_in c.args.words.now) c.from_residual.ensures unread

pub loop-alloc-preserved : goal.loop-alloc-preserved
loop-alloc-preserved c =
    let some : c.loop-alloc.words ≢ [] = λ none. let done = c.is_done.ensures.1 none in absurd (grind (arith, nat_tests, done)) in
    rw c.in_ok-push.ensures.ok (record {
      read = one_more_read (λ above words. runnable_in words) MOST_RUNNABLES c.args.words.now c.loop-alloc.runnables c.loop-alloc.words c.in_ok-runnable.field-0 c.runnable.new.words c.loop-alloc.invariant.read (omega arith) some c.in_ok-runnable.ensures;
      few = omega (arith, length-append c.loop-alloc.runnables (c.in_ok-runnable.field-0 ∷ []));
    })

pub returns-clause-read : goal.returns-clause-read
returns-clause-read c = all_read (λ above words. runnable_in words) MOST_RUNNABLES c.args.words.now c.loop-alloc.runnables c.loop-alloc.words c.loop-alloc.invariant.read (c.is_done.ensures.0 (grind (arith, nat_tests)))
