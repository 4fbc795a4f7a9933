use Rattle.std.proofs.Common.{◌≡◌, ◌≢◌, false, [], ◌∷◌, length-append, sym, ap, ◌∙◌, arith}
use Rattle.std.proofs.lemmas.Bool.{not-true, not-false}
use Rattle.std.proofs.lemmas.Bool.Decides.{nat_tests}
use Rattle.cl_model.specs.{declared.limits.TheConstants.MOST_TASKS, Named.has_name}
use Rattle.cl_edit.specs.Inner.LineReads.{new_priority_in, priority_list_in}
use Rattle.cl_edit.proofs.{Unreads.kept_unread, WordLists.{all_read, too_many_left, unread_next, bad_next, one_more_read}, LaterLines.{unread_priority, twice, new_one, named_more}}
use Rattle.cl_edit.proofs.priorities_line.priority_list.Goals as goal

pub returns-then-len-eq-MOST_TASKS-clause-read : goal.returns-then-len-eq-MOST_TASKS-clause-read
returns-then-len-eq-MOST_TASKS-clause-read c =
    let some : c.loop-priorities.words ≢ [] = λ none. let done = c.is_done.ensures.1 none in absurd (grind (arith, nat_tests, done)) in
    too_many_left new_priority_in MOST_TASKS c.args.words.now c.loop-priorities.priorities c.loop-priorities.words c.loop-priorities.invariant.read (omega arith) some

pub returns-in_err-next-clause-read : goal.returns-in_err-next-clause-read
returns-in_err-next-clause-read c =
    let some : c.loop-priorities.words ≢ [] = λ none. let done = c.is_done.ensures.1 none in absurd (grind (arith, nat_tests, done)) in
    let unread = unread_next new_priority_in MOST_TASKS c.args.words.now c.loop-priorities.priorities c.loop-priorities.words c.priority.new.words
    c.in_err-next.field-0.0 c.loop-priorities.invariant.read some
    (unread_priority c.loop-priorities.priorities c.loop-priorities.words c.priority.new.words c.in_err-next.field-0.0 c.in_err-next.ensures) in
    kept_unread c.from_residual.result c.in_err-next.field-0.0 (priority_list_in c.args.words.now) c.from_residual.ensures unread

pub returns-then-not-branch-clause-read : goal.returns-then-not-branch-clause-read
returns-then-not-branch-clause-read c =
    let some : c.loop-priorities.words ≢ [] = λ none. let done = c.is_done.ensures.1 none in absurd (grind (arith, nat_tests, done)) in
    let read = c.loop-priorities.priorities in
    let there = not-false (has_name c.in_ok-next.next.task c.loop-priorities.tasks) (sym c.in_ok-add.ensures.is_new ∙ c.if-not-branch.true) in
    let again = ap (has_name c.in_ok-next.next.task) (sym c.loop-priorities.invariant.named) ∙ there in
    bad_next new_priority_in MOST_TASKS c.args.words.now read c.loop-priorities.words c.loop-priorities.invariant.read some
    (twice read c.loop-priorities.words c.priority.new.words c.in_ok-next.next c.in_ok-next.ensures again)

pub loop-priorities-preserved : goal.loop-priorities-preserved
loop-priorities-preserved c =
    let some : c.loop-priorities.words ≢ [] = λ none. let done = c.is_done.ensures.1 none in absurd (grind (arith, nat_tests, done)) in
    let read = c.loop-priorities.priorities in
    let next = c.in_ok-next.next in
    let fresh : has_name next.task c.loop-priorities.tasks ≡ false = not-true _ (sym c.in_ok-add.ensures.is_new ∙ c.if-not-branch.false) in
    let new = ap (has_name next.task) (sym c.loop-priorities.invariant.named) ∙ fresh in
    rw c.in_ok-push.ensures.ok (record {
      read = one_more_read new_priority_in MOST_TASKS c.args.words.now read c.loop-priorities.words next c.priority.new.words c.loop-priorities.invariant.read (omega arith) some
          (new_one read c.loop-priorities.words c.priority.new.words next c.in_ok-next.ensures new);
      few = omega (arith, length-append read (next ∷ []));
      named = named_more read next c.loop-priorities.tasks c.add.new.self c.loop-priorities.invariant.named fresh c.in_ok-add.ensures.ok;
    })

pub returns-clause-read : goal.returns-clause-read
returns-clause-read c =
    all_read new_priority_in MOST_TASKS c.args.words.now c.loop-priorities.priorities c.loop-priorities.words c.loop-priorities.invariant.read
    (c.is_done.ensures.0 (grind (arith, nat_tests)))
