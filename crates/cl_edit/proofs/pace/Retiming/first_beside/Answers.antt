use Rattle.std.proofs.Common.{ℕ, ◌<◌, ◌≤◌, List, length, get_or, refl, arith}
use Rattle.cl_edit.specs.Inner.Paces.{with_retiming}
use Rattle.cl_edit.proofs.RefusedPairs.{beside_more, other_core, beside_all}
use Rattle.cl_edit.proofs.pace.Retiming.first_beside.Goals as goal

pub first_of_pair-first-requires-clause-core : goal.first_of_pair-first-requires-clause-core
first_of_pair-first-requires-clause-core c =
    let others : List ℕ = c.tasks_of_core-others.result.now in
    let n : ℕ = c.loop-other.other-index in
    let lt : n < length others = omega arith in
    other_core c.args.fault c.args.model.now c.requires.valid c.args.self c.requires.change c.args.core c.args.task (get_or others n 0) n others c.tasks_of_core-others.ensures.tasks c.requires.others
    c.requires.own c.requires.task (c.tasks_of_core-others.ensures.within n 0 lt) lt refl

pub loop-other-preserved : goal.loop-other-preserved
loop-other-preserved c =
    let others : List ℕ = c.tasks_of_core-others.result.now in
    let n : ℕ = c.loop-other.other-index in
    beside_more c.args.fault (with_retiming c.args.model.now c.args.self) c.args.first c.loop-other.first c.first_of_pair-first.result others c.args.task n (get_or others n 0) c.loop-other.invariant refl
    c.first_of_pair-first.ensures.first c.first_of_pair-first.ensures.kept c.first_of_pair-first.ensures.seen

pub returns-clause-seen : goal.returns-clause-seen
returns-clause-seen c =
    let others : List ℕ = c.tasks_of_core-others.result.now in
    let n : ℕ = c.loop-other.other-index in
    let end : length others ≤ n = omega arith in
    beside_all c.args.fault c.args.model.now c.requires.valid c.args.self c.requires.change c.args.core c.args.task n c.args.first c.loop-other.first others c.tasks_of_core-others.ensures.tasks c.requires.others
    c.requires.own c.requires.task end c.loop-other.invariant
