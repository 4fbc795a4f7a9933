use Rattle.std.proofs.Common.{◌≡◌, ℕ, ◌<◌, Bool, not, ◌&&◌, nat_lt, nat_le, List, length, get_or, take, sym, ap, ◌∙◌, take_all, arith}
use Rattle.std.proofs.lemmas.Bool.{lt-ltb}
use Rattle.std.proofs.lemmas.List.Folds.{list_all_more}
use Rattle.cl_model.specs.{declared.stimulus.StimulusKind.StimulusKind, ValidTasks.spans_too_many}
use Rattle.cl_runs.specs.{SystemOf.system_of, TaskTiming.timing_at}
use Rattle.cl_tune.specs.Inner.Filling.{spans_few_of}
use Rattle.cl_tune.proofs.{Timings.pattern_is, OthersTaken.below_both}
use Rattle.cl_tune.proofs.fitting.first_too_long_for_any.Goals as goal

pub loop-task-init : goal.loop-task-init
loop-task-init c = λ deadline lt. sym (lt-ltb deadline 340282366920938463463374607431768211455 (omega (arith, lt)))

pub loop-task-preserved : goal.loop-task-preserved
loop-task-preserved c = λ deadline lt.
    let model = c.args.model.now in
    let tasks = c.args.tasks.now in
    let place = c.loop-task.task-index in
    let task = get_or tasks place 0 in
    let few : ℕ → Bool = λ other. not (spans_too_many deadline (timing_at (system_of model) other).pattern) in
    let known : task < length model.tasks = c.requires place 0 c.loop-task-test.true in
    let one : spans_too_many deadline (timing_at (system_of model) task).pattern ≡ nat_le c.first_too_long.result deadline =
    ap (λ (kind : StimulusKind). spans_too_many deadline kind) (pattern_is model task known ∙ sym c.stimulus_of.ensures) ∙ c.first_too_long.ensures deadline in
    list_all_more few tasks place 0 c.loop-task-test.true
    ∙ ap (λ t. t && few task) (c.loop-task.invariant deadline lt)
    ∙ ap (λ t. nat_lt deadline c.loop-task.first && not t) one
    ∙ below_both deadline c.loop-task.first c.first_too_long.result
    ∙ ap (nat_lt deadline) (sym c.min-first.ensures)

pub returns : goal.returns
returns c = λ deadline lt.
    let tasks = c.args.tasks.now in
    let all : take c.loop-task.task-index tasks ≡ tasks = take_all c.loop-task.task-index tasks (omega (arith, c.loop-task-test.false)) in
    ap (λ (list : List ℕ). spans_few_of (system_of c.args.model.now) deadline list) (sym all) ∙ c.loop-task.invariant deadline lt
