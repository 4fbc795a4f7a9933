use Rattle.std.proofs.Common.{◌≡◌, ℕ, ◌+◌, Bool, length, ap, ◌∙◌, arith}
use Rattle.std.specs.Prelude.{sum_by}
use Rattle.cl_runs.specs.{TaskTiming.timing_at, SystemOf.system_of, Priorities.{is_above, tasks_above}}
use Rattle.cl_runs.proofs.ModelSystem.{count_is}
use Rattle.cl_resp.specs.Question.{lower_block_of}
use Rattle.cl_resp.proofs.BusyWindowTotals.{total, total_of_range}
use Rattle.cl_why.specs.Windows.{time_in_window, sum_of_shares}
use Rattle.cl_why.proofs.window.Window.demand.Goals as goal

pub returns : goal.returns
unfolding sum_of_shares
returns c =
    let model = c.args.model.now in
    let system = system_of model in
    let window = c.args.self.now in
    let test : ℕ → Bool = λ other. is_above (timing_at system window.task) (timing_at system other) in
    let taken : ℕ → ℕ = time_in_window model window.task window.worst in
    let all : c.loop-other.other ≡ length (system_of model).tasks =
    omega (arith, c.loop-other-test.false, c.loop-other.auto.other-end, c.tasks-other-end.ensures.count, count_is model) in
    c.loop-other.invariant.demand
    ∙ ap (λ n. window.block + window.time + total test taken n) all
    ∙ ap (λ n. window.block + window.time + n) (total_of_range test taken (length system.tasks))
    ∙ ap (λ n. n + window.time + sum_by taken (tasks_above system window.task)) c.requires.block
    ∙ ap (λ n. lower_block_of system (timing_at system window.task) + n + sum_by taken (tasks_above system window.task)) c.requires.time
