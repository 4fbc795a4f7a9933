use Rattle.std.proofs.Common.{◌≡◌, ℕ, ◌+◌, ◌<◌, ◌≤◌, List, [], Option, length, get_or, ap, ◌∙◌, arith}
use Rattle.std.proofs.lemmas.List.{get_or_default}
use Rattle.cl_runs.specs.{declared.job.JobTable.JobTable, Run.{Run, core_entries}}
use Rattle.cl_run_data.proofs.run_data.RunData.push.Goals as goal

-- what is appended stays within the table's ticks, also as the fields say it
stays_within : (run : Run) (table : JobTable) (lists : List (List (Option ℕ))) (core ticks : ℕ) (list : List (Option ℕ))
    → (let fields : Run = record { table = table; entries = lists } in fields ≡ run) → list ≡ get_or lists core list
    → core < length run.entries → length (core_entries run core) + ticks ≤ run.table.ticks → length list + ticks ≤ table.ticks
stays_within run table lists core ticks list view read is_core within =
    let entries : lists ≡ run.entries = ap (λ (r : Run). r.entries) view in
    let most : table.ticks ≡ run.table.ticks = ap (λ (r : Run). r.table.ticks) view in
    let same : list ≡ core_entries run core
    = read ∙ ap (λ (xs : List (List (Option ℕ))). get_or xs core list) entries ∙ get_or_default run.entries core list [] is_core in
    omega (arith, most, ap length same, within)

pub push-requires : goal.push-requires
push-requires c = omega (
  arith,
  stays_within c.args.self.now c.self.inside.table c.self.inside.cores.items c.args.core c.args.ticks c.index_mut-list.result.now
      c.self.view_is c.index_mut-list.ensures.value c.requires.is_core c.requires.within,
)
