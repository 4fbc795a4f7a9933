use Rattle.std.proofs.Common.{◌≡◌, ◌-◌, None, ◌++◌, replicate, length, sym, ap, ◌∙◌, subst, arith}
use Rattle.cl_runs.specs.{declared.job.JobTable.JobTable, Run.core_entries}
use Rattle.cl_trace.specs.{Trace.Runs, Inner.Bodies.{AreEntriesOf, AreAllEntriesOf, IsRunWith, IsStretchWithin, entries_appended}}
use Rattle.cl_trace.proofs.{JobLines.item_longer, RunWith.{with_same, with_next, with_pushed, entries_of_core, cores_same, ticks_same}, StretchItems.{EndsOther, appended_busy}, RunLines.{no_entries, no_end, entries_more, entries_all}}
use Rattle.cl_trace.proofs.run_lines.entries_after.Goals as goal

pub loop-line-init : goal.loop-line-init
loop-line-init c = (
  with_same c.args.run.now c.args.core,
  subst (λ es. AreEntriesOf c.args.model.now c.args.run.now.table.ticks c.args.core c.args.text.now es c.args.text.now) (sym c.requires.empty)
      (no_entries c.args.model.now c.args.run.now.table.ticks c.args.core c.args.text.now),
  subst (λ es. EndsOther es None) (sym c.requires.empty) (no_end None),
)

pub loop-line-smaller : goal.loop-line-smaller
loop-line-smaller c =
    item_longer c.args.model.now (Runs c.in-Some.line.task c.in-Some.line.from c.in-Some.line.to) c.loop-line.left.now c.in-Some.rest.now c.in-Some.ensures.some

pub loop-line-preserved : goal.loop-line-preserved
loop-line-preserved c =
    let entries = core_entries c.loop-line.run c.args.core in
    let before = c.loop-line.invariant.0 in
    let cores = cores_same c.args.run.now c.loop-line.run c.args.core entries before in
    let made = entries_appended entries c.in-Some.line.task c.in-Some.line.from c.in-Some.line.to in
    let ticks = ticks_same c.args.run.now c.loop-line.run c.args.core entries before in
    let within : IsStretchWithin c.args.model.now c.args.run.now.table.ticks c.in-Some.line.task c.in-Some.line.from c.in-Some.line.to
    = subst (λ n. IsStretchWithin c.args.model.now n c.in-Some.line.task c.in-Some.line.from c.in-Some.line.to) ticks c.in-Some.ensures.within in
    let fits = c.in-Some.ensures.fits in
    let is : core_entries c.append.new.run c.args.core ≡ made
    = entries_of_core c.loop-line.run c.append.new.run c.args.core made c.in_ok-append.ensures (omega (arith, c.requires.is_core, cores)) in
    rw is (
      with_next c.args.run.now c.loop-line.run c.append.new.run c.args.core entries made before c.in_ok-append.ensures,
      entries_more c.args.model.now c.args.run.now.table.ticks c.args.core c.args.text.now entries c.loop-line.left.now c.loop-line.invariant.1 c.loop-line.invariant.2
          c.in-Some.line.task c.in-Some.line.from c.in-Some.line.to c.in-Some.rest.now within fits c.in-Some.ensures.some,
      appended_busy entries c.in-Some.line.from c.loop-line.invariant.2 fits.after c.in-Some.line.task c.in-Some.line.to within.some fits.changes,
    )

pub returns-clause-run : goal.returns-clause-run
returns-clause-run c =
    let entries = core_entries c.loop-line.run c.args.core in
    let before = c.loop-line.invariant.0 in
    let cores = cores_same c.args.run.now c.loop-line.run c.args.core entries before in
    let made = entries ++ replicate (c.table.result.now.ticks - c.filled.result) None in
    let step = with_pushed c.loop-line.run c.push.new.self c.args.core made c.in_ok-push.ensures.ok in
    let is : core_entries c.push.new.self c.args.core ≡ made
    = entries_of_core c.loop-line.run c.push.new.self c.args.core made step (omega (arith, c.requires.is_core, cores)) in
    subst (λ es. IsRunWith c.args.run.now c.push.new.self c.args.core es) (sym is)
    (with_next c.args.run.now c.loop-line.run c.push.new.self c.args.core entries made before step)

pub returns-clause-entries : goal.returns-clause-entries
returns-clause-entries c =
    let entries = core_entries c.loop-line.run c.args.core in
    let before = c.loop-line.invariant.0 in
    let cores = cores_same c.args.run.now c.loop-line.run c.args.core entries before in
    let ticks = ticks_same c.args.run.now c.loop-line.run c.args.core entries before in
    let made = entries ++ replicate (c.table.result.now.ticks - c.filled.result) None in
    let step = with_pushed c.loop-line.run c.push.new.self c.args.core made c.in_ok-push.ensures.ok in
    let is : core_entries c.push.new.self c.args.core ≡ made
    = entries_of_core c.loop-line.run c.push.new.self c.args.core made step (omega (arith, c.requires.is_core, cores)) in
    let idle : c.table.result.now.ticks - c.filled.result ≡ c.args.run.now.table.ticks - length entries
    = omega (arith, ticks, ap (λ (t : JobTable). t.ticks) c.table.ensures, c.filled.ensures) in
    let full : core_entries c.push.new.self c.args.core ≡ entries ++ replicate (c.args.run.now.table.ticks - length entries) None
    = is ∙ ap (λ n. entries ++ replicate n None) idle in
    subst (λ es. AreAllEntriesOf c.args.model.now c.args.run.now.table.ticks c.args.core c.args.text.now es c.loop-line.left.now) (sym full)
    (entries_all c.args.model.now c.args.run.now.table.ticks c.args.core c.args.text.now entries c.loop-line.left.now c.loop-line.invariant.1 c.loop-line.invariant.2
    (λ task from to rest within fits. c.in_default.ensures.none task from to rest (subst (λ n. IsStretchWithin c.args.model.now n task from to) (sym ticks) within) fits))
