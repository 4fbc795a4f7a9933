use Rattle.std.proofs.Common.{◌≡◌, ◌-◌, ◌++◌, replicate, ap, sym, ◌∙◌, subst, arith}
use Rattle.cl_runs.specs.{declared.job.JobTable.JobTable, Run.{Run, core_entries}, SystemOf.system_of}
use Rattle.cl_sched.specs.CoreProgress.{IsLawfulAt, IsReached}
use Rattle.cl_sched.proofs.Filled.{filled_further}
use Rattle.cl_sched.proofs.simulating.fill_from.Goals as goal

pub next-next-requires-clause-underway : goal.next-next-requires-clause-underway
next-next-requires-clause-underway c = record {
  system = system_of c.args.model.now;
  table = c.events.run.table;
  sound = c.requires.sound;
  is = record {
    core = c.args.core;
    entries = core_entries c.events.run c.args.core;
    lawful = subst (λ (t : JobTable). IsLawfulAt (system_of c.args.model.now) c.args.core t) (sym c.events.invariant.filled.table) c.requires.lawful;
    is = c.events.invariant.filled.reached_is;
  };
}

pub events-preserved : goal.events-preserved
events-preserved c =
    let system = system_of c.args.model.now in
    let filled = c.events.invariant.filled in
    let run = c.events.run in
    let next = c.next-next.result in
    let n = next.until - c.events.reached.tick in
    let entries = core_entries run c.args.core in
    let lawful : IsLawfulAt system c.args.core run.table
    = subst (λ (t : JobTable). IsLawfulAt system c.args.core t) (sym filled.table) c.requires.lawful in
    let table : c.table-in-events.result.now ≡ run.table = c.table-in-events.ensures ∙ ap (λ (r : Run). r.table) c.in_ok-push.ensures.ok in
    let moved : IsReached system run.table c.args.core (entries ++ replicate n next.who) c.advance.new.self
    = subst (λ (t : JobTable). IsReached system t c.args.core (entries ++ replicate n next.who) c.advance.new.self) table
    (c.advance.ensures.reached c.args.core entries
    (subst (λ (t : JobTable). IsReached system t c.args.core entries c.events.reached) (sym table) filled.reached_is)) in
    record {
      filled = filled_further system c.args.core c.args.run.now run c.events.reached filled n next.until next.who c.push.new.self c.advance.new.self
          c.in_ok-push.ensures.ok (omega (arith, c.next-next.ensures.next.some))
          (c.next-next.ensures.scheduled system run.table c.args.core entries
          c.requires.sound lawful filled.reached_is)
          moved;
      end = c.events.invariant.end;
      within = omega (arith, c.advance.ensures.tick, c.next-next.ensures.within);
    }
