use Rattle.std.proofs.Common.{◌<◌, ◌-◌, ◌++◌, replicate, take, sym, subst, arith}
use Rattle.cl_runs.specs.{declared.job.JobTable.JobTable, Table.IsLawful, Run.core_entries, SystemOf.system_of}
use Rattle.cl_runs.proofs.ModelSystem.{cores_are}
use Rattle.cl_sched.specs.CoreProgress.{IsReached}
use Rattle.cl_sched.proofs.LawfulTables.{lawful_at}
use Rattle.cl_check.proofs.FollowedRuns.{followed_further, lasts_further, breaks_there, entries_same, entries_differ}
use Rattle.cl_check.proofs.schedule_check.follow.Goals as goal

pub next-next-requires-clause-underway : goal.next-next-requires-clause-underway
next-next-requires-clause-underway c = record {
  system = system_of c.args.model.now;
  table = c.args.run.now.table;
  sound = c.requires.sound;
  is = record {
    core = c.args.core;
    entries = take c.events.reached.tick (core_entries c.args.run.now c.args.core);
    lawful = lawful_at (system_of c.args.model.now) c.args.core c.args.run.now.table c.requires.lawful;
    is = c.events.invariant.followed.reached_is;
  };
}

pub advance-requires-clause-underway : goal.advance-requires-clause-underway
advance-requires-clause-underway c = record {
  core = c.args.core;
  entries = take c.events.reached.tick (core_entries c.args.run.now c.args.core);
  lawful = lawful_at (system_of c.args.model.now) c.args.core c.table.result.now
      (subst (λ (t : JobTable). IsLawful (system_of c.args.model.now) t) (sym c.table.ensures) c.requires.lawful);
  is = subst (λ (t : JobTable). IsReached (system_of c.args.model.now) t c.args.core
      (take c.events.reached.tick (core_entries c.args.run.now c.args.core)) c.events.reached) (sym c.table.ensures) c.events.invariant.followed.reached_is;
}

pub returns-then-ne : goal.returns-then-ne
returns-then-ne c =
    let system = system_of c.args.model.now in
    let run = c.args.run.now in
    let core = c.args.core in
    let next = c.next-next.result in
    let invariant = c.events.invariant in
    let sound = c.requires.sound in
    let on : core < system.cores = omega (arith, c.requires.core, cores_are c.args.model.now) in
    breaks_there system sound run core (c.requires.in_form.ticks core on) c.events.reached invariant.followed c.args.stretch invariant.lasts
    next.who next.until c.next-next.ensures.next.some c.next-next.ensures.within
    (c.next-next.ensures.scheduled system run.table core (take c.events.reached.tick (core_entries run core)) sound
    (lawful_at system core run.table c.requires.lawful)
    invariant.followed.reached_is)
    (entries_differ next.who c.args.stretch.who c.ne.result c.ne.ensures c.if-ne.true)

pub events-preserved : goal.events-preserved
events-preserved c =
    let system = system_of c.args.model.now in
    let run = c.args.run.now in
    let core = c.args.core in
    let next = c.next-next.result in
    let reached = c.events.reached in
    let invariant = c.events.invariant in
    let entries = take reached.tick (core_entries run core) in
    let sound = c.requires.sound in
    let on : core < system.cores = omega (arith, c.requires.core, cores_are c.args.model.now) in
    let scheduled = c.next-next.ensures.scheduled system run.table core entries sound (lawful_at system core run.table c.requires.lawful)
    invariant.followed.reached_is in
    let same = entries_same next.who c.args.stretch.who c.ne.result c.ne.ensures c.if-ne.false in
    let moved : IsReached system run.table core (entries ++ replicate (next.until - reached.tick) next.who) c.advance.new.self
    = subst (λ (t : JobTable). IsReached system t core (entries ++ replicate (next.until - reached.tick) next.who) c.advance.new.self) c.table.ensures
    (c.advance.ensures.reached core entries (subst (λ (t : JobTable). IsReached system t core entries reached) (sym c.table.ensures) invariant.followed.reached_is)) in
    record {
      followed = followed_further system sound run core (c.requires.in_form.ticks core on) reached invariant.followed c.args.stretch invariant.lasts
          next.who next.until c.next-next.ensures.next.some c.next-next.ensures.within
          scheduled
          same c.advance.new.self c.advance.ensures.tick moved;
      lasts = lasts_further system sound run core (c.requires.in_form.ticks core on) reached invariant.followed c.args.stretch invariant.lasts
          next.who next.until c.next-next.ensures.next.some c.next-next.ensures.within
          scheduled
          same c.advance.new.self c.advance.ensures.tick;
    }
