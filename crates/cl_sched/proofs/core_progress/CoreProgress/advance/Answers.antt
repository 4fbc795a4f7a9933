use Rattle.std.proofs.Common.{◌≡◌, ◌+◌, ◌-◌, None, sym, arith}
use Rattle.cl_runs.specs.SystemOf.{system_of}
use Rattle.cl_runs.proofs.ModelSystem.{count_is}
use Rattle.cl_sched.proofs.{LawfulTables.lawful_there, Advanced.{is_within, task_within, task_on, standing_there, held_alone, runs, idles, reached_idle, reached_further, reached_along}, core_progress.CoreProgress.advance.Goals.{in-Some, in_default}}
use Rattle.cl_sched.proofs.core_progress.CoreProgress.advance.Goals as goal

pub execute-requires-clause-lawful : goal.execute-requires-clause-lawful
execute-requires-clause-lawful c =
    let at = c.requires.underway in
    lawful_there _ _ _ c.args.table.now
    (sym (task_on _ _ at.core at.entries c.args.self.now at.is c.args.next c.requires.next c.in-Some.index c.in-Some.is)) at.lawful

pub execute-requires-clause-task : goal.execute-requires-clause-task
execute-requires-clause-task c =
    let at = c.requires.underway in
    omega (arith, count_is c.args.model.now, task_within _ _ at.core at.entries c.args.self.now at.is c.args.next c.requires.next c.in-Some.index c.in-Some.is)

pub returns-clause-reached : goal.returns-clause-reached
returns-clause-reached c = λ core entries at.
    let system = system_of c.args.model.now in
    let table = c.args.table.now in
    let old = c.args.self.now in
    let n = c.args.until - old.tick in
    let until : c.args.until ≡ old.tick + n = omega (arith, c.requires.after) in
    elim c.match-next.branch [
      | in-Some w ↦
          let standing = standing_there system table core entries old at c.args.next c.requires.next w.in-Some.index w.in-Some.is in
          reached_along system table core entries n _ c.args.next.who c.args.until c.args.next.waiting _ c.match-next.self
          (runs system table core entries old at c.args.next c.requires.next w.in-Some.index w.in-Some.is) (sym w.self-is)
          (reached_further system table core entries old at w.in-Some.index n w.execute.new.self w.execute.ensures
          (is_within system table core entries old at c.args.next c.requires.next w.in-Some.index w.in-Some.is) standing
          (held_alone system table core entries old at c.args.next c.requires.next w.in-Some.index w.in-Some.is) c.args.until c.args.next.waiting until
          c.requires.next.waiting (c.requires.next.behind w.in-Some.index w.in-Some.is))
      | in_default w ↦ reached_along system table core entries n None c.args.next.who c.args.until c.args.next.waiting old c.match-next.self
          (idles old c.args.next c.requires.next w.in_default.is) (sym w.self-is)
          (reached_idle system table core entries old at n c.args.until c.args.next.waiting until c.requires.next.waiting)
    ]
