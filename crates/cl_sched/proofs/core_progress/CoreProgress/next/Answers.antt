use Rattle.cl_sched.proofs.Steady.{goes_on_scheduled}
use Rattle.cl_sched.proofs.core_progress.CoreProgress.next.Goals as goal

pub returns-clause-scheduled : goal.returns-clause-scheduled
returns-clause-scheduled c = λ system table core entries sound lawful reached.
    goes_on_scheduled system sound core table lawful entries c.args.self.now reached c.following.result c.following.ensures.next
