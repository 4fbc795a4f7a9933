use Rattle.std.proofs.Common.{rules}
use Rattle.std.proofs.lemmas.Fn.{always_returns_same}
use Rattle.cl_sched.proofs.FromTheTop.{comes_first, is_order, falling}
use Rattle.cl_sched.proofs.core_progress.put_from_the_top.Goals as goal

pub returns-clause-falling : goal.returns-clause-falling
returns-clause-falling c = falling _ (c.sort_unstable_by.ensures.sorted comes_first is_order (always_returns_same _ _ _ (λ a r q k. search rules)))
