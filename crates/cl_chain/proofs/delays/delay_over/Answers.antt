use Rattle.cl_chain.specs.{GreatestDelays.IsGreatestDelay, JobChains.job_chain_of, Inner.{ChainsOver.IsForwardOver, Events.after_event}}
use Rattle.cl_chain.proofs.EventTables.{delay_measured}
use Rattle.cl_chain.proofs.delays.delay_over.Goals as goal

pub returns-in-Some : goal.returns-in-Some
returns-in-Some c =
    let longest : IsGreatestDelay (IsForwardOver c.args.groups.now) (job_chain_of c.in-Some.chain) = rw c.in-Some.is at c.in_ok-found.ensures in
    delay_measured c.args.groups.now (job_chain_of c.in-Some.chain) longest _ _ _ c.without_event.ensures.from c.without_event.ensures.to c.without_event.ensures.jobs

pub returns-in-None : goal.returns-in-None
returns-in-None c = λ chain is.
    let none = rw c.in-None.is at c.in_ok-found.ensures in
    none (after_event chain) is
