use Rattle.std.proofs.Common.{arith}
use Rattle.cl_lead.specs.Inner.Sure.{ahead_in}
use Rattle.cl_lead.proofs.SureLeads.{reached_after, none_after, is_least, none_sooner}
use Rattle.cl_lead.proofs.sure.SureWork.lead.Goals as goal

pub loop-arrival-preserved : goal.loop-arrival-preserved
loop-arrival-preserved c =
    let ahead = ahead_in c.args.self.now in
    let phase = c.requires.arrivals.is_phase in
    let was = c.loop-arrival.invariant in
    let after = c.lead_after-least.ensures in
    let next = c.first_from-arrival-in-loop-arrival in
    record {
      within = omega (arith, was.within, after.no_more);
      near = omega (arith, next.ensures.near, c.loop-arrival-test.true);
      arrives = next.ensures.arrives;
      reached = reached_after ahead phase c.loop-arrival.least c.loop-arrival.arrival c.lead_after-least.result was.reached c.loop-arrival-test.true was.arrives after;
      none = none_after ahead phase c.loop-arrival.least c.loop-arrival.arrival c.lead_after-least.result was.reached c.loop-arrival-test.true was.arrives after
          next.result next.ensures.first was.none;
    }

pub returns-else-least-self : goal.returns-else-least-self
returns-else-least-self c =
    let ahead = ahead_in c.args.self.now in
    let phase = c.requires.arrivals.is_phase in
    let was = c.loop-arrival.invariant in
    is_least ahead phase c.loop-arrival.least was.within was.reached
    (none_sooner ahead phase c.loop-arrival.least ahead.cycle (omega (arith, c.if-least-self.false)))

pub returns-after-loop-arrival : goal.returns-after-loop-arrival
returns-after-loop-arrival c =
    let ahead = ahead_in c.args.self.now in
    let phase = c.requires.arrivals.is_phase in
    let was = c.loop-arrival.invariant in
    is_least ahead phase c.loop-arrival.least was.within was.reached
    (λ moment below passes. was.none moment (omega (arith, below, c.loop-arrival-test.false)) passes)
