use Rattle.cl_verify.proofs.Made.{one_more_made}
use Rattle.cl_verify.proofs.deciding.decide_requirements.Goals as goal

pub decide_requirement-requires-clause-place : goal.decide_requirement-requires-clause-place
decide_requirement-requires-clause-place c = rw (c.len-requirements.ensures, c.plain.ensures.plain) at c.loop-place-test.true

pub loop-place-preserved : goal.loop-place-preserved
loop-place-preserved c = record {
  decided = one_more_made _ _ c.loop-place.place c.loop-place.decisions c.push.new.self c.in_ok-decide_requirement.field-0 c.loop-place.invariant.decided
      c.in_ok-decide_requirement.ensures.decision c.in_ok-push.ensures.ok;
  runs = c.decide_requirement.ensures.runs;
}
