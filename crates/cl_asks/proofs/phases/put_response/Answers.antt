use Rattle.std.proofs.Common.{◌≡◌, Some, sym, ap, ◌∙◌, arith}
use Rattle.cl_runs.specs.SystemOf.{system_of}
use Rattle.cl_runs.proofs.ModelSystem.{count_is}
use Rattle.cl_resp.specs.ByPhase.{response_by_phase}
use Rattle.cl_asks.proofs.phases.put_response.Goals as goal

pub put_in_time-requires-clause-settled : goal.put_in_time-requires-clause-settled
put_in_time-requires-clause-settled c =
    let system = system_of c.args.model.now in
    let found : response_by_phase system c.args.task ≡ Some c.in-Ok.settled
    = rw c.in-Ok.is at c.in_ok-settled.ensures.response in
    record {
      is_task = omega (arith, c.requires, count_is c.args.model.now);
      window = c.in-Ok.settled.window;
      answered = found ∙ ap (λ (response : _). Some (record { window = c.in-Ok.settled.window; response = response })) (sym c.response.ensures);
    }
