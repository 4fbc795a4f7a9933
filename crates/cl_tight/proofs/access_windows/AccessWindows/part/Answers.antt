use Rattle.std.proofs.Common.{ℕ, Option, unwrap_or, sym, ap}
use Rattle.cl_runs.specs.SystemOf.{system_of}
use Rattle.cl_tight.specs.TightTimings.{part_response}
use Rattle.cl_tight.proofs.access_windows.AccessWindows.part.Goals as goal

pub returns-clause-found : goal.returns-clause-found
returns-clause-found c = record {
  leads = c.requires.found.leads;
  parts = c.keep.ensures (part_response (system_of c.args.model.now)) c.requires.found.parts
      (sym (ap (λ (through : Option ℕ). unwrap_or through 0) c.in_ok-part.ensures.through));
}
