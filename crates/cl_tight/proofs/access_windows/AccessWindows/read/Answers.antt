use Rattle.cl_runs.specs.SystemOf.{system_of}
use Rattle.cl_lead.specs.Leads.{lead_at}
use Rattle.cl_tight.proofs.access_windows.AccessWindows.read.Goals as goal

pub returns-clause-found : goal.returns-clause-found
returns-clause-found c = record {
  leads = c.keep.ensures (lead_at (system_of c.args.model.now)) c.requires.found.leads c.lead_of-lead.ensures;
  parts = c.requires.found.parts;
}
