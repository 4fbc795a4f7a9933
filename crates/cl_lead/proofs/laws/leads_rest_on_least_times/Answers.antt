use Rattle.cl_lead.proofs.SameLeads.{same_lead}
use Rattle.cl_lead.proofs.laws.leads_rest_on_least_times.Goals as goal

pub returns : goal.returns
returns c = same_lead
