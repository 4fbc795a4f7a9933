use Rattle.cl_lead.proofs.LeastLeads.{least_is_lead, lead_is_least}
use Rattle.cl_lead.proofs.laws.least_leads_are_least.Goals as goal

pub returns-clause-is : goal.returns-clause-is
returns-clause-is c = least_is_lead

pub returns-clause-alone : goal.returns-clause-alone
returns-clause-alone c = lead_is_least
