use Rattle.cl_lead.proofs.LeadTimes.{lead_holds, lead_by_deadline}
use Rattle.cl_lead.proofs.laws.leads_lie_between.Goals as goal

pub returns-clause-least : goal.returns-clause-least
returns-clause-least c = lead_holds

pub returns-clause-most : goal.returns-clause-most
returns-clause-most c = lead_by_deadline
