use Rattle.cl_lead.proofs.LeadModels.{reads_after_lead_of_model}
use Rattle.cl_lead.proofs.laws.reads_come_after_leads_of_models.Goals as goal

pub returns : goal.returns
returns c = reads_after_lead_of_model
