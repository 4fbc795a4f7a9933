use Rattle.cl_lead.proofs.LeadReads.{reads_after_lead}
use Rattle.cl_lead.proofs.laws.reads_come_after_leads.Goals as goal

pub returns : goal.returns
returns c = reads_after_lead
