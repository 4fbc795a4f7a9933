use Rattle.cl_top.proofs.Answers.{printed_safe, stopped_safely, proves_in_time, decides, reports_some, reports_told}
use Rattle.cl_top.proofs.running.run.Goals as goal

pub returns-clause-ends : goal.returns-clause-ends
returns-clause-ends g c = c.run.ensures.ends

pub returns-clause-reported : goal.returns-clause-reported
returns-clause-reported g c = λ done analyse. reports_some _ _ _ _ _ _ _ _ c.run.ensures done analyse

pub returns-clause-headline : goal.returns-clause-headline
returns-clause-headline g c = λ done analyse bytes tells. reports_told _ _ _ _ _ _ _ _ c.run.ensures done analyse bytes tells

pub returns-clause-verified : goal.returns-clause-verified
returns-clause-verified g c = λ done verify bytes tells. proves_in_time _ _ _ _ _ _ _ _ c.run.ensures done verify bytes tells

pub returns-clause-decided : goal.returns-clause-decided
returns-clause-decided g c = λ thirteen verify contents tells. decides _ _ _ _ _ _ _ _ c.run.ensures thirteen verify contents tells

pub returns-clause-safe : goal.returns-clause-safe
returns-clause-safe g c = λ done asked is contents tells. printed_safe _ _ _ _ _ _ _ _ c.run.ensures done asked is contents tells

pub returns-clause-stopped : goal.returns-clause-stopped
returns-clause-stopped g c = λ seven edit contents tells. stopped_safely _ _ _ _ _ _ _ _ c.run.ensures seven edit contents tells
