use Rattle.std.proofs.Common.{refl}
use Rattle.std.proofs.lemmas.Result.{IfOk-weaker}
use Rattle.cl_engine.proofs.OpenedFiles.{first_fetched, both_fetched, has_model, either_open, either_refused, either_stops}
use Rattle.cl_engine.proofs.opening.open_either.Goals as goal

pub returns-in-Valid-clause-leaves : goal.returns-in-Valid-clause-leaves
returns-in-Valid-clause-leaves g c =
    both_fetched _ _ _ _ (record { held = refl; faults = refl; longest = refl }) c.in_ok-first.ensures.leaves c.open_second.ensures.leaves

pub returns-in-Valid-clause-opened : goal.returns-in-Valid-clause-opened
returns-in-Valid-clause-opened g c = IfOk-weaker c.open_second.result _ _ (λ opens is.
    either_open _ _ _ _ (record { held = refl; faults = refl; longest = refl }) c.in_ok-first.ensures.leaves c.open_second.ensures.leaves
    _ c.in_ok-first.ensures.opened.may c.in-Valid.first (has_model _ _ _ c.in_ok-first.ensures.opened _ c.in-Valid.is) opens is) c.open_second.ensures.opened

pub returns-in-Refused-clause-leaves : goal.returns-in-Refused-clause-leaves
returns-in-Refused-clause-leaves g c = first_fetched _ _ _ c.in_ok-first.ensures.leaves

pub returns-in-Refused-clause-opened : goal.returns-in-Refused-clause-opened
returns-in-Refused-clause-opened g c = either_refused _ _ _ c.in_ok-first.ensures.leaves _ c.in_ok-first.ensures.opened _ _ c.in-Refused.is

pub returns-in-Stopped-clause-leaves : goal.returns-in-Stopped-clause-leaves
returns-in-Stopped-clause-leaves g c = first_fetched _ _ _ c.in_ok-first.ensures.leaves

pub returns-in-Stopped-clause-opened : goal.returns-in-Stopped-clause-opened
returns-in-Stopped-clause-opened g c = either_stops _ _ _ c.in_ok-first.ensures.leaves _ c.in_ok-first.ensures.opened _ c.in-Stopped.is

pub returns-in_err-first-clause-leaves : goal.returns-in_err-first-clause-leaves
returns-in_err-first-clause-leaves g c = first_fetched _ _ _ c.in_err-first.ensures.leaves
