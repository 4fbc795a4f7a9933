use Rattle.std.proofs.Common.{refl}
use Rattle.std.proofs.lemmas.Result.{IfOk-weaker}
use Rattle.cl_engine.proofs.OpenedFiles.{first_fetched, both_fetched, alone_fits, alone_model, both_open, first_stops}
use Rattle.cl_engine.proofs.opening.open_two.Goals as goal

pub model-requires : goal.model-requires
model-requires g c = alone_fits _ _ _ c.in_ok-given.ensures.opened _ c.in-Held.is

pub returns-in-Held-clause-leaves : goal.returns-in-Held-clause-leaves
returns-in-Held-clause-leaves g c =
    both_fetched _ _ _ _ (record { held = refl; faults = refl; longest = refl }) c.in_ok-given.ensures.leaves c.open_second.ensures.leaves

pub returns-in-Held-clause-opened : goal.returns-in-Held-clause-opened
returns-in-Held-clause-opened g c = IfOk-weaker c.open_second.result _ _ (λ opens is.
    both_open _ _ _ _ (record { held = refl; faults = refl; longest = refl }) c.in_ok-given.ensures.leaves c.open_second.ensures.leaves
    _ c.in_ok-given.ensures.opened.may.0 c.model.result (alone_model _ _ _ c.in_ok-given.ensures.opened _ c.in-Held.is _ c.model.ensures) opens is) c.open_second.ensures.opened

pub returns-in-Stopped-clause-leaves : goal.returns-in-Stopped-clause-leaves
returns-in-Stopped-clause-leaves g c = first_fetched _ _ _ c.in_ok-given.ensures.leaves

pub returns-in-Stopped-clause-opened : goal.returns-in-Stopped-clause-opened
returns-in-Stopped-clause-opened g c = first_stops _ _ _ c.in_ok-given.ensures.leaves _ c.in_ok-given.ensures.opened _ c.in-Stopped.is

pub returns-in_err-given-clause-leaves : goal.returns-in_err-given-clause-leaves
returns-in_err-given-clause-leaves g c = first_fetched _ _ _ c.in_err-given.ensures.leaves
