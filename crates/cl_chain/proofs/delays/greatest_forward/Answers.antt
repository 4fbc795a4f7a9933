use Rattle.std.proofs.Common.{ℕ, List, ap}
use Rattle.std.specs.Prelude.{slice_index}
use Rattle.std.proofs.lemmas.Result.{IfOk-weaker}
use Rattle.cl_runs.specs.Chains.{first_job}
use Rattle.cl_chain.specs.{JobChains.option_of, Inner.ChainsOver.IsForwardOver}
use Rattle.cl_chain.proofs.RowFacts.{greatest_row, no_rows}
use Rattle.cl_chain.proofs.delays.greatest_forward.Goals as goal

pub returns-in-Some : goal.returns-in-Some
returns-in-Some c = IfOk-weaker c.forward_over.result _ _
    (λ found. greatest_row (IsForwardOver c.args.groups.now) c.in_ok-rows.rows c.in_ok-rows.ensures c.in-Some.place c.in-Some.ensures _ (ap (λ (js : List ℕ). slice_index js c.in-Some.place) c.as_slice.ensures) (option_of found)) c.forward_over.ensures

pub returns : goal.returns
returns c = no_rows (IsForwardOver c.args.groups.now) first_job c.in_ok-rows.rows c.in_ok-rows.ensures c.in-None.ensures
