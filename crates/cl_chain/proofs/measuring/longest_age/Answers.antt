use Rattle.std.proofs.Common.{ℕ, List, ap}
use Rattle.std.specs.Prelude.{slice_index}
use Rattle.std.proofs.lemmas.Result.{IfOk-weaker}
use Rattle.cl_runs.specs.Chains.{last_job}
use Rattle.cl_chain.specs.{JobChains.option_of, Inner.ChainsOver.IsAgeOver}
use Rattle.cl_chain.proofs.RowFacts.{longest_row, no_rows, rows_ordered}
use Rattle.cl_chain.proofs.measuring.longest_age.Goals as goal

pub longest-requires-clause-in_order : goal.longest-requires-clause-in_order
longest-requires-clause-in_order c = rows_ordered (IsAgeOver c.args.groups.now) last_job c.args.rows.now c.requires.rows c.requires.ordered.age

pub returns-in-Some : goal.returns-in-Some
returns-in-Some c = IfOk-weaker c.age_over.result _ _
    (λ found. longest_row (IsAgeOver c.args.groups.now) last_job c.args.rows.now c.requires.rows c.in-Some.place c.in-Some.ensures _ (ap (λ (js : List ℕ). slice_index js c.in-Some.place) c.as_slice.ensures) (option_of found)) c.age_over.ensures

pub returns-in-None : goal.returns-in-None
returns-in-None c = no_rows (IsAgeOver c.args.groups.now) last_job c.args.rows.now c.requires.rows c.in-None.ensures
