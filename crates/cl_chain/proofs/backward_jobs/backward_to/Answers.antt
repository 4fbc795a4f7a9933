use Rattle.std.proofs.Common.{◌≡◌, ℕ, Option, None, List, sym, ap, ◌∙◌}
use Rattle.std.specs.Prelude.{slice_index}
use Rattle.cl_chain.specs.Inner.GroupTables.{moment_at, reads_in}
use Rattle.cl_chain.proofs.{TailFacts.reads_looked_up, BackwardFacts.no_first_read}
use Rattle.cl_chain.proofs.backward_jobs.backward_to.Goals as goal

pub returns-in-None : goal.returns-in-None
returns-in-None c =
    let linked = rw c.in-Some.is at c.in_ok-jobs.ensures in
    let none : moment_at (reads_in c.args.groups.now 0) (slice_index c.in-Some.jobs 0) ≡ None
    = ap (λ (rs : List (Option ℕ)). moment_at rs (slice_index c.in-Some.jobs 0)) (sym (reads_looked_up c.args.groups.now 0 c.requires.some _ _ c.as_slice.ensures))
    ∙ ap (λ (js : List ℕ). moment_at c.as_slice.result.now (slice_index js 0)) (sym c.as_slice-2.ensures) ∙ sym c.in-None.ensures in
    no_first_read c.args.groups.now c.args.last c.args.to c.in-Some.jobs linked.0 linked.1 none
