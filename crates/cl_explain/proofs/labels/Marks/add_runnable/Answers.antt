use Rattle.std.proofs.Common.{◌≡◌, ℕ, List, ap, ◌∙◌}
use Rattle.std.specs.Prelude.{◌||◌}
use Rattle.cl_model.specs.Named.{has_name}
use Rattle.cl_explain.proofs.MarkedLabels.{still_ok}
use Rattle.cl_explain.proofs.labels.Marks.add_runnable.Goals as goal

pub returns : goal.returns
returns c =
    let old = c.args.self.now in
    let runnable = c.args.runnable.now in
    still_ok c.add_all-2.result _ _
    (λ (writes : (name : List ℕ) → has_name name c.add_all-2.new.set ≡ (has_name name old.writes || has_name name c.as_slice-2.result.now)).
    record {
      reads = λ name. c.in_ok-add_all.ensures name ∙ ap (λ (names : List (List ℕ)). has_name name old.reads || has_name name names) c.as_slice.ensures;
      writes = λ name. writes name ∙ ap (λ (names : List (List ℕ)). has_name name old.writes || has_name name names) c.as_slice-2.ensures;
    }) c.add_all-2.ensures
