use Rattle.std.proofs.Common.{ℕ, ◌≡◌, List, [], ◌∷◌, ap, ◌∙◌}
use denote.Bor.{Bor}
use Rattle.std.proofs.lemmas.Bool.Decides.{Decides-eqb}
use Rattle.std.proofs.lemmas.Slice.Eq.{strip_suffix_is}
use Rattle.cl_edit.proofs.PlainLines.{by_suffix}
use Rattle.cl_lists.proofs.lines.without_return.Goals as goal

pub returns : goal.returns
returns c =
    let line = c.args.line in
    let end = c.as_slice.result.now in
    let is : end ≡ 0x0D ∷ [] = c.as_slice.ensures in
    ap (λ (b : Bor (List ℕ)). b.now) c.unwrap_or.ensures
    ∙ by_suffix line end c.strip_suffix.result is (strip_suffix_is Decides-eqb line.now end c.strip_suffix.result c.strip_suffix.ensures.cases)
