use Rattle.std.proofs.Common.{ℕ, ◌+◌, ◌<◌, ◌≤◌, List, length, get_or}
use Rattle.cl_model.specs.declared.model.SystemModel.{SystemModel}
use Rattle.cl_margin.specs.{declared.{searching.Search.Search, whose.Whose.Whose}, Grown.grown, Inner.Searches.{KeepsTask, IsMarginSearch}}
use Rattle.cl_margin.proofs.searching.Search.ask_tasks.Given as goal

-- so many tasks have been asked, from the end of the order on
pub record HasAsked (model : SystemModel) (whose : Whose) (order : List ℕ) (asked : ℕ) (search : Search) : Type 0 where
  pub is : IsMarginSearch model whose search
  pub tasks : (k : ℕ) → length order ≤ k + asked → k < length order → KeepsTask model (grown model whose search.percent) (get_or order k 0)

abbrev pub invariant-loop-asked : goal.invariant-loop-asked
invariant-loop-asked g l = HasAsked l.standing.model.now l.whose l.standing.order.now l.asked l.search
