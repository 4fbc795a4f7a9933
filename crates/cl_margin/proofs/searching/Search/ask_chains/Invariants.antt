use Rattle.std.proofs.Common.{ℕ, ◌<◌}
use Rattle.cl_model.specs.declared.model.SystemModel.{SystemModel}
use Rattle.cl_margin.specs.{declared.{searching.Search.Search, whose.Whose.Whose}, Grown.grown, Margins.KeepsTasks, Inner.Searches.{KeepsChain, IsMarginSearch}}
use Rattle.cl_margin.proofs.searching.Search.ask_chains.Given as goal

-- the chains below a number have been asked
pub record HasAsked (model : SystemModel) (whose : Whose) (asked : ℕ) (search : Search) : Type 0 where
  pub is : IsMarginSearch model whose search
  pub tasks : KeepsTasks model (grown model whose search.percent)
  pub chains : (chain : ℕ) → chain < asked → KeepsChain model (grown model whose search.percent) chain

abbrev pub invariant-loop-chain : goal.invariant-loop-chain
invariant-loop-chain g l = HasAsked l.standing.model.now l.whose l.chain l.search
