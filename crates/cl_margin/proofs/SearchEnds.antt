-- What all tasks and chains that are asked say together, and the margin where a search ends.
use Rattle.std.proofs.Common.{◌≡◌, ℕ, ◌+◌, ◌<◌, ◌≤◌, inl, inr, Option, Some, None, List, length, get_or, refl, ◌∙◌, subst, arith}
use Rattle.std.specs.Prelude.{All, IfSome, IfNone, IsPermutation}
use Rattle.std.specs.List.{range_with_len}
use Rattle.std.proofs.lemmas.Bool.{cases_order}
use Rattle.std.proofs.lemmas.List.{get_or_default}
use Rattle.std.proofs.lemmas.List.FromFn.{length-range_with_len, get_or-range_with_len}
use Rattle.std.proofs.lemmas.List.Sorted.{Contains-permutation, All-permutation}
use Rattle.cl_model.specs.{declared.model.SystemModel.SystemModel, Ranges.IsInRange, Validity.IsValid, ByNumber.requirement_at}
use Rattle.cl_runs.specs.Requirements.{required_chain}
use Rattle.cl_scale.specs.declared.percent.TheConstants.{MOST_PERCENT}
use Rattle.cl_margin.specs.{declared.{answer.Breaks.{Breaks, TheVariants.Limit}, searching.Search.Search, whose.Whose.Whose}, Grown.grown, Margins.{KeepsTasks, KeepsMet, BreaksFirst, IsGreatestPercent, IsMargin}, Inner.Searches.{KeepsTask, KeepsChain, IsMarginSearch}}
use Rattle.cl_margin.specs.Inner.Touched.{IsMostInRange}
use Rattle.cl_margin.proofs.{GrownRange.range_stays, MetByBounds.{chain_bounded, met_by_bounds}}

-- ---- all that is asked

module _ (model : SystemModel) (order : List ℕ) (of : IsPermutation (range_with_len 0 (length model.tasks)) order) where
  abbrev numbers : List ℕ
  numbers = range_with_len 0 (length model.tasks)

  number_is : (k d : ℕ) → k < length model.tasks → get_or numbers k d ≡ k
  number_is k d lt = omega (arith, get_or-range_with_len 0 (length model.tasks) k d lt)

  -- they are tasks of the model
  pub order_known : All (λ task. task < length model.tasks) order
  order_known = All-permutation (λ task. task < length model.tasks) numbers order of
      (λ k d lt.
      let within : k < length model.tasks = omega (arith, lt, length-range_with_len 0 (length model.tasks)) in
      omega (arith, within, number_is k d within))

  -- and all of them
  pub all_tasks : (other : SystemModel) → ((k : ℕ) → k < length order → KeepsTask model other (get_or order k 0)) → KeepsTasks model other
  all_tasks other each task h =
      let (k, lt, is) = Contains-permutation numbers order task of (task, omega (arith, h, length-range_with_len 0 (length model.tasks)), number_is task task h) in
      subst (λ n. KeepsTask model other n) (get_or_default order k 0 task lt ∙ is) (each k lt)

-- a requirement that is met is on a chain of the model
pub all_chains : (model other : SystemModel) → IsInRange other → KeepsTasks model other
    → ((chain : ℕ) → chain < length model.chains → KeepsChain model other chain) → KeepsMet model other
all_chains model other in_range tasks each = record {
  in_range = in_range;
  tasks = tasks;
  requirements = λ i h met.
      let (bounds, given, le) = met_by_bounds model i h met in
      each (required_chain model (requirement_at model i)) (chain_bounded model (required_chain model (requirement_at model i)) bounds given) i h refl met;
}

-- ---- the margin

module _ (model : SystemModel) (whose : Whose) (percent : ℕ) where
  pub best_where : (search : Search) → search.percent ≡ percent → IsMarginSearch model whose search → KeepsMet model (grown model whose search.percent) → IsGreatestPercent model whose percent
  best_where search same is kept = subst (λ n. IsGreatestPercent model whose n) same
      (record { some = is.some; few = is.few; kept = kept; greatest = is.greatest })

  module _ (best : IsGreatestPercent model whose percent) where
    few_more : (percent ≡ MOST_PERCENT → ⊥) → percent < MOST_PERCENT
    few_more apart = omega (arith, apart, best.few)

    pub margin_limit : (percent ≡ MOST_PERCENT → ⊥) → IsMostInRange model whose percent → IsMargin model whose (record { percent = percent; breaks = Some Limit })
    margin_limit apart most = record {
      best = best;
      breaks = (few_more apart, λ in_range. most.greatest (percent + 1) (omega arith) (omega (arith, few_more apart)) in_range);
    }

    -- a percentage below the greatest in range is followed by one in range
    pub more_in_range : IsValid model → (greatest : ℕ) → IsMostInRange model whose greatest → (percent ≡ greatest → ⊥) → IsInRange (grown model whose (percent + 1)) × (percent + 1 ≤ MOST_PERCENT)
    more_in_range valid greatest most apart = elim (cases_order percent greatest) [
      | inl same ↦ absurd (apart same)
      | inr (inl below) ↦ (range_stays model valid.in_range whose (percent + 1) greatest (omega (arith, below)) most.in_range, omega (arith, below, most.few))
      | inr (inr above) ↦ absurd (most.greatest percent above best.few best.kept.in_range)
    ]

    pub margin_broken : (percent ≡ MOST_PERCENT → ⊥) → (breaks : Option Breaks) → IfSome breaks (BreaksFirst model (grown model whose (percent + 1)))
        → IfNone breaks (KeepsMet model (grown model whose (percent + 1))) → IsMargin model whose (record { percent = percent; breaks = breaks })
    margin_broken apart (Some breaks) some none = record { best = best; breaks = (few_more apart, some) }
    margin_broken apart None some none = absurd (best.greatest (percent + 1) (omega arith) (omega (arith, few_more apart)) none)
