-- Halving over something that is asked: it holds at the lower end, and the upper end doesn't keep all that is met.
use Rattle.std.proofs.Common.{◌≡◌, ℕ, ◌+◌, ◌<◌, ◌≤◌, inl, inr, List, sym, subst, arith}
use Rattle.std.proofs.lemmas.Bool.{cases_eq}
use Rattle.cl_model.specs.{declared.model.SystemModel.SystemModel, Ranges.IsInRange, Validity.IsValid}
use Rattle.cl_margin.specs.{declared.{allowed.Allowed.Allowed, searching.{Item.Item, Search.Search}, trial.Trial.Trial, whose.Whose.Whose}, Grown.grown, Margins.KeepsMet, Inner.{Searches.{IsMetItem, KeepsItem, IsMarginSearch}, Touched.IsMostInRange, Trials.{IsTrialOf, IsTrialAt}}}
use Rattle.cl_margin.proofs.{AskedItems.{kept_at_whole, item_at_whole, fails_above}, GrownRange.range_stays, GrownValid.grown_same}

pub record IsHalved (model : SystemModel) (whose : Whose) (item : Item) (percent low high : ℕ) (tried : Trial) : Type 0 where
  pub some : 100 ≤ low
  pub apart : low < high
  pub few : high ≤ percent
  pub trial : (now : ℕ) × IsTrialAt model whose now tried
  pub kept : KeepsItem model (grown model whose low) item
  pub fails : KeepsMet model (grown model whose high) → ⊥

module _ (model : SystemModel) (valid : IsValid model) (whose : Whose) where
  -- a trial of the model is one at 100 percent
  pub trial_at_whole : (trial : Trial) → IsTrialOf model trial → (now : ℕ) × IsTrialAt model whose now trial
  trial_at_whole trial is = (100, subst (λ (m : SystemModel). IsTrialOf m trial) (sym (grown_same model valid whose)) is)

  -- a search begins at the greatest percentage in range
  pub search_begun : (search : Search) → IsMostInRange model whose search.percent → IsTrialAt model whose search.percent search.trial → IsMarginSearch model whose search
  search_begun search is trial = record {
    some = is.some;
    few = is.few;
    in_range = is.in_range;
    trial = trial;
    greatest = λ other above few kept. is.greatest other above few kept.in_range;
  }

  module _ (most : List Allowed) (item : Item) (met : IsMetItem model most item) (search : Search) (is : IsMarginSearch model whose search) where
    abbrev percent : ℕ
    percent = search.percent

    -- something that fails there is halved from 100 percent on, at which all is kept
    pub halved_first : (tried : Trial) → IsTrialAt model whose percent tried → (KeepsMet model (grown model whose percent) → ⊥)
        → IsHalved model whose item percent 100 percent tried
    halved_first tried trial fails = record {
      some = omega arith;
      apart = elim (cases_eq percent 100) [
        | inl same ↦ absurd (fails (subst (λ n. KeepsMet model (grown model whose n)) (sym same) (kept_at_whole model valid whose)))
        | inr apart ↦ omega (arith, apart, is.some)
      ];
      few = omega arith;
      trial = (percent, trial);
      kept = item_at_whole model valid whose most item met;
      fails = fails;
    }

    module _ (low high : ℕ) (tried : Trial) (halved : IsHalved model whose item percent low high tried) where
      pub between_in_range : (middle : ℕ) → middle ≤ high → IsInRange (grown model whose middle)
      between_in_range middle below = range_stays model valid.in_range whose middle percent (omega (arith, below, halved.few)) is.in_range

      -- it holds in the middle
      pub halved_kept : (middle : ℕ) (next : Trial) → low ≤ middle → middle < high → IsTrialAt model whose middle next → KeepsItem model (grown model whose middle) item
          → IsHalved model whose item percent middle high next
      halved_kept middle next above below trial kept = record {
        some = omega (arith, halved.some, above);
        apart = below;
        few = halved.few;
        trial = (middle, trial);
        kept = kept;
        fails = halved.fails;
      }

      -- or it fails there
      pub halved_fails : (middle : ℕ) (next : Trial) → low < middle → middle ≤ high → IsTrialAt model whose middle next → (KeepsMet model (grown model whose middle) → ⊥)
          → IsHalved model whose item percent low middle next
      halved_fails middle next above below trial fails = record {
        some = halved.some;
        apart = above;
        few = omega (arith, halved.few, below);
        trial = (middle, trial);
        kept = halved.kept;
        fails = fails;
      }

      -- where the ends meet, the lower one is the percentage
      pub halved_last : high ≤ low + 1 → (reached : Search) → reached.percent ≡ low → IsTrialAt model whose low reached.trial → IsMarginSearch model whose reached
      halved_last met reached same trial = record {
        some = omega (arith, same, halved.some);
        few = omega (arith, same, halved.apart, halved.few, is.few);
        in_range = subst (λ n. IsInRange (grown model whose n)) (sym same) (between_in_range low (omega (arith, halved.apart)));
        trial = subst (λ n. IsTrialAt model whose n reached.trial) (sym same) trial;
        greatest = λ other above few kept.
            fails_above model valid whose high (omega (arith, halved.some, halved.apart)) halved.fails other (omega (arith, above, same, met)) kept;
      }
