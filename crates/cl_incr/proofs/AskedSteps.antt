-- The steps that were counted, one task or chain after the other.
use Rattle.std.proofs.Common.{◌≡◌, ℕ, ◌+◌, ◌<◌, ◌≤◌, inl, inr, true, false, List, [], ◌∷◌, ◌++◌, length, get_or, refl, ap, ◌∙◌, arith, length-append, ltb}
use Rattle.std.specs.Prelude.{All}
use Rattle.std.specs.List.Sorted.{IsStrictlyIncreasing}
use Rattle.std.proofs.lemmas.Bool.{ltb-true, ltb-false}
use Rattle.std.proofs.lemmas.List.{get_or_append_left}
use Rattle.std.proofs.lemmas.List.Elements.{All-append, All-nil, All-cons}
use Rattle.std.proofs.Math.Seq.{get_or-append_seam}
use Rattle.cl_model.specs.declared.model.SystemModel.{SystemModel}
use Rattle.cl_incr.specs.{Changed.AsksForChanges, Inner.Asked.{AsksBelow, AsksOne, AsksTasks, AsksChains}}

-- ---- a list with one more number

module _ (numbers : List ℕ) (n : ℕ) (below : All (λ number. number < n) numbers) where
  abbrev more : List ℕ
  more = numbers ++ n ∷ []

  is_last : (k : ℕ) → k + 1 ≡ length numbers → get_or more (k + 1) 0 ≡ n
  is_last k last = ap (λ m. get_or more m 0) last ∙ get_or-append_seam numbers n [] 0

  -- it rises where the numbers before it rise
  rising_more : IsStrictlyIncreasing numbers → IsStrictlyIncreasing more
  rising_more rising = λ k within.
      let inside : k < length numbers = omega (arith, within, length-append numbers (n ∷ [])) in
      let left : get_or more k 0 ≡ get_or numbers k 0 = get_or_append_left numbers (n ∷ []) 0 k inside in
      elim (ltb (k + 1) (length numbers)) as (λ b. ltb (k + 1) (length numbers) ≡ b → get_or more k 0 < get_or more (k + 1) 0) [
        | true ↦ λ is.
            let next : k + 1 < length numbers = ltb-true (k + 1) (length numbers) is in
            let right : get_or more (k + 1) 0 ≡ get_or numbers (k + 1) 0 = get_or_append_left numbers (n ∷ []) 0 (k + 1) next in
            omega (arith, left, right, rising k next)
        | false ↦ λ is.
            let right : get_or more (k + 1) 0 ≡ n = is_last k (omega (arith, inside, ltb-false (k + 1) (length numbers) is)) in
            omega (arith, left, right, below k 0 inside)
      ] refl

  below_next : All (λ number. number < n + 1) more
  below_next = All-append (λ number. number < n + 1) numbers (n ∷ [])
      (λ k d within. omega (arith, below k d within))
      (All-cons (λ number. number < n + 1) n [] (omega arith) (All-nil (λ number. number < n + 1)))

-- ---- the steps

module _ (IsChanged : ℕ → Type 0) (each : ℕ) where
  -- none so far
  pub asks_none : (steps : ℕ) → AsksBelow IsChanged each 0 steps steps
  asks_none steps = record {
    numbers = [];
    different = λ k within. absurd (omega (arith, within));
    below = All-nil (λ number. number < 0);
    changed = All-nil IsChanged;
    few = omega arith;
  }

  module _ (n before now after : ℕ) (asks : AsksBelow IsChanged each n before now) where
    asks_same : after ≤ now → AsksBelow IsChanged each (n + 1) before after
    asks_same none = record {
      numbers = asks.numbers;
      different = asks.different;
      below = λ k d within. omega (arith, asks.below k d within);
      changed = asks.changed;
      few = omega (arith, asks.few, none);
    }

    asks_more : IsChanged n → after ≤ now + each → AsksBelow IsChanged each (n + 1) before after
    asks_more changed up_to =
        let count : length (asks.numbers ++ n ∷ []) ≡ length asks.numbers + 1 = length-append asks.numbers (n ∷ []) in
        record {
          numbers = asks.numbers ++ n ∷ [];
          different = rising_more asks.numbers n asks.below asks.different;
          below = below_next asks.numbers n asks.below;
          changed = All-append IsChanged asks.numbers (n ∷ []) asks.changed (All-cons IsChanged n [] changed (All-nil IsChanged));
          few = rw count (omega (arith, asks.few, up_to));
        }

    -- those for one more
    pub asks_next : AsksOne (IsChanged n) each now after → AsksBelow IsChanged each (n + 1) before after
    asks_next (inl none) = asks_same none
    asks_next (inr asked) = asks_more asked.0 asked.1

  -- the same numbers lie below a greater one
  pub asks_within : (n count before after : ℕ) → AsksBelow IsChanged each n before after → n ≤ count → AsksBelow IsChanged each count before after
  asks_within n count before after asks within = record {
    numbers = asks.numbers;
    different = asks.different;
    below = λ k d is. omega (arith, asks.below k d is, within);
    changed = asks.changed;
    few = asks.few;
  }

  -- those for one more, of which there are more
  pub asks_more_of : (n count before now after : ℕ) → AsksBelow IsChanged each n before now → AsksOne (IsChanged n) each now after → n < count
      → AsksBelow IsChanged each count before after
  asks_more_of n count before now after asks one within =
      asks_within (n + 1) count before after (asks_next n before now after asks one) (omega (arith, within))

-- ---- together

module _ (old new : SystemModel) where
  -- no step asks for nothing
  pub asks_nothing : (before after : ℕ) → after ≤ before → AsksForChanges old new before after
  asks_nothing before after none = record {
    tasks = [];
    chains = [];
    different_tasks = λ k within. absurd (omega (arith, within));
    different_chains = λ k within. absurd (omega (arith, within));
    changed_tasks = All-nil _;
    changed_chains = All-nil _;
    few = omega (arith, none);
  }

  -- those for the tasks and those for the chains
  pub asks_for_changes : (tasks chains before now after : ℕ) → AsksTasks old new tasks before now → AsksChains old new chains now after
      → AsksForChanges old new before after
  asks_for_changes tasks chains before now after of_tasks of_chains = record {
    tasks = of_tasks.numbers;
    chains = of_chains.numbers;
    different_tasks = of_tasks.different;
    different_chains = of_chains.different;
    changed_tasks = of_tasks.changed;
    changed_chains = of_chains.changed;
    few = omega (arith, of_tasks.few, of_chains.few);
  }
