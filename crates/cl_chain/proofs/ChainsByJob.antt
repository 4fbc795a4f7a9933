-- Chains that are told by a job, of which there are finitely many, and of which it is decided for each job whether
-- there is one: they can be listed, and have a longest.
use Rattle.std.proofs.Common.{◌≡◌, ℕ, zero, suc, ◌+◌, ◌<◌, ◌≤◌, inl, inr, Option, Some, None, List, [], ◌∷◌, ◌++◌, length, get_or, refl, sym, ap, ◌∙◌, subst, arith, length-append}
use Rattle.std.specs.Prelude.{Contains}
use Rattle.std.specs.List.{All}
use Rattle.std.proofs.lemmas.Bool.{cases_lt, cases_eq}
use Rattle.std.proofs.lemmas.List.{get_or_append_left}
use Rattle.std.proofs.Math.Seq.{get_or-append_seam}
use Rattle.std.proofs.lemmas.List.Elements.{All-nil, All-cons, All-append, Contains-append_left, Contains-append_right}
use Rattle.cl_runs.specs.{Chains.{JobChain, chain_length}, Measured.{IsLongest, IsMeasuredBy, IsCountOf}}
use Rattle.cl_chain.proofs.DecidedMoments.{Decided}

module _ (IsChain : JobChain → Type 0) (job_of : JobChain → ℕ) where
  -- a chain of a job
  abbrev pub IsOfJob : (job : ℕ) → JobChain → Type 0
  IsOfJob job chain = IsChain chain × (job_of chain ≡ job)

  abbrev pub HasChain : (job : ℕ) → Type 0
  HasChain job = (chain : JobChain) × IsOfJob job chain

  module _ (once : (one other : JobChain) → IsChain one → IsChain other → job_of one ≡ job_of other → one ≡ other)
      (decided : (job : ℕ) → Decided (HasChain job)) (bound : ℕ) (few : (chain : JobChain) → IsChain chain → job_of chain < bound) where
    -- ---- their list

    record AreBelow (n : ℕ) (chains : List JobChain) : Type 0 where
      sound : All IsChain chains
      below : All (λ chain. job_of chain < n) chains
      complete : (chain : JobChain) → IsChain chain → job_of chain < n → Contains chains chain
      rising : (i j : ℕ) (d : JobChain) → i < j → j < length chains → job_of (get_or chains i d) < job_of (get_or chains j d)

    none_below : AreBelow 0 []
    none_below = record {
      sound = All-nil IsChain;
      below = All-nil (λ chain. job_of chain < 0);
      complete = λ chain is lt. absurd (omega (arith, lt));
      rising = λ i j d lt within. absurd (omega (arith, within));
    }

    wider : (n : ℕ) (chains : List JobChain) → All (λ chain. job_of chain < n) chains → All (λ chain. job_of chain < suc n) chains
    wider n chains below k d lt = omega (arith, below k d lt)

    same_below : (n : ℕ) (chains : List JobChain) → AreBelow n chains → (HasChain n → ⊥) → AreBelow (suc n) chains
    same_below n chains are none = record {
      sound = are.sound;
      below = wider n chains are.below;
      complete = λ chain is lt. elim (cases_eq (job_of chain) n) [
        | inl last ↦ absurd (none (chain, (is, last)))
        | inr other ↦ are.complete chain is (omega (arith, lt, other))
      ];
      rising = are.rising;
    }

    more_below : (n : ℕ) (chains : List JobChain) → AreBelow n chains → (chain : JobChain) → IsOfJob n chain → AreBelow (suc n) (chains ++ chain ∷ [])
    more_below n chains are chain of_job = record {
      sound = All-append IsChain chains (chain ∷ []) are.sound (All-cons IsChain chain [] of_job.0 (All-nil IsChain));
      below = All-append (λ c. job_of c < suc n) chains (chain ∷ []) (wider n chains are.below)
          (All-cons (λ c. job_of c < suc n) chain [] (omega (arith, of_job.1)) (All-nil (λ c. job_of c < suc n)));
      complete = λ other is lt. elim (cases_eq (job_of other) n) [
        | inl last ↦ subst (Contains (chains ++ chain ∷ [])) (once chain other of_job.0 is (of_job.1 ∙ sym last)) (Contains-append_right chains (chain ∷ []) chain (own chain))
        | inr less ↦ Contains-append_left chains (chain ∷ []) other (are.complete other is (omega (arith, lt, less)))
      ];
      rising = λ i j d lt within. elim (cases_lt j (length chains)) [
        | inl inside ↦ omega (
          arith,
          are.rising i j d lt inside,
          ap job_of (get_or_append_left chains (chain ∷ []) d i (omega (arith, lt, inside))),
          ap job_of (get_or_append_left chains (chain ∷ []) d j inside),
        )
        | inr last ↦
            let size : length (chains ++ chain ∷ []) ≡ length chains + 1 = length-append chains (chain ∷ []) in
            let here : length chains ≡ j = omega (arith, last, within, size) in
            omega (
              arith,
              are.below i d (omega (arith, lt, here)),
              of_job.1,
              ap job_of (get_or_append_left chains (chain ∷ []) d i (omega (arith, lt, here))),
              ap job_of (get_or-append_seam chains chain [] d),
              ap (λ k. job_of (get_or (chains ++ chain ∷ []) k d)) here,
            )
      ];
    }
      where
        own : (c : JobChain) → Contains (c ∷ []) c
        own c = (0, omega arith, refl)

    chains_below : (n : ℕ) → (chains : List JobChain) × AreBelow n chains
    chains_below zero = ([], none_below)
    chains_below (suc n) = by_last (chains_below n) (decided n)
      where
        by_last : (chains : List JobChain) × AreBelow n chains → Decided (HasChain n) → (chains : List JobChain) × AreBelow (suc n) chains
        by_last before (inl found) = (before.0 ++ found.0 ∷ [], more_below n before.0 before.1 found.0 found.1)
        by_last before (inr none) = (before.0, same_below n before.0 before.1 none)

    pub some_count : (count : ℕ) × IsCountOf IsChain count
    some_count =
        let all = chains_below bound in (
          length all.0,
          record {
            chains = all.0;
            sound = all.1.sound;
            complete = λ chain is. all.1.complete chain is (few chain is);
            once = λ i j d lt within same. omega (arith, all.1.rising i j d lt within, ap job_of same);
            counted = refl;
          },
        )

    -- ---- the longest

    abbrev IsBestBelow : (n : ℕ) → Option JobChain → Type 0
    IsBestBelow n found = IsMeasuredBy (λ chain. IsChain chain × (job_of chain < n)) job_of found

    best_below : (n : ℕ) → (found : Option JobChain) × IsBestBelow n found
    best_below zero = (None, λ chain is. omega (arith, is.1))
    best_below (suc n) = by_last (best_below n) (decided n)
      where
        only : (chain : JobChain) → IsOfJob n chain → (other : JobChain) → IsChain other → job_of other ≡ n → other ≡ chain
        only chain of_job other is last = once other chain is of_job.0 (last ∙ sym of_job.1)

        first_found : (chain : JobChain) → IsOfJob n chain → ((other : JobChain) → IsChain other × (job_of other < n) → ⊥)
            → IsLongest (λ c. IsChain c × (job_of c < suc n)) job_of chain
        first_found chain of_job none = record {
          is_chain = (of_job.0, omega (arith, of_job.1));
          longest = λ other is. omega (arith, ap chain_length (alone other is));
          least = λ other is same. omega (arith, ap job_of (alone other is));
        }
          where
            alone : (other : JobChain) → IsChain other × (job_of other < suc n) → other ≡ chain
            alone other is = elim (cases_eq (job_of other) n) [
              | inl last ↦ only chain of_job other is.0 last
              | inr less ↦ absurd (none other (is.0, omega (arith, is.1, less)))
            ]

        longer : (chain best : JobChain) → IsOfJob n chain → IsLongest (λ c. IsChain c × (job_of c < n)) job_of best → chain_length best < chain_length chain
            → IsLongest (λ c. IsChain c × (job_of c < suc n)) job_of chain
        longer chain best of_job is_best more = record {
          is_chain = (of_job.0, omega (arith, of_job.1));
          longest = λ other is. elim (cases_eq (job_of other) n) [
            | inl last ↦ omega (arith, ap chain_length (only chain of_job other is.0 last))
            | inr less ↦ omega (arith, is_best.longest other (is.0, omega (arith, is.1, less)), more)
          ];
          least = λ other is same. elim (cases_eq (job_of other) n) [
            | inl last ↦ omega (arith, of_job.1, last)
            | inr less ↦ absurd (omega (arith, is_best.longest other (is.0, omega (arith, is.1, less)), more, same))
          ];
        }

        no_longer : (chain best : JobChain) → IsOfJob n chain → IsLongest (λ c. IsChain c × (job_of c < n)) job_of best → chain_length chain ≤ chain_length best
            → IsLongest (λ c. IsChain c × (job_of c < suc n)) job_of best
        no_longer chain best of_job is_best less = record {
          is_chain = (is_best.is_chain.0, omega (arith, is_best.is_chain.1));
          longest = λ other is. elim (cases_eq (job_of other) n) [
            | inl last ↦ omega (arith, ap chain_length (only chain of_job other is.0 last), less)
            | inr below ↦ is_best.longest other (is.0, omega (arith, is.1, below))
          ];
          least = λ other is same. elim (cases_eq (job_of other) n) [
            | inl last ↦ omega (arith, last, is_best.is_chain.1)
            | inr below ↦ is_best.least other (is.0, omega (arith, is.1, below)) same
          ];
        }

        none_more : (found : Option JobChain) → IsBestBelow n found → (HasChain n → ⊥) → IsBestBelow (suc n) found
        none_more None best none = λ chain is. elim (cases_eq (job_of chain) n) [
          | inl last ↦ none (chain, (is.0, last))
          | inr below ↦ best chain (is.0, omega (arith, is.1, below))
        ]
        none_more (Some c) best none = record {
          is_chain = (best.is_chain.0, omega (arith, best.is_chain.1));
          longest = λ other is. elim (cases_eq (job_of other) n) [
            | inl last ↦ absurd (none (other, (is.0, last)))
            | inr below ↦ best.longest other (is.0, omega (arith, is.1, below))
          ];
          least = λ other is same. elim (cases_eq (job_of other) n) [
            | inl last ↦ absurd (none (other, (is.0, last)))
            | inr below ↦ best.least other (is.0, omega (arith, is.1, below)) same
          ];
        }

        by_found : (found : Option JobChain) → IsBestBelow n found → (chain : JobChain) → IsOfJob n chain → (more : Option JobChain) × IsBestBelow (suc n) more
        by_found None best chain of_job = (Some chain, first_found chain of_job best)
        by_found (Some c) best chain of_job = elim (cases_lt (chain_length c) (chain_length chain)) [
          | inl more ↦ (Some chain, longer chain c of_job best more)
          | inr less ↦ (Some c, no_longer chain c of_job best less)
        ]

        by_last : (found : Option JobChain) × IsBestBelow n found → Decided (HasChain n) → (more : Option JobChain) × IsBestBelow (suc n) more
        by_last before (inl found) = by_found before.0 before.1 found.0 found.1
        by_last before (inr none) = (before.0, none_more before.0 before.1 none)

    whole_best : (found : Option JobChain) → IsBestBelow bound found → IsMeasuredBy IsChain job_of found
    whole_best None best = λ chain is. best chain (is, few chain is)
    whole_best (Some c) best = record {
      is_chain = best.is_chain.0;
      longest = λ other is. best.longest other (is, few other is);
      least = λ other is same. best.least other (is, few other is) same;
    }

    pub some_measured : (found : Option JobChain) × IsMeasuredBy IsChain job_of found
    some_measured = let best = best_below bound in (best.0, whole_best best.0 best.1)
