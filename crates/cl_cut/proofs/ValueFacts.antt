-- Values of groups, and the loop over the pieces that begin with a group.
use Rattle.std.proofs.Common.{◌≡◌, ℕ, ◌+◌, ◌-◌, ◌<◌, inl, inr, Option, Some, None, List, [], ◌∷◌, ◌++◌, length, take, take-take, drop, sym, ap, subst, ◌∙◌, arith}
use Rattle.std.specs.Prelude.{slice_index}
use Rattle.std.specs.Option.{unwrap_or}
use Rattle.std.proofs.lemmas.Bool.{cases_lt}
use Rattle.std.proofs.lemmas.List.{get_or_append_left, length_push, get_or_push, length-take}
use Rattle.cl_model.specs.declared.group.Group.{Group}
use Rattle.cl_runs.specs.TaskTiming.{System}
use Rattle.cl_bound.specs.Bounds.{bounds_of}
use Rattle.cl_exact.specs.{ExactReactions.IsReactionOf, Hyperperiod.IsPastLimit}
use Rattle.cl_exact.proofs.ExactOnce.{hyperperiod_once}
use Rattle.cl_cut.specs.Values.{part, IsValue}

-- past the limit the value of groups is the bound
pub past_value : (system : System) (groups : List Group) (value : ℕ) → IsPastLimit system groups → value ≡ (bounds_of system groups).reaction → IsValue system groups value
past_value system groups value past is = inr (record {
  not_exact = λ timed within.
      let same = hyperperiod_once system groups within.hyperperiod past.hyperperiod within.is_hyperperiod past.is_hyperperiod in
      omega (arith, same, within.within, past.past);
  value_is = is;
})

-- the value of groups, from their exact reaction where they have one within the limit, and the bound on their reaction
pub found_value : (system : System) (groups : List Group) (exact : Option ℕ) (bound value : ℕ) → IsReactionOf system groups exact
    → bound ≡ (bounds_of system groups).reaction → value ≡ unwrap_or exact bound → IsValue system groups value
found_value system groups (Some reaction) bound value is bound_is value_is = inl (record {
  timed = is.timed;
  within = is.within;
  exact = is.exact;
  are_exact = is.are_exact;
  reaction_is = value_is ∙ is.reaction_is;
})
found_value system groups None bound value none bound_is value_is = inr (record { not_exact = none; value_is = value_is ∙ bound_is })

-- a front part of a rear part is the piece that begins with it
pub front_is_piece : (groups : List Group) (first k : ℕ) → k < length (take (length groups - first) (drop first groups))
    → take (k + 1) (take (length groups - first) (drop first groups)) ≡ part groups first (first + 1 + k)
unfolding part
front_is_piece groups first k below =
    let many : k + 1 ≡ first + 1 + k - first = omega arith in
    take-take (k + 1) (length groups - first) (drop first groups)
    (omega (arith, below, length-take (length groups - first) (drop first groups)))
    ∙ ap (λ n. take n (drop first groups)) many

-- the values of the first pieces that begin with a group
pub record AreFirstValues (system : System) (groups : List Group) (first count : ℕ) (values : List ℕ) : Type 0 where
  pub as_many : length values ≡ count
  pub each : (k : ℕ) → k < count → IsValue system (part groups first (first + 1 + k)) (slice_index values k)

module _ (system : System) (groups : List Group) (first : ℕ) where
  pub one_more_value : (values pushed : List ℕ) (count value : ℕ) → AreFirstValues system groups first count values
      → IsValue system (part groups first (first + 1 + count)) value → pushed ≡ values ++ value ∷ []
      → AreFirstValues system groups first (count + 1) pushed
  one_more_value values pushed count value kept is_value is = subst (AreFirstValues system groups first (count + 1)) (sym is) (record {
    as_many = omega (arith, length_push values value, kept.as_many);
    each = λ k lt. elim (cases_lt k count) [
      | inl before ↦ subst (IsValue system (part groups first (first + 1 + k)))
          (sym (get_or_append_left values (value ∷ []) 0 k (omega (arith, before, kept.as_many)))) (kept.each k before)
      | inr not ↦
          let same : count ≡ k = omega (arith, not, lt) in
          let last : length values ≡ k = omega (arith, same, kept.as_many) in
          subst (IsValue system (part groups first (first + 1 + k))) (sym (get_or_push values value 0 k last))
          (subst (λ n. IsValue system (part groups first (first + 1 + n)) value) same is_value)
    ];
  })
