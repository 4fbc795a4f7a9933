-- Costs of cuts by their first piece and the rest. Values are positive here, so no cost is 0.
use Rattle.std.proofs.Common.{◌≡◌, ℕ, zero, suc, ◌+◌, ◌-◌, ◌<◌, ◌≤◌, inl, inr, List, [], ◌∷◌, length, refl, sym, ap, ◌∙◌, subst, sum, arith}
use Rattle.std.specs.Prelude.{slice_index}
use Rattle.std.proofs.lemmas.List.Sums.{sum_by-cons}
use Rattle.cl_model.specs.declared.group.Group.{Group}
use Rattle.cl_runs.specs.TaskTiming.{System}
use Rattle.cl_exact.specs.ExactLengths.{Witnesses}
use Rattle.cl_exact.proofs.ExactOnce.{exact_unique}
use Rattle.cl_cut.specs.{Values.{part, IsValue}, Cuts.{end_of_piece, piece_groups, IsCutFrom, IsCost}, Inner.Rears.{ArePositive, AreSome}}
use Rattle.cl_cut.proofs.SafeCuts.{cut_rest, cut_begins}

-- groups have one value
pub value_once : (system : System) (groups : List Group) (one other : ℕ) → IsValue system groups one → IsValue system groups other → one ≡ other
value_once system groups one other (inl a) (inl b) =
    a.reaction_is ∙ ap (λ (exact : Witnesses). exact.reaction.length) (exact_unique system groups a.exact b.exact a.are_exact b.are_exact) ∙ sym b.reaction_is
value_once system groups one other (inl a) (inr b) = absurd (b.not_exact a.timed a.within)
value_once system groups one other (inr a) (inl b) = absurd (a.not_exact b.timed b.within)
value_once system groups one other (inr a) (inr b) = a.value_is ∙ sym b.value_is

-- each piece ends within the chain
pub end_within : (groups : List Group) (first : ℕ) (pieces : List ℕ) → IsCutFrom groups first pieces
    → (k : ℕ) → k < length pieces → end_of_piece groups pieces k ≤ length groups
end_within groups first [] cut k lt = absurd (omega (arith, lt))
end_within groups first (f ∷ []) cut zero lt = omega arith
end_within groups first (f ∷ []) cut (suc k) lt = absurd (omega (arith, lt))
end_within groups first (f ∷ g ∷ pieces) cut zero lt = omega (arith, cut_begins groups g (g ∷ pieces) (cut_rest groups first f g pieces cut))
end_within groups first (f ∷ g ∷ pieces) cut (suc k) lt = end_within groups g (g ∷ pieces) (cut_rest groups first f g pieces cut) k (omega (arith, lt))

-- numbers from 1 up sum up to as many or more
pub sum_some : (values : List ℕ) → AreSome values → length values ≤ sum values
sum_some [] some = omega arith
sum_some (v ∷ values) some =
    omega (arith, some 0 (omega arith), sum_by-cons (λ (x : ℕ). x) v values, sum_some values (λ k lt. some (suc k) (omega (arith, lt))))

module _ (system : System) (groups : List Group) (positive : ArePositive system groups) where
  values_some : (first : ℕ) (pieces values : List ℕ) → IsCutFrom groups first pieces → length values ≡ length pieces
      → ((k : ℕ) → k < length pieces → IsValue system (piece_groups groups pieces k) (slice_index values k)) → AreSome values
  values_some first pieces values cut as_many each k lt =
      let within : k < length pieces = omega (arith, lt, as_many) in
      positive (slice_index pieces k) (end_of_piece groups pieces k) (slice_index values k) (cut.rising k within)
      (end_within groups first pieces cut k within) (each k within)

  -- no cut costs nothing
  pub cost_some : (first : ℕ) (pieces : List ℕ) (cost : ℕ) → IsCutFrom groups first pieces → IsCost system groups pieces cost → 1 ≤ cost
  cost_some first pieces cost cut costs = omega (
    arith,
    costs.cost_is,
    costs.one_a_piece,
    cut.some,
    sum_some costs.values (values_some first pieces costs.values cut costs.one_a_piece costs.each),
  )

  -- the value of the first piece, and the cost of the rest
  pub record CostParts (f g : ℕ) (pieces : List ℕ) (cost : ℕ) : Type 0 where
    pub value : ℕ
    pub is_value : IsValue system (part groups f g) value
    pub rest : ℕ
    pub rest_costs : IsCost system groups (g ∷ pieces) rest
    pub sum_is : cost + 1 ≡ value + rest

  values_parts : (first f g : ℕ) (pieces values : List ℕ) (cost : ℕ) → IsCutFrom groups first (f ∷ g ∷ pieces) → length values ≡ length (f ∷ g ∷ pieces)
      → ((k : ℕ) → k < length (f ∷ g ∷ pieces) → IsValue system (piece_groups groups (f ∷ g ∷ pieces) k) (slice_index values k))
      → cost + (length (f ∷ g ∷ pieces) - 1) ≡ sum values → CostParts f g pieces cost
  values_parts first f g pieces [] cost cut as_many each is = absurd (omega (arith, as_many))
  values_parts first f g pieces (v ∷ values) cost cut as_many each is =
      let count : length values ≡ length (g ∷ pieces) = omega (arith, as_many) in
      let each_rest = λ (k : ℕ) (lt : k < length (g ∷ pieces)). each (suc k) (omega (arith, lt)) in
      let some = sum_some values (values_some g (g ∷ pieces) values (cut_rest groups first f g pieces cut) count each_rest) in
      record {
        value = v;
        is_value = each 0 (omega arith);
        rest = sum values - length pieces;
        rest_costs = record {
          values = values;
          one_a_piece = count;
          each = each_rest;
          cost_is = omega (arith, some, count);
        };
        sum_is = omega (arith, is, some, count, sum_by-cons (λ (x : ℕ). x) v values);
      }

  pub cost_parts : (first f g : ℕ) (pieces : List ℕ) (cost : ℕ) → IsCutFrom groups first (f ∷ g ∷ pieces) → IsCost system groups (f ∷ g ∷ pieces) cost
      → CostParts f g pieces cost
  cost_parts first f g pieces cost cut costs = values_parts first f g pieces costs.values cost cut costs.one_a_piece costs.each costs.cost_is

-- a piece before a cut of the rest
pub cut_joined : (groups : List Group) (f g : ℕ) (pieces : List ℕ) → f < g → IsCutFrom groups g pieces → IsCutFrom groups f (f ∷ pieces)
cut_joined groups f g [] up cut = absurd (omega (arith, cut.some))
cut_joined groups f g (h ∷ pieces) up cut = record { some = omega arith; begins = refl; rising = rising }
  where
    rising : (k : ℕ) → k < length (f ∷ h ∷ pieces) → slice_index (f ∷ h ∷ pieces) k < end_of_piece groups (f ∷ h ∷ pieces) k
    rising zero lt = omega (arith, up, cut.begins)
    rising (suc k) lt = cut.rising k (omega (arith, lt))

pub cost_joined : (system : System) (groups : List Group) (f g : ℕ) (pieces : List ℕ) (value rest : ℕ) → IsValue system (part groups f g) value
    → IsCutFrom groups g pieces → IsCost system groups pieces rest → 1 ≤ rest → IsCost system groups (f ∷ pieces) (value + (rest - 1))
cost_joined system groups f g [] value rest is_value cut costs some = absurd (omega (arith, cut.some))
cost_joined system groups f g (h ∷ pieces) value rest is_value cut costs some = record {
  values = value ∷ costs.values;
  one_a_piece = omega (arith, costs.one_a_piece);
  each = each;
  cost_is = omega (arith, costs.cost_is, some, sum_by-cons (λ (x : ℕ). x) value costs.values);
}
  where
    each : (k : ℕ) → k < length (f ∷ h ∷ pieces) → IsValue system (piece_groups groups (f ∷ h ∷ pieces) k) (slice_index (value ∷ costs.values) k)
    each zero lt = subst (λ n. IsValue system (part groups f n) value) (sym cut.begins) is_value
    each (suc k) lt = costs.each k (omega (arith, lt))

-- one piece alone
pub cut_alone : (groups : List Group) (f : ℕ) → f < length groups → IsCutFrom groups f (f ∷ [])
cut_alone groups f within = record { some = omega arith; begins = refl; rising = rising }
  where
    rising : (k : ℕ) → k < length (f ∷ []) → slice_index (f ∷ []) k < end_of_piece groups (f ∷ []) k
    rising zero lt = within
    rising (suc k) lt = absurd (omega (arith, lt))

pub cost_alone : (system : System) (groups : List Group) (f value : ℕ) → IsValue system (part groups f (length groups)) value
    → IsCost system groups (f ∷ []) value
cost_alone system groups f value is_value = record {
  values = value ∷ [];
  one_a_piece = refl;
  each = each;
  cost_is = omega (arith, sum_by-cons (λ (x : ℕ). x) value []);
}
  where
    each : (k : ℕ) → k < length (f ∷ []) → IsValue system (piece_groups groups (f ∷ []) k) (slice_index (value ∷ []) k)
    each zero lt = is_value
    each (suc k) lt = absurd (omega (arith, lt))

-- and what it costs is its value
pub alone_costs : (system : System) (groups : List Group) (f cost : ℕ) → IsCost system groups (f ∷ []) cost
    → IsValue system (part groups f (length groups)) cost
alone_costs system groups f cost costs = of costs.values costs.one_a_piece costs.each costs.cost_is
  where
    of : (values : List ℕ) → length values ≡ length (f ∷ [])
        → ((k : ℕ) → k < length (f ∷ []) → IsValue system (piece_groups groups (f ∷ []) k) (slice_index values k))
        → cost + (length (f ∷ []) - 1) ≡ sum values → IsValue system (part groups f (length groups)) cost
    of [] as_many each is = absurd (omega (arith, as_many))
    of (v ∷ []) as_many each is =
        let same : v ≡ cost = omega (arith, is, sum_by-cons (λ (x : ℕ). x) v []) in
        subst (λ n. IsValue system (part groups f (length groups)) n) same (each 0 (omega arith))
    of (v ∷ w ∷ values) as_many each is = absurd (omega (arith, as_many))
