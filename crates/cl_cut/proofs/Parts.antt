-- Parts of lists: their length and their items.
use Rattle.std.proofs.Common.{◌≡◌, ℕ, ◌+◌, ◌-◌, ◌<◌, ◌≤◌, List, length, get_or, drop, sym, ◌∙◌, subst, arith}
use Rattle.std.specs.Prelude.{All}
use Rattle.std.proofs.lemmas.List.{length-take, length-drop, get_or-take, get_or-drop, take_rest}
use Rattle.cl_cut.specs.Values.{part}

module _ {X : Type 0} (items : List X) (first next : ℕ) where
  -- as many items as lie between, where the list has so many
  pub length-part : next ≤ length items → length (part items first next) ≡ next - first
  unfolding part
  length-part within = omega (arith, within, length-take (next - first) (drop first items), length-drop first items)

  pub part_within : (k : ℕ) → k < length (part items first next) → (k < next - first) × (first + k < length items)
  unfolding part
  part_within k lt =
      let one = length-take (next - first) (drop first items) in
      let other = length-drop first items in
      (omega (arith, lt, one, other), omega (arith, lt, one, other))

  pub get_or-part : (k : ℕ) (d : X) → k < next - first → get_or (part items first next) k d ≡ get_or items (first + k) d
  unfolding part
  get_or-part k d lt = get_or-take (next - first) (drop first items) k d lt ∙ get_or-drop first items k d

  -- what holds of all items holds of those of a part
  pub All-part : (P : X → Type 0) → All P items → All P (part items first next)
  All-part P all k d lt =
      let (near, within) = part_within k lt in
      subst P (sym (get_or-part k d near)) (all (first + k) d within)

-- the part up to the end
pub part_rest : {X : Type 0} (items : List X) (first : ℕ) → part items first (length items) ≡ drop first items
unfolding part
part_rest items first = take_rest items first
