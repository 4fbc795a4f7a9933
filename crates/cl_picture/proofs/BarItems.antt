-- Each bar shows some items one after the other.
use Rattle.std.proofs.Common.{◌≡◌, ℕ, zero, suc, ◌≤◌, inl, inr, Option, Some, None, List, [], ◌∷◌, ◌++◌, refl, sym, ap, subst, ◌∙◌, arith, append_assoc, length-append}
use Rattle.std.specs.Prelude.{Any, filter, ◌==◌, max, slice_get, unwrap_or}
use Rattle.std.proofs.lemmas.Bool.{cases_lt, eqb-true}
use Rattle.std.proofs.lemmas.List.{append-nil, get_or_append_left}
use Rattle.std.proofs.lemmas.List.Elements.{All-nil, All-cons, All-append}
use Rattle.std.proofs.lemmas.List.Quantifiers.{Any-push}
use Rattle.cl_picture.specs.{declared.{window.Window.Window, item.{Item.Item, Bar.Bar, End.End}}, Window.high_of, Bars.{counts, bar_of, joined_bar, bars_from, bars}, Shown.{item_end, last_end, IsBarOf, ItemGroup, AreBarsOf}}
use Rattle.cl_picture.proofs.BarSides.{choose, weaker}

last_end-push : (items : List Item) (item : Item) → last_end (items ++ item ∷ []) ≡ Some (item_end item)
last_end-push [] item = refl
last_end-push (one ∷ items) item = ap (λ (o : Option End). Some (unwrap_or o (item_end one))) (last_end-push items item)

none_some : {X : Type 0} (x : X) → None ≡ Some x → ⊥
none_some x same = cc

abbrev group_of : Item → List Item → ItemGroup
group_of first others = record { first = first; others = others }

module _ (window : Window) where
  abbrev EndsIn : (right : ℕ) → Item → Type 0
  EndsIn right item = high_of window item.to ≡ right

  abbrev HasKind : (kind : ℕ) → Item → Type 0
  HasKind kind item = item.kind ≤ kind

  -- a bar of one item
  bar_of_one : (floor : ℕ) (item : Item) → IsBarOf window item [] (bar_of window floor item)
  bar_of_one floor item = record {
    first_is = refl;
    last_is = refl;
    right = All-cons (EndsIn (high_of window item.to)) item [] refl (All-nil (EndsIn (high_of window item.to)));
    kind_most = All-cons (HasKind item.kind) item [] (omega arith) (All-nil (HasKind item.kind));
    kind_of_one = (0, item, omega arith, refl, refl);
  }

  -- a bar with an item more
  module _ (first : Item) (others : List Item) (bar : Bar) (is : IsBarOf window first others bar) (item : Item) (same : high_of window item.to ≡ bar.right) where
    kinds : Any (λ (i : Item). i.kind ≡ max bar.kind item.kind) ((first ∷ others) ++ item ∷ [])
    kinds = elim (cases_lt bar.kind item.kind) [
      | inl more ↦ Any-push (λ (i : Item). i.kind ≡ max bar.kind item.kind) (first ∷ others) item (omega (arith, more))
      | inr not ↦
          let one = is.kind_of_one in (
            one.0,
            one.1,
            omega (arith, one.2, length-append (first ∷ others) (item ∷ [])),
            get_or_append_left (first ∷ others) (item ∷ []) one.1 one.0 one.2 ∙ one.3,
            omega (arith, not, one.4),
          )
    ]

    bar_of_more : IsBarOf window first (others ++ item ∷ []) (joined_bar bar item)
    bar_of_more = record {
      first_is = is.first_is;
      last_is = sym (last_end-push others item);
      right = All-append (EndsIn bar.right) (first ∷ others) (item ∷ []) is.right (All-cons (EndsIn bar.right) item [] same (All-nil (EndsIn bar.right)));
      kind_most = All-append (HasKind (max bar.kind item.kind)) (first ∷ others) (item ∷ [])
          (weaker (HasKind bar.kind) (HasKind (max bar.kind item.kind)) (first ∷ others) (λ i most. omega (arith, most)) is.kind_most)
          (All-cons (HasKind (max bar.kind item.kind)) item [] (omega arith) (All-nil (HasKind (max bar.kind item.kind))));
      kind_of_one = kinds;
    }

  -- ---- one bar after the other

  groups_last : (first : Item) (others : List Item) (bar : Bar) → IsBarOf window first others bar → AreBarsOf window (first ∷ others) (bar ∷ [])
  groups_last first others bar is = record {
    groups = group_of first others ∷ [];
    in_order = append-nil (first ∷ others);
    one_a_group = refl;
    each = only;
  }
    where
      only : (k : ℕ) (g : ItemGroup) (b : Bar) → slice_get (group_of first others ∷ []) k ≡ Some g → slice_get (bar ∷ []) k ≡ Some b → IsBarOf window g.first g.others b
      only zero g b is_group is_bar =
          let same_group : group_of first others ≡ g = cc in
          let same_bar : bar ≡ b = cc in
          subst (λ (h : ItemGroup). IsBarOf window h.first h.others b) same_group (subst (IsBarOf window first others) same_bar is)
      only (suc k) g b is_group is_bar = absurd (none_some b is_bar)

  groups_more : (first : Item) (others items : List Item) (bar : Bar) (bs : List Bar) → IsBarOf window first others bar → AreBarsOf window items bs
      → AreBarsOf window (first ∷ others ++ items) (bar ∷ bs)
  groups_more first others items bar bs is are = record {
    groups = group_of first others ∷ are.groups;
    in_order = ap (λ (xs : List Item). first ∷ others ++ xs) are.in_order;
    one_a_group = ap suc are.one_a_group;
    each = each;
  }
    where
      each : (k : ℕ) (g : ItemGroup) (b : Bar) → slice_get (group_of first others ∷ are.groups) k ≡ Some g → slice_get (bar ∷ bs) k ≡ Some b → IsBarOf window g.first g.others b
      each zero g b is_group is_bar =
          let same_group : group_of first others ≡ g = cc in
          let same_bar : bar ≡ b = cc in
          subst (λ (h : ItemGroup). IsBarOf window h.first h.others b) same_group (subst (IsBarOf window first others) same_bar is)
      each (suc k) g b is_group is_bar = are.each k g b is_group is_bar

  groups_from : (first : Item) (others : List Item) (bar : Bar) (items : List Item) → IsBarOf window first others bar
      → AreBarsOf window (first ∷ others ++ items) (bars_from window (Some bar) items)
  groups_from first others bar [] is = subst (λ (xs : List Item). AreBarsOf window xs (bar ∷ [])) (sym (append-nil (first ∷ others))) (groups_last first others bar is)
  groups_from first others bar (item ∷ items) is = choose (AreBarsOf window (first ∷ others ++ item ∷ items)) (high_of window item.to == bar.right)
      (bars_from window (Some (joined_bar bar item)) items) (bar ∷ bars_from window (Some (bar_of window bar.right item)) items)
      (λ same. subst (λ (xs : List Item). AreBarsOf window xs (bars_from window (Some (joined_bar bar item)) items)) (append_assoc (first ∷ others) (item ∷ []) items)
      (groups_from first (others ++ item ∷ []) (joined_bar bar item) items
      (bar_of_more first others bar is item (eqb-true (high_of window item.to) bar.right same))))
      (λ other. groups_more first others (item ∷ items) bar (bars_from window (Some (bar_of window bar.right item)) items) is
      (groups_from item [] (bar_of window bar.right item) items (bar_of_one bar.right item)))

  no_groups : AreBarsOf window [] []
  no_groups = record { groups = []; in_order = refl; one_a_group = refl; each = λ k g b is_group is_bar. absurd (none_some b is_bar) }

  groups_of : (items : List Item) → AreBarsOf window items (bars_from window None items)
  groups_of [] = no_groups
  groups_of (item ∷ items) = groups_from item [] (bar_of window 0 item) items (bar_of_one 0 item)

  pub bars_are : (items : List Item) → AreBarsOf window (filter (counts window) items) (bars window items)
  bars_are items = groups_of (filter (counts window) items)
