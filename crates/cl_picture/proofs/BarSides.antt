-- Bars lie side by side, and items lie under them.
use Rattle.std.proofs.Common.{◌≡◌, ◌≢◌, ℕ, suc, ◌+◌, ◌<◌, ◌≤◌, Bool, true, false, if◌then◌else◌, inl, inr, Some, None, List, [], ◌∷◌, refl, sym, arith}
use Rattle.std.specs.Prelude.{All, AllPairs, filter, ◌==◌}
use Rattle.std.proofs.lemmas.Bool.{cases_lt, eqb-true, eqb-false}
use Rattle.std.proofs.lemmas.List.Elements.{All-nil, All-cons, All-head, All-tail, All-filter, filter_passes, Contains-append_right}
use Rattle.std.proofs.lemmas.List.Kept.{AllPairs-cons, AllPairs-filter}
use Rattle.cl_picture.specs.{declared.{window.Window.Window, item.{Item.Item, Bar.Bar}}, Window.{low_of, high_of}, Bars.{counts, bar_of, joined_bar, bars_from, bars}, Shown.{HaveTicks, EndInOrder, FollowEachOther, LieSideBySide, IsUnder}}
use Rattle.cl_picture.proofs.Units.{low_mono, high_near, low_least, high_most, high_apart, unit_wide}

-- what is so of either choice is so of the one that is made
pub choose : {X : Type 0} (P : X → Type 0) (b : Bool) (x y : X) → (b ≡ true → P x) → (b ≡ false → P y) → P (if b then x else y)
choose P true x y one other = one refl
choose P false x y one other = other refl

-- pairs of a list with a first item
pub pairs_head : {X : Type 0} (R : X → X → Type 0) (x : X) (xs : List X) → AllPairs R (x ∷ xs) → All (R x) xs
pairs_head R x xs pairs = λ k d within. pairs 0 (suc k) d (omega arith) (omega (arith, within))

pub pairs_tail : {X : Type 0} (R : X → X → Type 0) (x : X) (xs : List X) → AllPairs R (x ∷ xs) → AllPairs R xs
pairs_tail R x xs pairs = λ i j d before within. pairs (suc i) (suc j) d (omega (arith, before)) (omega (arith, within))

pairs_nil : {X : Type 0} (R : X → X → Type 0) → AllPairs R []
pairs_nil R = λ i j d before within. absurd (omega (arith, within))

-- what is so of each item by what was so of it
pub weaker : {X : Type 0} (P Q : X → Type 0) (xs : List X) → ((x : X) → P x → Q x) → All P xs → All Q xs
weaker P Q xs from each = λ k d within. from _ (each k d within)

abbrev EndsBy : Item → Item → Type 0
EndsBy one other = one.to ≤ other.to

abbrev EndsBefore : Item → Item → Type 0
EndsBefore one other = one.to ≤ other.from

abbrev HasTicks : Item → Type 0
HasTicks item = item.from < item.to

abbrev IsLeftOf : Bar → Bar → Type 0
IsLeftOf one other = one.right ≤ other.left

module _ (window : Window) (ordered : window.from < window.to) where
  abbrev Counts : Item → Type 0
  Counts item = counts window item ≡ true

  -- a bar whose last item ends at a tick
  record IsBarTo (bar : Bar) (last : ℕ) : Type 0 where
    right_is : bar.right ≡ high_of window last
    wide : bar.left + 10 ≤ bar.right
    least : 2000 ≤ bar.left

  -- a first bar
  bar_alone : (item : Item) → Counts item → HasTicks item → IsBarTo (bar_of window 0 item) item.to
  bar_alone item is ticks = record {
    right_is = refl;
    wide = omega (arith, unit_wide window ordered item is ticks);
    least = omega (arith, low_least window ordered item.from);
  }

  bar_joined : (bar : Bar) (item : Item) (last : ℕ) → IsBarTo bar last → high_of window item.to ≡ bar.right → IsBarTo (joined_bar bar item) item.to
  bar_joined bar item last is same = record { right_is = sym same; wide = is.wide; least = is.least }

  -- a bar behind another
  bar_next : (bar : Bar) (item : Item) (last : ℕ) → IsBarTo bar last → last ≤ item.to → high_of window item.to ≢ bar.right → Counts item → HasTicks item
      → IsBarTo (bar_of window bar.right item) item.to
  bar_next bar item last is later other counted ticks =
      let apart : high_of window last + 10 ≤ high_of window item.to = high_apart window ordered last item.to later (λ same. other (omega (arith, same, is.right_is))) in
      record {
        right_is = refl;
        wide = omega (arith, unit_wide window ordered item counted ticks, apart, is.right_is);
        least = omega (arith, low_least window ordered item.from);
      }

  -- ---- side by side

  -- bars from a place on
  record AreFrom (left : ℕ) (bars : List Bar) : Type 0 where
    sides : LieSideBySide bars
    from : All (λ (bar : Bar). left ≤ bar.left) bars

  bar_last : (bar : Bar) (last : ℕ) → IsBarTo bar last → AreFrom bar.left (bar ∷ [])
  bar_last bar last is = record {
    sides = record {
      apart = AllPairs-cons IsLeftOf bar [] (All-nil (IsLeftOf bar)) (pairs_nil IsLeftOf);
      wide = All-cons (λ (b : Bar). b.left + 10 ≤ b.right) bar [] is.wide (All-nil (λ (b : Bar). b.left + 10 ≤ b.right));
      least = All-cons (λ (b : Bar). 2000 ≤ b.left) bar [] is.least (All-nil (λ (b : Bar). 2000 ≤ b.left));
      most = All-cons (λ (b : Bar). b.right ≤ 11600) bar [] (omega (arith, is.right_is, high_most window ordered last)) (All-nil (λ (b : Bar). b.right ≤ 11600));
    };
    from = All-cons (λ (b : Bar). bar.left ≤ b.left) bar [] (omega arith) (All-nil (λ (b : Bar). bar.left ≤ b.left));
  }

  bar_more : (bar : Bar) (last left : ℕ) (bs : List Bar) → IsBarTo bar last → bar.right ≤ left → AreFrom left bs → AreFrom bar.left (bar ∷ bs)
  bar_more bar last left bs is behind are = record {
    sides = record {
      apart = AllPairs-cons IsLeftOf bar bs (weaker (λ (b : Bar). left ≤ b.left) (IsLeftOf bar) bs (λ b from. omega (arith, from, behind)) are.from) are.sides.apart;
      wide = All-cons (λ (b : Bar). b.left + 10 ≤ b.right) bar bs is.wide are.sides.wide;
      least = All-cons (λ (b : Bar). 2000 ≤ b.left) bar bs is.least are.sides.least;
      most = All-cons (λ (b : Bar). b.right ≤ 11600) bar bs (omega (arith, is.right_is, high_most window ordered last)) are.sides.most;
    };
    from = All-cons (λ (b : Bar). bar.left ≤ b.left) bar bs (omega arith)
        (weaker (λ (b : Bar). left ≤ b.left) (λ (b : Bar). bar.left ≤ b.left) bs (λ b from. omega (arith, from, behind, is.wide)) are.from);
  }

  sides_from : (bar : Bar) (last : ℕ) (items : List Item) → IsBarTo bar last → All (λ (item : Item). last ≤ item.to) items → AllPairs EndsBy items
      → All HasTicks items → All Counts items → AreFrom bar.left (bars_from window (Some bar) items)
  sides_from bar last [] is later order ticks counted = bar_last bar last is
  sides_from bar last (item ∷ items) is later order ticks counted =
      let next_ticks = All-tail HasTicks item items ticks in
      let next_counted = All-tail Counts item items counted in
      let next_later = pairs_head EndsBy item items order in
      let next_order = pairs_tail EndsBy item items order in
      choose (AreFrom bar.left) (high_of window item.to == bar.right)
      (bars_from window (Some (joined_bar bar item)) items) (bar ∷ bars_from window (Some (bar_of window bar.right item)) items)
      (λ same. sides_from (joined_bar bar item) item.to items (bar_joined bar item last is (eqb-true (high_of window item.to) bar.right same)) next_later next_order next_ticks next_counted)
      (λ other.
      let next = bar_next bar item last is (All-head (λ (i : Item). last ≤ i.to) item items later) (eqb-false (high_of window item.to) bar.right other)
      (All-head Counts item items counted) (All-head HasTicks item items ticks) in
      bar_more bar last (bar_of window bar.right item).left (bars_from window (Some (bar_of window bar.right item)) items) is (omega arith)
      (sides_from (bar_of window bar.right item) item.to items next next_later next_order next_ticks next_counted))

  no_bars : LieSideBySide []
  no_bars = record {
    apart = pairs_nil IsLeftOf;
    wide = All-nil (λ (b : Bar). b.left + 10 ≤ b.right);
    least = All-nil (λ (b : Bar). 2000 ≤ b.left);
    most = All-nil (λ (b : Bar). b.right ≤ 11600);
  }

  sides_of : (items : List Item) → AllPairs EndsBy items → All HasTicks items → All Counts items → LieSideBySide (bars_from window None items)
  sides_of [] order ticks counted = no_bars
  sides_of (item ∷ items) order ticks counted =
      (sides_from (bar_of window 0 item) item.to items (bar_alone item (All-head Counts item items counted) (All-head HasTicks item items ticks))
      (pairs_head EndsBy item items order) (pairs_tail EndsBy item items order) (All-tail HasTicks item items ticks) (All-tail Counts item items counted)).sides

  pub side_by_side : (items : List Item) → EndInOrder items → HaveTicks (filter (counts window) items) → LieSideBySide (bars window items)
  side_by_side items order ticks = sides_of (filter (counts window) items) (AllPairs-filter EndsBy (counts window) items order) ticks (filter_passes (counts window) items)

  -- ---- under bars

  under_head : (bar : Bar) (bs : List Bar) (place : ℕ) → bar.left ≤ place → place < bar.right → IsUnder (bar ∷ bs) place
  under_head bar bs place left right = record { bar = bar; among = (0, omega arith, refl); left = left; right = right }

  under_tail : (bar : Bar) (bs : List Bar) (place : ℕ) → IsUnder bs place → IsUnder (bar ∷ bs) place
  under_tail bar bs place under = record { bar = under.bar; among = Contains-append_right (bar ∷ []) bs under.bar under.among; left = under.left; right = under.right }

  under_bar : (bar : Bar) (items : List Item) (place : ℕ) → bar.left ≤ place → place < bar.right → IsUnder (bars_from window (Some bar) items) place
  under_bar bar [] place left right = under_head bar [] place left right
  under_bar bar (item ∷ items) place left right = choose (λ bs. IsUnder bs place) (high_of window item.to == bar.right)
      (bars_from window (Some (joined_bar bar item)) items) (bar ∷ bars_from window (Some (bar_of window bar.right item)) items)
      (λ same. under_bar (joined_bar bar item) items place left right)
      (λ other. under_head bar (bars_from window (Some (bar_of window bar.right item)) items) place left right)

  -- all of an item lies under bars
  abbrev LiesUnder : List Bar → Item → Type 0
  LiesUnder bs item = (place : ℕ) → low_of window item.from ≤ place → place < high_of window item.to → IsUnder bs place

  -- what isn't under the own bar of an item is under the bar before it
  reached : (bar : Bar) (last from place : ℕ) → IsBarTo bar last → last ≤ from → low_of window from ≤ place → bar.left ≤ place
  reached bar last from place is later within =
      omega (arith, is.right_is, is.wide, high_near window ordered last, low_mono window ordered last from later, within)

  own_joined : (bar : Bar) (last : ℕ) (item : Item) (items : List Item) → IsBarTo bar last → last ≤ item.from → high_of window item.to ≡ bar.right
      → LiesUnder (bars_from window (Some (joined_bar bar item)) items) item
  own_joined bar last item items is later same place left right =
      under_bar (joined_bar bar item) items place (reached bar last item.from place is later left) (omega (arith, right, same))

  own_next : (bar : Bar) (last : ℕ) (item : Item) (items : List Item) → IsBarTo bar last → last ≤ item.from
      → LiesUnder (bar ∷ bars_from window (Some (bar_of window bar.right item)) items) item
  own_next bar last item items is later place left right = elim (cases_lt place bar.right) [
    | inl before ↦ under_head bar (bars_from window (Some (bar_of window bar.right item)) items) place (reached bar last item.from place is later left) before
    | inr behind ↦ under_tail bar (bars_from window (Some (bar_of window bar.right item)) items) place
        (under_bar (bar_of window bar.right item) items place (omega (arith, left, behind)) right)
  ]

  items_under : (bar : Bar) (last : ℕ) (items : List Item) → IsBarTo bar last → All (λ (item : Item). last ≤ item.from) items → AllPairs EndsBefore items
      → All HasTicks items → All Counts items → All (LiesUnder (bars_from window (Some bar) items)) items
  items_under bar last [] is later order ticks counted = All-nil (LiesUnder (bar ∷ []))
  items_under bar last (item ∷ items) is later order ticks counted =
      let next_ticks = All-tail HasTicks item items ticks in
      let next_counted = All-tail Counts item items counted in
      let next_later = pairs_head EndsBefore item items order in
      let next_order = pairs_tail EndsBefore item items order in
      let begins = All-head (λ (i : Item). last ≤ i.from) item items later in
      let has = All-head HasTicks item items ticks in
      choose (λ bs. All (LiesUnder bs) (item ∷ items)) (high_of window item.to == bar.right)
      (bars_from window (Some (joined_bar bar item)) items) (bar ∷ bars_from window (Some (bar_of window bar.right item)) items)
      (λ same.
      let ends = eqb-true (high_of window item.to) bar.right same in
      All-cons (LiesUnder (bars_from window (Some (joined_bar bar item)) items)) item items (own_joined bar last item items is begins ends)
      (items_under (joined_bar bar item) item.to items (bar_joined bar item last is ends) next_later next_order next_ticks next_counted))
      (λ other.
      let more = bars_from window (Some (bar_of window bar.right item)) items in
      let next = bar_next bar item last is (omega (arith, begins, has)) (eqb-false (high_of window item.to) bar.right other) (All-head Counts item items counted) has in
      All-cons (LiesUnder (bar ∷ more)) item items (own_next bar last item items is begins)
      (weaker (LiesUnder more) (LiesUnder (bar ∷ more)) items (λ i under place left right. under_tail bar more place (under place left right))
      (items_under (bar_of window bar.right item) item.to items next next_later next_order next_ticks next_counted)))

  under_of : (items : List Item) → AllPairs EndsBefore items → All HasTicks items → All Counts items → All (LiesUnder (bars_from window None items)) items
  under_of [] order ticks counted = All-nil (LiesUnder [])
  under_of (item ∷ items) order ticks counted =
      let bar : Bar = bar_of window 0 item in
      All-cons (LiesUnder (bars_from window (Some bar) items)) item items
      (λ place left right. under_bar bar items place (omega (arith, left)) right)
      (items_under bar item.to items (bar_alone item (All-head Counts item items counted) (All-head HasTicks item items ticks))
      (pairs_head EndsBefore item items order) (pairs_tail EndsBefore item items order) (All-tail HasTicks item items ticks) (All-tail Counts item items counted))

  pub lie_under : (items : List Item) → FollowEachOther items → HaveTicks items → All (LiesUnder (bars window items)) (filter (counts window) items)
  lie_under items order ticks = under_of (filter (counts window) items) (AllPairs-filter EndsBefore (counts window) items order)
      (All-filter (counts window) HasTicks items ticks) (filter_passes (counts window) items)
