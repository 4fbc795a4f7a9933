-- What the bars of a list of items show, and where they lie.
use Rattle.std.specs.Prelude.{◌≡◌, ℕ, Option, Some, None, ◌+◌, ◌<◌, ◌≤◌, List, [], ◌∷◌, length, slice_get, unwrap_or, All, AllPairs, Any, Contains}
use Rattle.std.specs.List.{flat_map}
use Rattle.cl_picture.specs.{declared.{window.Window.Window, item.{Item.Item, End.End, Bar.Bar}}, Window.high_of}

-- ---- items

-- each item has ticks
abbrev pub HaveTicks : List Item → Type 0
HaveTicks items = All (λ item. item.from < item.to) items

-- items end in order
abbrev pub EndInOrder : List Item → Type 0
EndInOrder items = AllPairs (λ one other. one.to ≤ other.to) items

-- no two items share a tick, and they are in order
abbrev pub FollowEachOther : List Item → Type 0
FollowEachOther items = AllPairs (λ one other. one.to ≤ other.from) items

-- ---- where bars lie

-- bars lie side by side: none overlaps another, each is a whole unit wide or more, and all lie within the rows
pub record LieSideBySide (bars : List Bar) : Type 0 where
  pub apart : AllPairs (λ one other. one.right ≤ other.left) bars
  pub wide : All (λ bar. bar.left + 10 ≤ bar.right) bars
  pub least : All (λ bar. 2000 ≤ bar.left) bars
  pub most : All (λ bar. bar.right ≤ 11600) bars

-- a place lies under a bar
pub record IsUnder (bars : List Bar) (place : ℕ) : Type 0 where
  pub bar : Bar
  pub among : Contains bars bar
  pub left : bar.left ≤ place
  pub right : place < bar.right

-- ---- which items bars show

-- the end of an item
abbrev pub item_end : Item → End
item_end item = record { job = item.job; to = item.to }

-- the end of the last of some items
abbrev pub last_end : List Item → Option End
last_end [] = None
last_end (item ∷ items) = Some (unwrap_or (last_end items) (item_end item))

-- a bar shows some items, the first of them and others: it names the first and the end of the last, ends in the unit in
-- which each of them ends, and has the greatest of their kinds
pub record IsBarOf (window : Window) (first : Item) (others : List Item) (bar : Bar) : Type 0 where
  pub first_is : bar.first ≡ first
  pub last_is : bar.last ≡ last_end others
  pub right : All (λ item. high_of window item.to ≡ bar.right) (first ∷ others)
  pub kind_most : All (λ item. item.kind ≤ bar.kind) (first ∷ others)
  pub kind_of_one : Any (λ item. item.kind ≡ bar.kind) (first ∷ others)

-- a first item and the others behind it
pub record ItemGroup : Type 0 where
  pub first : Item
  pub others : List Item

abbrev pub all_items : ItemGroup → List Item
all_items group = group.first ∷ group.others

-- the bars show the items in order, each item once: the items are groups one after the other, and each bar is that of one
pub record AreBarsOf (window : Window) (items : List Item) (bars : List Bar) : Type 0 where
  pub groups : List ItemGroup
  pub in_order : flat_map all_items groups ≡ items
  pub one_a_group : length bars ≡ length groups
  pub each : (k : ℕ) (group : ItemGroup) (bar : Bar) → slice_get groups k ≡ Some group → slice_get bars k ≡ Some bar → IsBarOf window group.first group.others bar
