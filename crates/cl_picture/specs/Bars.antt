-- The bars of a list of items.
use Rattle.std.specs.Prelude.{ℕ, Bool, Option, Some, None, ◌&&◌, ◌==◌, nat_lt, max, if◌then◌else◌, List, [], ◌∷◌, filter}
use Rattle.std.specs.Option.{option_to_list}
use Rattle.cl_picture.specs.{declared.{window.Window.Window, item.{Item.Item, Bar.Bar}}, Window.{low_of, high_of}}

-- only items that share a tick with the window count
abbrev pub counts : Window → Item → Bool
counts window item = nat_lt window.from item.to && nat_lt item.from window.to

-- the bar of an item alone: it doesn't begin to the left of a place, where the bar before it ends
abbrev pub bar_of : Window → (floor : ℕ) → Item → Bar
bar_of window floor item = record {
  left = max (low_of window item.from) floor;
  right = high_of window item.to;
  kind = item.kind;
  first = item;
  last = None;
}

-- a bar with a further item, of which it shows the greatest kind
abbrev pub joined_bar : Bar → Item → Bar
joined_bar bar item = record bar { kind = max bar.kind item.kind; last = Some (record { job = item.job; to = item.to }) }

-- the bars of items behind a bar: an item that ends in the same unit as the one before joins its bar
abbrev pub bars_from : Window → Option Bar → List Item → List Bar
bars_from window before [] = option_to_list before
bars_from window None (item ∷ items) = bars_from window (Some (bar_of window 0 item)) items
bars_from window (Some bar) (item ∷ items) =
    if high_of window item.to == bar.right
    then bars_from window (Some (joined_bar bar item)) items
    else (bar ∷ bars_from window (Some (bar_of window bar.right item)) items)

-- the bars of a list of items
abbrev pub bars : Window → List Item → List Bar
bars window items = bars_from window None (filter (counts window) items)
