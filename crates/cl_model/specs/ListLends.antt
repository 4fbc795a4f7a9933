-- What a list ends as where one of its items is lent to be changed.
use Rattle.std.specs.Prelude.{ℕ, List, slice_set}
use Rattle.std.specs.Borrow.{Lends, Fml, RattleType, MutBor}
use Rattle.cl_model.specs.contracts.list.List.{the_row}

-- once the item's borrow ends, the list has the last value written there at that place, and the others as before
abbrev pub lends_item : (T : RattleType) → MutBor (List T.Denot) → (place : ℕ) → MutBor T.Denot → Fml
lends_item T list place item = Lends (the_row T) T list item (slice_set list.now place)
