-- A bar says the first and the last of its items.
use Rattle.std.proofs.Common.{◌≡◌, ℕ, Option, Some, List, [], ◌∷◌, ◌++◌, refl, ap, ◌∙◌}
use Rattle.std.specs.Prelude.{unwrap_or, codes}
use Rattle.cl_model.specs.declared.task.TaskDef.{TaskDef}
use Rattle.cl_picture.specs.{declared.{item.{Item.Item, Bar.Bar, End.End}, window.Window.Window}, Pieces.{Fixed, Element}, Shown.{item_end, last_end, IsBarOf}}
use Rattle.cl_draw.specs.{RowLines.{words_pieces, bar_head, bar_line}, Hovers.{last_item, hover_pieces, bar_shape}}

last_is : (item : Item) (items : List Item) → last_end (item ∷ items) ≡ Some (item_end (last_item item items))
last_is item [] = refl
last_is item (next ∷ items) = ap (λ (o : Option End). Some (unwrap_or o (item_end item))) (last_is next items)

-- a bar with what it says of some items
abbrev says : (opening : List ℕ) → TaskDef → Bar → Item → Option End → Element
says opening task bar first last =
    bar_head opening task (record bar { first = first }) ++ words_pieces task first last ++ Fixed (codes "</title></rect>") ∷ []

said : (opening : List ℕ) (task : TaskDef) (bar : Bar) (first : Item) (others : List Item)
    → says opening task bar first (last_end others) ≡ bar_shape opening bar ++ hover_pieces task first others ++ Fixed (codes "</title></rect>") ∷ []
said opening task bar first [] = refl
said opening task bar first (item ∷ items) = ap (says opening task bar first) (last_is item items)

pub bar_says : (window : Window) (opening : List ℕ) (task : TaskDef) (first : Item) (others : List Item) (bar : Bar) → IsBarOf window first others bar
    → bar_line opening task bar ≡ bar_shape opening bar ++ hover_pieces task first others ++ Fixed (codes "</title></rect>") ∷ []
unfolding bar_line
bar_says window opening task first others bar is =
    ap (λ (item : Item). says opening task bar item bar.last) is.first_is ∙ ap (says opening task bar first) is.last_is ∙ said opening task bar first others
