-- What the bars of a row say of the items that they show.
use Rattle.std.specs.Prelude.{ℕ, ◌-◌, List, [], ◌∷◌, ◌++◌, codes}
use Rattle.cl_model.specs.declared.task.TaskDef.{TaskDef}
use Rattle.cl_picture.specs.{declared.item.{Item.Item, Bar.Bar}, Pieces.{Piece, Fixed, Number, Name}}
use Rattle.cl_draw.specs.RowLines.{rest_pieces}

-- the name of a job
abbrev pub job_pieces : TaskDef → (job : ℕ) → List Piece
job_pieces task job = Name task.name ∷ Fixed (codes ":") ∷ Number job ∷ []

-- what is said of several items: the names of the first and the last, and from when to when they last
abbrev pub several_pieces : TaskDef → (first last : Item) → List Piece
several_pieces task first last =
    job_pieces task first.job ++ Fixed (codes " to ") ∷ job_pieces task last.job
    ++ Fixed (codes " from ") ∷ Number first.from ∷ Fixed (codes " to ") ∷ Number last.to ∷ []

-- the last of an item and others behind it
abbrev pub last_item : Item → List Item → Item
last_item item [] = item
last_item item (next ∷ items) = last_item next items

-- what is said of an item and others behind it
abbrev pub hover_pieces : TaskDef → Item → List Item → List Piece
hover_pieces task item [] = job_pieces task item.job ++ rest_pieces task item item.rest
hover_pieces task item (next ∷ items) = several_pieces task item (last_item next items)

-- a bar up to what it says
abbrev pub bar_shape : (opening : List ℕ) → Bar → List Piece
bar_shape opening bar =
    Fixed opening ∷ Number bar.kind ∷ Fixed (codes "\" x=\"") ∷ Number bar.left ∷ Fixed (codes "\" y=\"90\" width=\"")
    ∷ Number (bar.right - bar.left) ∷ Fixed (codes "\" height=\"180\"><title>") ∷ []
