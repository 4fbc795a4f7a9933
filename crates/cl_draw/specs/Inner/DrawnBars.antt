-- Which bars can be drawn.
use Rattle.std.specs.Prelude.{◌<◌, length}
use Rattle.cl_model.specs.declared.task.TaskDef.{TaskDef}
use Rattle.cl_picture.specs.declared.item.{Item.Item, Bar.Bar, Rest.Rest}
use Rattle.cl_picture.specs.declared.item.Rest.TheVariants as rest

-- the runnable that an item names is one of the task
abbrev pub IsRestOfTask : TaskDef → Rest → Type 0
IsRestOfTask task (rest.Part place) = place < length task.runnables
IsRestOfTask task (rest.Band arrival due finished) = Unit {0}

abbrev pub IsItemOfTask : TaskDef → Item → Type 0
IsItemOfTask task item = IsRestOfTask task item.rest

abbrev pub IsDrawableBar : TaskDef → Bar → Type 0
IsDrawableBar task bar = IsItemOfTask task bar.first
