-- Which runnable of a hop lacks the label that the hop names.
use Rattle.std.specs.Prelude.{ℕ, Bool, true, false, List, ◌++◌, Option, Some, None, codes}
use Rattle.std.specs.Option.{option_and_then}
use Rattle.cl_model.specs.{declared.{place.Place.Place, chain.ChainDef.ChainDef, task.RunnableDef.RunnableDef, model.SystemModel.SystemModel}, Named.has_name}
use Rattle.cl_advice.specs.{declared.with.Sought.TheVariants.Named, With.{item_if, step_name, found_by}}

-- a runnable of the hop at a place, the writer (0) or the reader (1), and the label
abbrev pub runnable_of_hop : SystemModel → Place → (behind : ℕ) → Option RunnableDef
runnable_of_hop model place behind = option_and_then (found_by model Named) (step_name model place behind)

abbrev pub label_of_hop : SystemModel → Place → Option (List ℕ)
label_of_hop model place = option_and_then (λ (chain : ChainDef). item_if chain.labels place.spot) (item_if model.chains place.item)

-- what to write: the runnable that lacks the label is to have it, or another label is to be named
unfoldable pub lacking_words : (lacking verb label writer reader : List ℕ) → List ℕ
lacking_words lacking verb label writer reader =
    codes "let " ++ lacking ++ verb ++ label ++ codes ", or name a label that " ++ writer ++ codes " writes and " ++ reader ++ codes " reads"

-- where the writer alone lacks it, and where the reader alone does
abbrev pub lacking_one : (writer reader label : List ℕ) (written read : Bool) → Option (List ℕ)
lacking_one writer reader label false true = Some (lacking_words writer (codes " write ") label writer reader)
lacking_one writer reader label true false = Some (lacking_words reader (codes " read ") label writer reader)
lacking_one writer reader label _ _ = None

abbrev pub lacking_between : (label : List ℕ) → (writer reader : RunnableDef) → Option (List ℕ)
lacking_between label writer reader = lacking_one writer.name reader.name label (has_name label writer.writes) (has_name label reader.reads)

-- of the hop at a place
abbrev pub lacking_text : SystemModel → Place → Option (List ℕ)
lacking_text model place =
    option_and_then (λ label. option_and_then (λ writer. option_and_then (lacking_between label writer)
    (runnable_of_hop model place 1)) (runnable_of_hop model place 0)) (label_of_hop model place)
