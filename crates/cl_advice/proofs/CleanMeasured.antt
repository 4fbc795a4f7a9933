-- What a number is measured against, the names that are known and the runnable that lacks a label are said in printable
-- ASCII.
use Rattle.std.proofs.Common.{ℕ, zero, suc, ◌/◌, ◌*◌, ◌-◌, Bool, true, false, List, [], ◌∷◌, ◌++◌, nat_le, nat_lt, length, map, take, flat_map, All, Option, Some, None, refl, sym, subst}
use Rattle.std.specs.List.{find}
use Rattle.std.specs.Option.{option_and_then}
use Rattle.std.specs.Prelude.{codes, decimal, IfSome}
use Rattle.std.proofs.lemmas.List.Concat.{flat_map-cons}
use Rattle.std.proofs.lemmas.List.Elements.{All-head, All-tail, All-nil, All-cons}
use Rattle.cl_text.specs.Line.{line}
use Rattle.cl_model.specs.declared.{chain.ChainDef.ChainDef, limits.TheConstants.MOST_DISTANCES, model.SystemModel.SystemModel, place.Place.Place, refusal.{Code.Code, Refusal.Refusal}, stimulus.{StimulusDef.StimulusDef, StimulusKind.{StimulusKind, TheVariants.{Periodic, Sporadic, Burst}}}}
use Rattle.cl_model.specs.{declared.task.{RunnableDef.RunnableDef, TaskDef.TaskDef}, AreNamed.{IsRunnableNamed, IsTaskNamed, IsChainNamed, AreNamed}, Name.IsName, Named.{has_name, all_runnables, core_names, stimulus_names, label_names, chain_names}, Timing.least_distance}
use Rattle.cl_model.specs.Timing.{greatest_jitter, deadline_under}
use Rattle.cl_model.specs.declared.refusal.Code.TheVariants as code
use Rattle.cl_advice.specs.{declared.{known.TheConstants.MOST_KNOWN, measured.Said.Said, with.Sought.TheVariants.Named}, With.{item_if, task_of_place, is_sought, found_by, step_name}, Measured.{said_if, below_period_line, offset_line, greatest_distance_line, fitting_text, burst_line}}
use Rattle.cl_advice.specs.Measured.{kind_for, said_by_kind, deadline_line, found_jitter_line, jitter_line, spans, span_line, spanned_line, greatest_time_line, lengths_line, stimulus_line, task_limit_line, line_of_stimulus, line_of_task, measured_by, measured_line, jitter_found}
use Rattle.cl_advice.specs.{Known.{more_text, known_names, known_by, known_line}, Hop.{runnable_of_hop, label_of_hop, lacking_words, lacking_one, lacking_between, lacking_text}}
use Rattle.cl_advice.specs.declared.measured.Said.TheVariants as said
use Rattle.cl_advice.proofs.{CleanWords.{Printed, printed_both, printed_chosen, printed_line, printed_name, printed_decimal}, CleanNames.{item, first_of, followed, runnables_named, step_named_at, chains_alone}}

-- ---- sentences

three : (a b c : List ℕ) → Printed a → Printed b → Printed c → Printed (a ++ b ++ c)
three a b c ha hb hc = printed_both (a ++ b) c (printed_both a b ha hb) hc

four : (a b c d : List ℕ) → Printed a → Printed b → Printed c → Printed d → Printed (a ++ b ++ c ++ d)
four a b c d ha hb hc hd = printed_both (a ++ b ++ c) d (three a b c ha hb hc) hd

five : (a b c d e : List ℕ) → Printed a → Printed b → Printed c → Printed d → Printed e → Printed (a ++ b ++ c ++ d ++ e)
five a b c d e ha hb hc hd he = printed_both (a ++ b ++ c ++ d) e (four a b c d ha hb hc hd) he

numbered : (before : List ℕ) (n : ℕ) (behind : List ℕ) → Printed before → Printed behind → Printed (line (before ++ decimal n ++ behind))
numbered before n behind h t = printed_line (before ++ decimal n ++ behind) (three before (decimal n) behind h (printed_decimal n) t)

numbered_name : (before : List ℕ) (n : ℕ) (middle name : List ℕ) → Printed before → Printed middle → IsName name
    → Printed (line (before ++ decimal n ++ middle ++ name))
numbered_name before n middle name h m named =
    printed_line (before ++ decimal n ++ middle ++ name) (four before (decimal n) middle name h (printed_decimal n) m (printed_name name named))

-- what is said of something that is so
said_so : {X : Type 0} (P : X → Type 0) (said : X → List ℕ) (o : Option X) → ((x : X) → P x → Printed (said x)) → IfSome o P → Printed (said_if said o)
said_so P said None holds h = refl
said_so P said (Some x) holds h = holds x h

-- and of anything
said_any : {X : Type 0} (said : X → List ℕ) (o : Option X) → ((x : X) → Printed (said x)) → Printed (said_if said o)
said_any said None holds = refl
said_any said (Some x) holds = holds x

-- ---- numbers

printed_below : (period : ℕ) (name : List ℕ) → IsName name → Printed (below_period_line period name)
printed_below period name named = numbered_name (codes "wanted a whole number below ") period (codes ", the period of ") name refl refl named

printed_offset : (stimulus : StimulusDef) (kind : StimulusKind) → IsName stimulus.name → Printed (offset_line stimulus kind)
printed_offset stimulus (Periodic period offset jitter) named = printed_below period stimulus.name named
printed_offset stimulus (Sporadic least greatest) named = refl
printed_offset stimulus (Burst period offset count distance) named = printed_below period stimulus.name named

printed_distance : (kind : StimulusKind) → Printed (greatest_distance_line kind)
printed_distance (Periodic period offset jitter) = refl
printed_distance (Sporadic least greatest) = numbered (codes "wanted at least ") least (codes ", the least distance") refl refl
printed_distance (Burst period offset count distance) = refl

printed_fitting : (period distance : ℕ) → Printed (fitting_text period distance)
printed_fitting period distance =
    printed_chosen (nat_le 2 (period / distance)) _ _
    (three (codes "a count of at most ") (decimal (period / distance)) (codes ", with this distance") refl (printed_decimal (period / distance)) refl)
    (printed_chosen (nat_le 2 period) _ _
    (three (codes "a distance of at most ") (decimal (period / 2)) (codes ", for a count of 2") refl (printed_decimal (period / 2)) refl) refl)

printed_burst : (kind : StimulusKind) → Printed (burst_line kind)
printed_burst (Periodic period offset jitter) = refl
printed_burst (Sporadic least greatest) = refl
printed_burst (Burst period offset count distance) =
    printed_line (codes "wanted " ++ fitting_text period distance) (printed_both (codes "wanted ") (fitting_text period distance) refl (printed_fitting period distance))

printed_stimulus : (c : Code) (stimulus : StimulusDef) → IsName stimulus.name → Printed (stimulus_line c stimulus)
printed_stimulus code.M27 stimulus named = printed_offset stimulus stimulus.kind named
printed_stimulus code.M28 stimulus named = printed_distance stimulus.kind
printed_stimulus code.M47 stimulus named = printed_burst stimulus.kind
printed_stimulus _ stimulus named = refl

printed_deadline : (task : TaskDef) (kind : StimulusKind) → IsTaskNamed task → Printed (deadline_line task kind)
unfolding deadline_line
printed_deadline task kind named = numbered_name (codes "wanted at most ") (least_distance kind) (codes ", the least distance of ") task.stimulus refl refl named.stimulus

printed_jitter : (task : TaskDef) (kind : StimulusKind) → IsTaskNamed task → Printed (jitter_line task kind)
unfolding jitter_line
printed_jitter task kind named = numbered_name (codes "wanted a jitter below ") (deadline_under kind task) (codes ", the deadline of ") task.name refl refl named.name

printed_found_jitter : (task : TaskDef) (kind : StimulusKind) → Printed (found_jitter_line task kind)
unfolding found_jitter_line
printed_found_jitter task kind =
    printed_line (codes "found " ++ decimal (greatest_jitter kind)) (printed_both (codes "found ") (decimal (greatest_jitter kind)) refl (printed_decimal (greatest_jitter kind)))

printed_span : (above : TaskDef) (kind : StimulusKind) → IsTaskNamed above → Printed (span_line above kind)
unfolding span_line
printed_span above kind named =
    let most : ℕ = MOST_DISTANCES * least_distance kind - greatest_jitter kind in
    printed_line (codes "wanted at most " ++ decimal most ++ codes ", 1000000 times the least distance of " ++ above.name ++ codes " less its jitter")
    (five (codes "wanted at most ") (decimal most) (codes ", 1000000 times the least distance of ") above.name (codes " less its jitter")
    refl (printed_decimal most) refl (printed_name above.name named.name) refl)

printed_spanned : (model : SystemModel) (task : TaskDef) (kind : StimulusKind) → AreNamed model → Printed (spanned_line model task kind)
printed_spanned model task kind named =
    said_so IsTaskNamed (said_by_kind model span_line) (find (spans model task kind) model.tasks)
    (λ above h. said_any (span_line above) (kind_for model above) (λ its. printed_span above its h))
    (first_of IsTaskNamed (spans model task kind) model.tasks named.tasks)

printed_task : (model : SystemModel) (s : Said) (task : TaskDef) (kind : StimulusKind) → AreNamed model → IsTaskNamed task → Printed (task_limit_line model s task kind)
printed_task model said.Deadline task kind named h = printed_deadline task kind h
printed_task model said.Jitter task kind named h = printed_jitter task kind h
printed_task model said.FoundJitter task kind named h = printed_found_jitter task kind
printed_task model said.Span task kind named h = printed_spanned model task kind named

printed_of_stimulus : (model : SystemModel) (place : Place) (c : Code) → AreNamed model → Printed (line_of_stimulus model place c)
printed_of_stimulus model place c named =
    said_so (λ (stimulus : StimulusDef). IsName stimulus.name) (stimulus_line c) (item_if model.stimuli place.item) (printed_stimulus c)
    (item (λ (stimulus : StimulusDef). IsName stimulus.name) model.stimuli place.item named.stimuli)

printed_of_task : (model : SystemModel) (place : Place) (s : Said) → AreNamed model → Printed (line_of_task model place s)
printed_of_task model place s named =
    said_so IsTaskNamed (said_by_kind model (task_limit_line model s)) (task_of_place model place)
    (λ task h. said_any (task_limit_line model s task) (kind_for model task) (λ kind. printed_task model s task kind named h))
    (item IsTaskNamed model.tasks place.item named.tasks)

printed_time : (runnable : RunnableDef) → Printed (greatest_time_line runnable)
printed_time runnable = numbered (codes "wanted at least ") runnable.least (codes ", the least time") refl refl

printed_lengths : (chain : ChainDef) → Printed (lengths_line chain)
printed_lengths chain =
    printed_line (codes "wanted one label fewer than runnables: " ++ decimal (length chain.runnables) ++ codes " runnables, " ++ decimal (length chain.labels) ++ codes " labels")
    (five (codes "wanted one label fewer than runnables: ") (decimal (length chain.runnables)) (codes " runnables, ") (decimal (length chain.labels)) (codes " labels")
    refl (printed_decimal (length chain.runnables)) refl (printed_decimal (length chain.labels)) refl)

printed_measured_by : (model : SystemModel) (place : Place) (c : Code) → AreNamed model → Printed (measured_by model place c)
printed_measured_by model place code.M27 named = printed_of_stimulus model place code.M27 named
printed_measured_by model place code.M28 named = printed_of_stimulus model place code.M28 named
printed_measured_by model place code.M32 named = printed_of_task model place said.Deadline named
printed_measured_by model place code.M33 named = printed_of_task model place said.Jitter named
printed_measured_by model place code.M36 named = said_any greatest_time_line _ printed_time
printed_measured_by model place code.M42 named = printed_of_task model place said.Span named
printed_measured_by model place code.M43 named = said_any lengths_line _ printed_lengths
printed_measured_by model place code.M47 named = printed_of_stimulus model place code.M47 named
printed_measured_by model place _ named = refl

pub printed_measured_line : (model : Option SystemModel) (refusal : Refusal) → IfSome model AreNamed → Printed (measured_line model refusal)
printed_measured_line model refusal named =
    said_so AreNamed (λ (model : SystemModel). measured_by model refusal.place refusal.code) model
    (λ model h. printed_measured_by model refusal.place refusal.code h) named

pub printed_jitter_found : (model : Option SystemModel) (place : Place) → IfSome model AreNamed → Printed (jitter_found model place)
printed_jitter_found model place named =
    said_so AreNamed (λ (model : SystemModel). line_of_task model place said.FoundJitter) model
    (λ model h. printed_of_task model place said.FoundJitter h) named

-- ---- known names

printed_first : (n : ℕ) (names : List (List ℕ)) → All IsName names → Printed (flat_map (λ known. codes " " ++ known) (take n names))
printed_first zero names all = refl
printed_first (suc n) [] all = refl
printed_first (suc n) (name ∷ names) all =
    subst Printed (sym (flat_map-cons (λ known. codes " " ++ known) name (take n names)))
    (printed_both (codes " " ++ name) _ (printed_both (codes " ") name refl (printed_name name (All-head IsName name names all)))
    (printed_first n names (All-tail IsName name names all)))

printed_more : (count : ℕ) → Printed (more_text count)
printed_more count =
    printed_chosen (nat_lt MOST_KNOWN count) (codes " .. of " ++ decimal count) []
    (printed_both (codes " .. of ") (decimal count) refl (printed_decimal count)) refl

printed_known : (names : List (List ℕ)) → All IsName names → Printed (known_names names)
printed_known [] all = refl
printed_known (name ∷ names) all =
    printed_line (codes "known" ++ flat_map (λ known. codes " " ++ known) (take MOST_KNOWN (name ∷ names)) ++ more_text (length (name ∷ names)))
    (three (codes "known") (flat_map (λ known. codes " " ++ known) (take MOST_KNOWN (name ∷ names))) (more_text (length (name ∷ names)))
    refl (printed_first MOST_KNOWN (name ∷ names) all) (printed_more (length (name ∷ names))))

names_named : {X : Type 0} (name : X → List ℕ) (xs : List X) → All (λ x. IsName (name x)) xs → All IsName (map name xs)
names_named name [] all = All-nil IsName
names_named name (x ∷ xs) all =
    All-cons IsName (name x) (map name xs) (All-head (λ y. IsName (name y)) x xs all) (names_named name xs (All-tail (λ y. IsName (name y)) x xs all))

printed_known_by : (model : SystemModel) (c : Code) → AreNamed model → Printed (known_by model c)
printed_known_by model code.M29 named = printed_known (core_names model) (names_named _ model.cores named.cores)
printed_known_by model code.M30 named = printed_known (stimulus_names model) (names_named _ model.stimuli named.stimuli)
printed_known_by model code.M37 named = printed_known (label_names model) (names_named _ model.labels named.labels)
printed_known_by model code.M38 named = printed_known (label_names model) (names_named _ model.labels named.labels)
printed_known_by model code.M46 named = printed_known (chain_names model) (names_named _ model.chains (chains_alone model.chains named.chains))
printed_known_by model _ named = refl

pub printed_known_line : (model : Option SystemModel) (refusal : Refusal) → IfSome model AreNamed → Printed (known_line model refusal)
printed_known_line model refusal named =
    said_so AreNamed (λ (model : SystemModel). known_by model refusal.code) model (λ model h. printed_known_by model refusal.code h) named

-- ---- the runnable that lacks a label

printed_lacking : (lacking verb label writer reader : List ℕ) → IsName lacking → Printed verb → IsName label → IsName writer → IsName reader
    → Printed (lacking_words lacking verb label writer reader)
unfolding lacking_words
printed_lacking lacking verb label writer reader a v b w r =
    let first = five (codes "let ") lacking verb label (codes ", or name a label that ") refl (printed_name lacking a) v (printed_name label b) refl in
    five (codes "let " ++ lacking ++ verb ++ label ++ codes ", or name a label that ") writer (codes " writes and ") reader (codes " reads")
    first (printed_name writer w) refl (printed_name reader r) refl

printed_one : (writer reader label : List ℕ) (written read : Bool) → IsName writer → IsName reader → IsName label
    → IfSome (lacking_one writer reader label written read) Printed
printed_one writer reader label false true w r b = printed_lacking writer (codes " write ") label writer reader w refl b w r
printed_one writer reader label true false w r b = printed_lacking reader (codes " read ") label writer reader r refl b w r
printed_one writer reader label true true w r b = tt
printed_one writer reader label false false w r b = tt

module _ (model : SystemModel) (place : Place) (named : AreNamed model) where
  hop_named : (behind : ℕ) → IfSome (runnable_of_hop model place behind) IsRunnableNamed
  hop_named behind =
      followed IsName IsRunnableNamed (found_by model Named) (step_name model place behind)
      (λ name h. first_of IsRunnableNamed (is_sought Named name) (all_runnables model.tasks) (runnables_named model.tasks named.tasks))
      (step_named_at model place behind named)

  label_named : IfSome (label_of_hop model place) IsName
  label_named =
      followed IsChainNamed IsName (λ (chain : ChainDef). item_if chain.labels place.spot) (item_if model.chains place.item)
      (λ chain h. item IsName chain.labels place.spot h.labels) (item IsChainNamed model.chains place.item named.chains)

  pub printed_lacking_text : IfSome (lacking_text model place) Printed
  printed_lacking_text =
      followed IsName Printed (λ label. option_and_then (λ writer. option_and_then (lacking_between label writer) (runnable_of_hop model place 1)) (runnable_of_hop model place 0))
      (label_of_hop model place)
      (λ label b. followed IsRunnableNamed Printed (λ writer. option_and_then (lacking_between label writer) (runnable_of_hop model place 1)) (runnable_of_hop model place 0)
      (λ writer w. followed IsRunnableNamed Printed (lacking_between label writer) (runnable_of_hop model place 1)
      (λ reader r. printed_one writer.name reader.name label (has_name label writer.writes) (has_name label reader.reads) w.name r.name b) (hop_named 1)) (hop_named 0)) label_named
