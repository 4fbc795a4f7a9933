-- Texts that grow piece by piece: of the elements of a list, and of numbers in order.
use Rattle.std.proofs.Common.{◌≡◌, ℕ, suc, ◌+◌, ◌<◌, List, [], ◌∷◌, ◌++◌, length, get_or, drop, map, sym, ap, ◌∙◌, arith, append_assoc}
use Rattle.std.specs.List.{flat_map, range_with_len}
use Rattle.std.proofs.lemmas.List.{at_drop_more, append-nil}
use Rattle.std.proofs.lemmas.Grind.{flat_map-append}
use Rattle.std.proofs.lemmas.List.Folds.{flat_map-map}
use Rattle.cl_text.proofs.MoreLines.{range_more}
use Rattle.cl_model.specs.declared.model.SystemModel.{SystemModel}
use Rattle.cl_runs.specs.declared.job.Job.{Job}
use Rattle.cl_trace.specs.Trace.{Item, JobOf, item_text, text_of}

-- the elements from one on were left, and then those from the next one on
pub put_more : {X : Type 0} (f : X → List ℕ) (before text after : List ℕ) (xs : List X) (i : ℕ) (d : X) → i < length xs
    → text ++ flat_map f (drop i xs) ≡ before ++ flat_map f xs → after ≡ text ++ f (get_or xs i d)
    → after ++ flat_map f (drop (i + 1) xs) ≡ before ++ flat_map f xs
put_more f before text after xs i d lt was is =
    ap (λ t. t ++ flat_map f (drop (i + 1) xs)) is
    ∙ append_assoc text (f (get_or xs i d)) (flat_map f (drop (i + 1) xs))
    ∙ ap (λ t. text ++ t) (sym (at_drop_more (flat_map f) xs i d lt))
    ∙ was

-- the items of one more number stand behind those before it
pub items_more : (items : ℕ → List Item) (n : ℕ)
    → flat_map items (range_with_len 0 (n + 1)) ≡ flat_map items (range_with_len 0 n) ++ items n
items_more items n =
    let next : n + 1 ≡ suc n = omega arith in
    let last : 0 + n ≡ n = omega arith in
    ap (λ m. flat_map items (range_with_len 0 m)) next
    ∙ ap (flat_map items) (range_more 0 n)
    ∙ flat_map-append items (range_with_len 0 n) ((0 + n) ∷ [])
    ∙ ap (λ m. flat_map items (range_with_len 0 n) ++ (items m ++ [])) last
    ∙ ap (λ is. flat_map items (range_with_len 0 n) ++ is) (append-nil (items n))

-- and so do their lines
pub lines_more : (model : SystemModel) (items : ℕ → List Item) (text before after : List ℕ) (n : ℕ)
    → before ≡ text ++ text_of model (flat_map items (range_with_len 0 n)) → after ≡ before ++ text_of model (items n)
    → after ≡ text ++ text_of model (flat_map items (range_with_len 0 (n + 1)))
lines_more model items text before after n was is =
    let first = flat_map items (range_with_len 0 n) in
    is ∙ ap (λ t. t ++ text_of model (items n)) was
    ∙ append_assoc text (text_of model first) (text_of model (items n))
    ∙ ap (λ t. text ++ t) (sym (flat_map-append (item_text model) first (items n)))
    ∙ ap (λ is. text ++ text_of model is) (sym (items_more items n))

-- the lines of a task's jobs from one on were left, and then those from the next one on
pub put_job_more : (model : SystemModel) (task : ℕ) (before text after : List ℕ) (jobs : List Job) (i : ℕ) (d : Job) → i < length jobs
    → text ++ text_of model (map (JobOf task) (drop i jobs)) ≡ before ++ text_of model (map (JobOf task) jobs)
    → after ≡ text ++ item_text model (JobOf task (get_or jobs i d))
    → after ++ text_of model (map (JobOf task) (drop (i + 1) jobs)) ≡ before ++ text_of model (map (JobOf task) jobs)
put_job_more model task before text after jobs i d lt was is =
    let line_of = λ (job : Job). item_text model (JobOf task job) in
    let left = flat_map-map (item_text model) (JobOf task) in
    ap (λ t. after ++ t) (left (drop (i + 1) jobs))
    ∙ put_more line_of before text after jobs i d lt
    (ap (λ t. text ++ t) (sym (left (drop i jobs))) ∙ was ∙ ap (λ t. before ++ t) (left jobs)) is
    ∙ ap (λ t. before ++ t) (sym (left jobs))
