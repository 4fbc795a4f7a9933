-- Job lines that were read, task by task.
use Rattle.std.proofs.Common.{◌≡◌, ℕ, zero, suc, ◌+◌, ◌<◌, ◌≤◌, inl, inr, List, [], ◌∷◌, ◌++◌, length, length-append, map, refl, sym, ap, ◌∙◌, subst, arith, append_assoc}
use Rattle.std.specs.List.{All, flat_map, range_with_len}
use Rattle.std.proofs.lemmas.Bool.{cases_lt}
use Rattle.std.proofs.lemmas.List.{append-nil, map-append, get_or_append_left}
use Rattle.std.proofs.lemmas.List.Elements.{All-nil, All-cons, All-append}
use Rattle.std.proofs.lemmas.Grind.{flat_map-append}
use Rattle.std.proofs.Math.Seq.{get_or-append_seam}
use Rattle.cl_model.specs.{declared.model.SystemModel.SystemModel, Name.IsName, ByNumber.task_at}
use Rattle.cl_runs.specs.declared.job.Job.{Job}
use Rattle.cl_trace.specs.{Trace.{Item, JobOf, item_text, item_words, text_of}, Rules.IsJobOf, Inner.Bodies.{AreJobsOf, AreJobLists, jobs_in, items_in}}
use Rattle.cl_trace.proofs.Puts.{items_more}

-- a line takes a byte at least
pub item_longer : (model : SystemModel) (item : Item) (text rest : List ℕ) → text ≡ item_text model item ++ rest → length rest < length text
unfolding item_text
item_longer model item text rest is =
    omega (arith, ap length is, length-append (item_words model item ++ 10 ∷ []) rest, length-append (item_words model item) (10 ∷ []))

-- one more line
pub text_more : (model : SystemModel) (items : List Item) (item : Item) (text left rest : List ℕ) → text ≡ text_of model items ++ left → left ≡ item_text model item ++ rest
    → text ≡ text_of model (items ++ item ∷ []) ++ rest
text_more model items item text left rest parts is =
    parts ∙ ap (λ t. text_of model items ++ t) is ∙ sym (append_assoc (text_of model items) (item_text model item) rest)
    ∙ ap (λ t. (text_of model items ++ t) ++ rest) (sym (append-nil (item_text model item)))
    ∙ ap (λ t. t ++ rest) (sym (flat_map-append (item_text model) items (item ∷ [])))

-- more lines
pub text_all : (model : SystemModel) (items more : List Item) (text left rest : List ℕ) → text ≡ text_of model items ++ left → left ≡ text_of model more ++ rest
    → text ≡ text_of model (items ++ more) ++ rest
text_all model items more text left rest parts is =
    parts ∙ ap (λ t. text_of model items ++ t) is ∙ sym (append_assoc (text_of model items) (text_of model more) rest)
    ∙ ap (λ t. t ++ rest) (sym (flat_map-append (item_text model) items more))

module _ (model : SystemModel) (task : ℕ) (text : List ℕ) where
  pub jobs_more : (jobs : List Job) (job : Job) (left rest : List ℕ) → text ≡ text_of model (map (JobOf task) jobs) ++ left
      → left ≡ item_text model (JobOf task job) ++ rest → text ≡ text_of model (map (JobOf task) (jobs ++ job ∷ [])) ++ rest
  jobs_more jobs job left rest parts is =
      text_more model (map (JobOf task) jobs) (JobOf task job) text left rest parts is
      ∙ ap (λ items. text_of model items ++ rest) (sym (map-append (JobOf task) jobs (job ∷ [])))

  pub of_task_more : (jobs : List Job) (job : Job) → All (IsJobOf model task) jobs → IsJobOf model task job → All (IsJobOf model task) (jobs ++ job ∷ [])
  of_task_more jobs job all one = All-append (IsJobOf model task) jobs (job ∷ []) all (All-cons (IsJobOf model task) job [] one (All-nil (IsJobOf model task)))

-- ---- the lists of the tasks

-- past the last list there are no jobs
pub past_last : (lists : List (List Job)) (n : ℕ) → length lists ≤ n → jobs_in lists n ≡ []
past_last [] n past = refl
past_last (l ∷ ls) zero past = absurd (omega arith)
past_last (l ∷ ls) (suc n) past = past_last ls n (omega arith)

-- the lists before a further one are as they were
before_further : (lists : List (List Job)) (more : List Job) (task : ℕ) → task < length lists → jobs_in (lists ++ more ∷ []) task ≡ jobs_in lists task
before_further lists more task lt = get_or_append_left lists (more ∷ []) [] task lt

further : (lists : List (List Job)) (more : List Job) → jobs_in (lists ++ more ∷ []) (length lists) ≡ more
further lists more = get_or-append_seam lists more [] []

pub items_same : (one other : ℕ → List Item) (a n : ℕ) → ((k : ℕ) → k < a + n → one k ≡ other k) → flat_map one (range_with_len a n) ≡ flat_map other (range_with_len a n)
items_same one other a zero same = refl
items_same one other a (suc n) same =
    ap (λ is. is ++ flat_map one (range_with_len (a + 1) n)) (same a (omega arith))
    ∙ ap (λ is. other a ++ is) (items_same one other (a + 1) n (λ k lt. same k (omega arith)))

-- the items of the lists with a further one
items_further : (lists : List (List Job)) (more : List Job)
    → flat_map (items_in (lists ++ more ∷ [])) (range_with_len 0 (length lists + 1))
    ≡ flat_map (items_in lists) (range_with_len 0 (length lists)) ++ map (JobOf (length lists)) more
items_further lists more =
    items_more (items_in (lists ++ more ∷ [])) (length lists)
    ∙ ap (λ is. is ++ items_in (lists ++ more ∷ []) (length lists))
    (items_same (items_in (lists ++ more ∷ [])) (items_in lists) 0 (length lists) (λ k lt. ap (map (JobOf k)) (before_further lists more k (omega arith))))
    ∙ ap (λ js. flat_map (items_in lists) (range_with_len 0 (length lists)) ++ map (JobOf (length lists)) js) (further lists more)

pub no_lists : (model : SystemModel) (text : List ℕ) → AreJobLists model text [] text
no_lists model text = record {
  of_tasks = λ task lt. absurd (omega arith);
  parts = refl;
  none_left = λ task job after lt. absurd (omega arith);
}

module _ (model : SystemModel) (text : List ℕ) (lists : List (List Job)) (left : List ℕ) (more : List Job) (rest : List ℕ)
    (are : AreJobLists model text lists left) (next : AreJobsOf model (length lists) left more rest) where
  size : length (lists ++ more ∷ []) ≡ length lists + 1
  size = length-append lists (more ∷ [])

  last_or_before : (task : ℕ) → task < length (lists ++ more ∷ []) → (P : ℕ → Type 0) → (task < length lists → P task) → P (length lists) → P task
  last_or_before task lt P before last = elim (cases_lt task (length lists)) [
    | inl less ↦ before less
    | inr most ↦ let same : length lists ≡ task = omega (arith, size) in subst P same last
  ]

  -- where the further list is empty, the same text is left
  none_more : (jobs : List Job) → jobs ≡ more → jobs ≡ [] → left ≡ rest
  none_more jobs is none = next.parts ∙ ap (λ js. text_of model (map (JobOf (length lists)) js) ++ rest) (sym is ∙ none)

  pub lists_more : AreJobLists model text (lists ++ more ∷ []) rest
  lists_more = record {
    of_tasks = λ task lt. last_or_before task lt (λ t. All (IsJobOf model t) (jobs_in (lists ++ more ∷ []) t))
        (λ less. subst (All (IsJobOf model task)) (sym (before_further lists more task less)) (are.of_tasks task less))
        (subst (All (IsJobOf model (length lists))) (sym (further lists more)) next.of_task);
    parts = text_all model (flat_map (items_in lists) (range_with_len 0 (length lists))) (map (JobOf (length lists)) more) text left rest are.parts next.parts
        ∙ ap (λ items. text_of model items ++ rest) (sym (items_further lists more))
        ∙ ap (λ n. text_of model (flat_map (items_in (lists ++ more ∷ [])) (range_with_len 0 n)) ++ rest) (sym size);
    none_left = λ task job after lt of_task later is. last_or_before task lt (λ t. t ≡ task → ⊥)
        (λ less same.
        let empty : more ≡ [] = sym (further lists more) ∙ later (length lists) less in
        are.none_left task job after less of_task
        (λ other above. by_place other above (later other above))
        (none_more more refl empty ∙ is))
        (λ same. next.none_left job after (subst (λ t. IsJobOf model t job) (sym same) of_task) (is ∙ ap (λ t. item_text model (JobOf t job) ++ after) (sym same)))
        refl;
  }
    where
      by_place : {task : ℕ} (other : ℕ) → task < other → jobs_in (lists ++ more ∷ []) other ≡ [] → jobs_in lists other ≡ []
      by_place other above none = elim (cases_lt other (length lists)) [
        | inl less ↦ sym (before_further lists more other less) ∙ none
        | inr past ↦ past_last lists other past
      ]

-- one more name is a name
pub name_more : (model : SystemModel) (n : ℕ) → ((task : ℕ) → task < n → IsName (task_at model task).name) → IsName (task_at model n).name
    → (task : ℕ) → task < n + 1 → IsName (task_at model task).name
name_more model n named last task lt = elim (cases_lt task n) [
  | inl less ↦ named task less
  | inr most ↦ let same : n ≡ task = omega arith in subst (λ t. IsName (task_at model t).name) same last
]
