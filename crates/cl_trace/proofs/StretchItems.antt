-- The run lines of entries that grow: a stretch more, and idle ticks at the end.
use Rattle.std.proofs.Common.{◌≡◌, ◌≢◌, ℕ, zero, suc, ◌+◌, ◌-◌, ◌<◌, ◌≤◌, inl, inr, Option, Some, None, List, [], ◌∷◌, ◌++◌, length, length-append, get_or, replicate, sym, ap, ◌∙◌, subst, arith, append_assoc}
use Rattle.std.proofs.lemmas.Bool.{cases_lt}
use Rattle.std.proofs.lemmas.List.{append-nil, length-replicate, get_or-replicate}
use Rattle.std.proofs.lemmas.List.Elements.{All-nil, All-cons, All-append}
use Rattle.std.proofs.Math.Seq.{get_or-append_right}
use Rattle.std.specs.List.{All}
use Rattle.cl_run_data.specs.{declared.stretches.Stretch.Stretch, Stretches.{entries_from, AreLongest, AreStretchesOf}, Inner.StretchPlaces.end_from}
use Rattle.cl_run_data.proofs.StretchFacts.{length-entries, end_at_last, ends_rise, ends_after as ends_after_start, entry_of_stretch, longest_push, entries_push}
use Rattle.cl_trace.specs.{Stretches.stretches_of, Inner.Bodies.{idle_up_to, entries_appended}, Trace.{Runs, stretch_item, stretch_items}}
use Rattle.cl_trace.proofs.LongestStretches.{own_stretches, only_stretches}

pub no_stretch : Stretch
no_stretch = record { who = None; end = 0 }

-- the items of a stretch more
items_push : (ss : List Stretch) (from : ℕ) (s : Stretch) → stretch_items from (ss ++ s ∷ []) ≡ stretch_items from ss ++ stretch_item s.who (end_from from ss) s.end
items_push [] from s = append-nil (stretch_item s.who from s.end)
items_push (r ∷ ss) from s = ap (λ is. stretch_item r.who from r.end ++ is) (items_push ss r.end s)
    ∙ sym (append_assoc (stretch_item r.who from r.end) (stretch_items r.end ss) (stretch_item s.who (end_from r.end ss) s.end))

module _ (ss : List Stretch) (longest : AreLongest 0 ss) where
  pub size : length (entries_from 0 ss) ≡ end_from 0 ss
  size = omega (arith, length-entries ss 0 longest)

  -- the entry of the last tick is that of the last stretch
  pub last_entry : (n tick : ℕ) (d : Stretch) → suc n ≡ length ss → tick + 1 ≡ end_from 0 ss → get_or (entries_from 0 ss) tick None ≡ (get_or ss n d).who
  last_entry n tick d last end = entry_of_stretch ss tick n d longest (record {
    within = omega (arith, last);
    ends_after = λ e. omega (arith, end, end_at_last ss 0 n e last);
    first = λ i e below. omega (arith, end, ends_rise ss 0 i n e longest below (omega (arith, last)), end_at_last ss 0 n e last);
  })

-- entries that end with another entry, or are none
abbrev pub EndsOther : List (Option ℕ) → Option ℕ → Type 0
EndsOther entries who = (tick : ℕ) → tick + 1 ≡ length entries → get_or entries tick None ≢ who

module _ (entries : List (Option ℕ)) (ss : List Stretch) (are : AreStretchesOf entries ss) (who : Option ℕ) (ticks : ℕ)
    (some : 0 < ticks) (other : EndsOther entries who) where
  length_is : end_from 0 ss ≡ length entries
  length_is = sym (size ss are.longest) ∙ ap length are.entries_are

  abbrev pub one_more : Stretch
  one_more = record { who = who; end = length entries + ticks }

  differs : (n : ℕ) → suc n ≡ length ss → (get_or ss n no_stretch).who ≢ who
  differs n last same = by_tick (length entries - 1) (omega (arith, positive))
    where
      positive : 0 < length entries
      positive = omega (arith, sym length_is, end_at_last ss 0 n no_stretch last, last_end)
        where
          last_end : 0 < (get_or ss n no_stretch).end
          last_end = ends_after_start ss 0 n no_stretch are.longest (omega (arith, last))

      by_tick : (tick : ℕ) → tick + 1 ≡ length entries → ⊥
      by_tick tick end = other tick end
          (ap (λ (es : List (Option ℕ)). get_or es tick None) (sym are.entries_are)
          ∙ last_entry ss are.longest n tick no_stretch last (omega (arith, end, length_is)) ∙ same)

  -- a stretch more is a longest one
  pub stretch_more : AreStretchesOf (entries ++ replicate ticks who) (ss ++ one_more ∷ [])
  stretch_more = record {
    longest = longest_push ss 0 one_more no_stretch are.longest (omega (arith, length_is, some)) differs;
    entries_are = entries_push ss 0 one_more
        ∙ ap (λ n. entries_from 0 ss ++ replicate n who) added
        ∙ ap (λ es. es ++ replicate ticks who) are.entries_are;
  }
    where
      added : (length entries + ticks) - end_from 0 ss ≡ ticks
      added = omega (arith, length_is)

  pub items_more_of : stretch_items 0 (stretches_of (entries ++ replicate ticks who)) ≡ stretch_items 0 ss ++ stretch_item who (length entries) (length entries + ticks)
  items_more_of =
      ap (stretch_items 0) (sym (only_stretches (entries ++ replicate ticks who) (ss ++ one_more ∷ []) stretch_more))
      ∙ items_push ss 0 one_more
      ∙ ap (λ n. stretch_items 0 ss ++ stretch_item who n (length entries + ticks)) length_is

-- ---- what is appended for a run line: idle ticks up to it, and the ticks of the task

-- replicated entries end with themselves
pub ends_replicate : (entries : List (Option ℕ)) (n : ℕ) (who other : Option ℕ) → 0 < n → who ≢ other → EndsOther (entries ++ replicate n who) other
ends_replicate entries n who other some differ tick end is = differ
    (sym (get_or-replicate n (tick - length entries) who None (omega (arith, length_all)))
    ∙ sym (get_or-append_right entries (replicate n who) tick None (omega (arith, length_all))) ∙ is)
  where
    length_all : tick + 1 ≡ length entries + n
    length_all = omega (arith, end, length-append entries (replicate n who), length-replicate n who)

none_some : (task : ℕ) → None ≢ Some task
none_some task is = cc

some_none : (task : ℕ) → Some task ≢ None
some_none task is = cc

module _ (entries : List (Option ℕ)) (from : ℕ) (busy : EndsOther entries None) (after : length entries ≤ from) where
  pub idle_length : length (idle_up_to entries from) ≡ from
  idle_length = omega (arith, length-append entries (replicate (from - length entries) None), length-replicate (from - length entries) none_entry, after)
    where
      none_entry : Option ℕ
      none_entry = None

  no_idle : length entries ≡ from → idle_up_to entries from ≡ entries
  no_idle same =
      let none : from - length entries ≡ 0 = omega arith in
      ap (λ n. entries ++ replicate n None) none ∙ append-nil entries

  -- idle ticks have no line
  pub idle_items : stretch_items 0 (stretches_of (idle_up_to entries from)) ≡ stretch_items 0 (stretches_of entries)
  idle_items = elim (cases_lt (length entries) from) [
    | inl some ↦ items_more_of entries (stretches_of entries) (own_stretches entries) None (from - length entries) (omega arith) busy
        ∙ append-nil (stretch_items 0 (stretches_of entries))
    | inr none ↦ ap (λ es. stretch_items 0 (stretches_of es)) (no_idle (omega arith))
  ]

  module _ (task to : ℕ) (some : from < to)
      (changes : (tick : ℕ) → tick + 1 ≡ length entries → length entries ≡ from → get_or entries tick None ≢ Some task) where
    idle_ends : EndsOther (idle_up_to entries from) (Some task)
    idle_ends = elim (cases_lt (length entries) from) [
      | inl idles ↦ ends_replicate entries (from - length entries) None (Some task) (omega arith) (none_some task)
      | inr none ↦
          let same : length entries ≡ from = omega arith in
          subst (λ es. EndsOther es (Some task)) (sym (no_idle same)) (λ tick end. changes tick end same)
    ]

    pub appended_items : stretch_items 0 (stretches_of (entries_appended entries task from to)) ≡ stretch_items 0 (stretches_of entries) ++ Runs task from to ∷ []
    appended_items =
        let last : from + (to - from) ≡ to = omega arith in
        items_more_of (idle_up_to entries from) (stretches_of (idle_up_to entries from)) (own_stretches (idle_up_to entries from)) (Some task) (to - from) (omega arith) idle_ends
        ∙ ap (λ n. stretch_items 0 (stretches_of (idle_up_to entries from)) ++ Runs task n (n + (to - from)) ∷ []) idle_length
        ∙ ap (λ n. stretch_items 0 (stretches_of (idle_up_to entries from)) ++ Runs task from n ∷ []) last
        ∙ ap (λ is. is ++ Runs task from to ∷ []) idle_items

    pub appended_length : length (entries_appended entries task from to) ≡ to
    appended_length = omega (arith, length-append (idle_up_to entries from) (replicate (to - from) (Some task)), length-replicate (to - from) (Some task), idle_length, some)

    pub appended_busy : EndsOther (entries_appended entries task from to) None
    appended_busy = ends_replicate (idle_up_to entries from) (to - from) (Some task) None (omega arith) (some_none task)

-- what holds of each entry, and of what is appended
pub all_replicate : (P : Option ℕ → Type 0) (entries : List (Option ℕ)) (n : ℕ) (who : Option ℕ) → All P entries → P who → All P (entries ++ replicate n who)
all_replicate P entries n who all one = All-append P entries (replicate n who) all (by_count n)
  where
    by_count : (n : ℕ) → All P (replicate n who)
    by_count zero = All-nil P
    by_count (suc n) = All-cons P who (replicate n who) one (by_count n)
