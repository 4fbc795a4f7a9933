-- Entries kept as longest stretches: what an entry is, and what appending does.
use Rattle.std.proofs.Common.{◌≡◌, ◌≢◌, ℕ, zero, suc, ◌+◌, ◌-◌, ◌<◌, ◌≤◌, inl, inr, Option, Some, None, true, false, eqb, subst, List, [], ◌∷◌, ◌++◌, length, get_or, set, replicate, refl, sym, ap, ◌∙◌, arith, append_assoc, length-append}
use Rattle.std.specs.List.Sorted.{IsNonDecreasingBy}
use Rattle.std.specs.Option.{option_eq}
use Rattle.std.proofs.lemmas.Bool.{cases_lt, eqb-true, eqb-false, true≢false, false≢true}
use Rattle.std.proofs.lemmas.List.{append-nil, length-replicate, get_or-replicate, get_or_append_left, get_or-append_right, get_or_default, replicate-append-replicate}
use Rattle.cl_run_data.specs.{declared.stretches.Stretch.Stretch, Stretches.{entries_from, AreLongest, IsStretchEnd}, Inner.StretchPlaces.{end_from, IsStretchOf}}

-- the first stretch is longer than nothing, and the others are longest after it
pub head_of : (from : ℕ) (s : Stretch) (ss : List Stretch) → AreLongest from (s ∷ ss) → from < s.end
head_of from s [] longest = longest
head_of from s (next ∷ ss) longest = longest.0

pub tail_of : (from : ℕ) (s : Stretch) (ss : List Stretch) → AreLongest from (s ∷ ss) → AreLongest s.end ss
tail_of from s [] longest = tt
tail_of from s (next ∷ ss) longest = longest.2

-- there are as many entries as ticks up to the end
pub length-entries : (ss : List Stretch) (from : ℕ) → AreLongest from ss → length (entries_from from ss) + from ≡ end_from from ss
length-entries [] from longest = omega arith
length-entries (s ∷ ss) from longest =
    omega (
      arith,
      head_of from s ss longest,
      length-append (replicate (s.end - from) s.who) (entries_from s.end ss),
      length-replicate (s.end - from) s.who,
      length-entries ss s.end (tail_of from s ss longest),
    )

-- the last stretch ends where the stretches end
pub end_at_last : (ss : List Stretch) (from n : ℕ) (d : Stretch) → suc n ≡ length ss → end_from from ss ≡ (get_or ss n d).end
end_at_last [] from n d h = absurd (omega arith)
end_at_last (s ∷ []) from zero d h = refl
end_at_last (s ∷ []) from (suc n) d h = absurd (omega arith)
end_at_last (s ∷ next ∷ ss) from zero d h = absurd (omega arith)
end_at_last (s ∷ next ∷ ss) from (suc n) d h = end_at_last (next ∷ ss) s.end n d (omega arith)

-- ends rise
pub ends_after : (ss : List Stretch) (from n : ℕ) (d : Stretch) → AreLongest from ss → n < length ss → from < (get_or ss n d).end
ends_after [] from n d longest h = absurd (omega arith)
ends_after (s ∷ ss) from zero d longest h = head_of from s ss longest
ends_after (s ∷ ss) from (suc n) d longest h =
    omega (arith, head_of from s ss longest, ends_after ss s.end n d (tail_of from s ss longest) (omega arith))

pub ends_rise : (ss : List Stretch) (from m n : ℕ) (d : Stretch) → AreLongest from ss → m < n → n < length ss → (get_or ss m d).end < (get_or ss n d).end
ends_rise [] from m n d longest h below = absurd (omega arith)
ends_rise (s ∷ ss) from m zero d longest h below = absurd (omega arith)
ends_rise (s ∷ ss) from zero (suc n) d longest h below = ends_after ss s.end n d (tail_of from s ss longest) (omega arith)
ends_rise (s ∷ ss) from (suc m) (suc n) d longest h below = ends_rise ss s.end m n d (tail_of from s ss longest) (omega arith) (omega arith)

-- neighbours differ
pub neighbours_differ : (ss : List Stretch) (from n : ℕ) (d : Stretch) → AreLongest from ss → suc n < length ss
    → (get_or ss n d).who ≢ (get_or ss (suc n) d).who
neighbours_differ [] from n d longest h = absurd (omega arith)
neighbours_differ (s ∷ []) from n d longest h = absurd (omega arith)
neighbours_differ (s ∷ next ∷ ss) from zero d longest h = longest.1
neighbours_differ (s ∷ next ∷ ss) from (suc n) d longest h = neighbours_differ (next ∷ ss) s.end n d longest.2 (omega arith)

-- the entry at a tick is that of the first stretch that ends after it
pub entry_in : (ss : List Stretch) (from k tick : ℕ) (d : Stretch) → AreLongest from ss → k < length ss → from ≤ tick
    → ((i : ℕ) → i < k → (get_or ss i d).end ≤ tick) → tick < (get_or ss k d).end
    → get_or (entries_from from ss) (tick - from) None ≡ (get_or ss k d).who
entry_in [] from k tick d longest h after before here = absurd (omega arith)
entry_in (s ∷ ss) from zero tick d longest h after before here =
    get_or_append_left (replicate (s.end - from) s.who) (entries_from s.end ss) None (tick - from)
    (omega (arith, after, here, length-replicate (s.end - from) s.who))
    ∙ get_or-replicate (s.end - from) (tick - from) s.who None (omega (arith, after, here))
entry_in (s ∷ ss) from (suc k) tick d longest h after before here =
    let past : s.end ≤ tick = before 0 (omega arith) in
    let positive : from < s.end = head_of from s ss longest in
    let place : tick - from - (s.end - from) ≡ tick - s.end = omega arith in
    get_or-append_right (replicate (s.end - from) s.who) (entries_from s.end ss) (s.end - from) (tick - from) None
    (length-replicate (s.end - from) s.who) (omega arith)
    ∙ ap (λ n. get_or (entries_from s.end ss) n None) place
    ∙ entry_in ss s.end k tick d (tail_of from s ss longest) (omega arith) past (λ i below. before (suc i) (omega arith)) here

-- a further stretch with another entry
pub longest_push : (ss : List Stretch) (from : ℕ) (s d : Stretch) → AreLongest from ss → end_from from ss < s.end
    → ((n : ℕ) → suc n ≡ length ss → (get_or ss n d).who ≢ s.who) → AreLongest from (ss ++ s ∷ [])
longest_push [] from s d longest h differs = h
longest_push (r ∷ []) from s d longest h differs = (longest, differs 0 refl, h)
longest_push (r ∷ next ∷ ss) from s d longest h differs =
    (longest.0, longest.1, longest_push (next ∷ ss) r.end s d longest.2 h (λ n is. differs (suc n) (omega arith)))

pub entries_push : (ss : List Stretch) (from : ℕ) (s : Stretch)
    → entries_from from (ss ++ s ∷ []) ≡ entries_from from ss ++ replicate (s.end - end_from from ss) s.who
entries_push [] from s = append-nil (replicate (s.end - from) s.who)
entries_push (r ∷ ss) from s = ap (λ xs. replicate (r.end - from) r.who ++ xs) (entries_push ss r.end s)
    ∙ sym (append_assoc (replicate (r.end - from) r.who) (entries_from r.end ss) (replicate (s.end - end_from r.end ss) s.who))

-- the last stretch made longer

pub longest_widen : (ss : List Stretch) (from n end : ℕ) (d : Stretch) → AreLongest from ss → suc n ≡ length ss → end_from from ss < end
    → AreLongest from (set ss n (record { who = (get_or ss n d).who; end = end }))
longest_widen [] from n end d longest is h = absurd (omega arith)
longest_widen (s ∷ []) from zero end d longest is h = omega (arith, longest, h)
longest_widen (s ∷ []) from (suc n) end d longest is h = absurd (omega arith)
longest_widen (s ∷ next ∷ ss) from zero end d longest is h = absurd (omega arith)
longest_widen (s ∷ next ∷ []) from (suc zero) end d longest is h = (longest.0, longest.1, omega (arith, longest.2, h))
longest_widen (s ∷ next ∷ []) from (suc (suc n)) end d longest is h = absurd (omega arith)
longest_widen (s ∷ next ∷ more ∷ ss) from (suc zero) end d longest is h = absurd (omega arith)
longest_widen (s ∷ next ∷ more ∷ ss) from (suc (suc n)) end d longest is h =
    (longest.0, longest.1, longest_widen (next ∷ more ∷ ss) s.end (suc n) end d longest.2 (omega arith) h)

pub entries_widen : (ss : List Stretch) (from n end : ℕ) (d : Stretch) → AreLongest from ss → suc n ≡ length ss → end_from from ss < end
    → entries_from from (set ss n (record { who = (get_or ss n d).who; end = end }))
    ≡ entries_from from ss ++ replicate (end - end_from from ss) (get_or ss n d).who
entries_widen [] from n end d longest is h = absurd (omega arith)
entries_widen (s ∷ []) from zero end d longest is h =
    let parts : end - from ≡ (s.end - from) + (end - s.end) = omega (arith, longest, h) in
    append-nil (replicate (end - from) s.who) ∙ ap (λ n. replicate n s.who) parts
    ∙ sym (replicate-append-replicate (s.end - from) (end - s.end) s.who)
    ∙ ap (λ xs. xs ++ replicate (end - s.end) s.who) (sym (append-nil (replicate (s.end - from) s.who)))
entries_widen (s ∷ []) from (suc n) end d longest is h = absurd (omega arith)
entries_widen (s ∷ next ∷ ss) from zero end d longest is h = absurd (omega arith)
entries_widen (s ∷ next ∷ ss) from (suc n) end d longest is h =
    ap (λ xs. replicate (s.end - from) s.who ++ xs) (entries_widen (next ∷ ss) s.end n end d longest.2 (omega arith) h)
    ∙ sym (append_assoc (replicate (s.end - from) s.who) (entries_from s.end (next ∷ ss)) _)

-- the last stretch ends where the stretches end
pub last_end : (ss : List Stretch) (n : ℕ) (d : Stretch) → n ≡ length ss → 0 < n → (get_or ss (n - 1) d).end ≡ end_from 0 ss
last_end ss n d is h = sym (end_at_last ss 0 (n - 1) d (omega arith))

-- the stretches' ends don't fall
pub ends_in_order : (ss : List Stretch) → AreLongest 0 ss → IsNonDecreasingBy (λ (s : Stretch). s.end) ss
ends_in_order ss longest i j d h below = elim (cases_lt i j) [
  | inl less ↦ omega (arith, ends_rise ss 0 i j d longest less below)
  | inr equal ↦ let same : i ≡ j = omega arith in omega (arith, ap (λ n. (get_or ss n d).end) same)
]

-- a tick lies in some stretch, where the stretches end after it
pub within_some : (ss : List Stretch) (tick k : ℕ) (d : Stretch) → tick < end_from 0 ss → k ≤ length ss
    → ((i : ℕ) (d : Stretch) → i < k → (get_or ss i d).end ≤ tick) → k < length ss
within_some ss tick k d h most before = elim (cases_lt k (length ss)) [
  | inl less ↦ less
  | inr all ↦ absurd (past_all ss tick d h (λ i below. before i d (omega arith)))
]
  where
    past_all : (ss : List Stretch) (tick : ℕ) (d : Stretch) → tick < end_from 0 ss → ((i : ℕ) → i < length ss → (get_or ss i d).end ≤ tick) → ⊥
    past_all [] tick d h before = omega arith
    past_all (s ∷ ss) tick d h before =
        omega (arith, h, end_at_last (s ∷ ss) 0 (length ss) d refl, before (length ss) (omega arith))

-- what stands in the stretch of a tick
pub entry_of_stretch : (ss : List Stretch) (tick k : ℕ) (d : Stretch) → AreLongest 0 ss → IsStretchOf ss tick k
    → get_or (entries_from 0 ss) tick None ≡ (get_or ss k d).who
entry_of_stretch ss tick k d longest is =
    let whole : tick ≡ tick - 0 = omega arith in
    ap (λ n. get_or (entries_from 0 ss) n None) whole
    ∙ entry_in ss 0 k tick d longest is.within (omega arith) (λ i below. is.first i d below) (is.ends_after d)

-- the last stretch is that of the last tick
last_stretch : (ss : List Stretch) (n tick : ℕ) → AreLongest 0 ss → suc n ≡ length ss → tick + 1 ≡ end_from 0 ss → IsStretchOf ss tick n
last_stretch ss n tick longest is last = record {
  within = omega (arith, is);
  ends_after = λ e. omega (arith, last, end_at_last ss 0 n e is);
  first = λ i e below. omega (arith, last, end_at_last ss 0 n e is, ends_rise ss 0 i n e longest below (omega (arith, is)));
}

-- and has the last entry
pub last_entry : (ss : List Stretch) (d : Stretch) → AreLongest 0 ss → 0 < length (entries_from 0 ss)
    → (get_or ss (length ss - 1) d).who ≡ get_or (entries_from 0 ss) (length (entries_from 0 ss) - 1) None
last_entry [] d longest some = absurd (omega (arith, some))
last_entry (s ∷ ss) d longest some =
    let all = s ∷ ss in
    let tick = length (entries_from 0 all) - 1 in
    sym (entry_of_stretch all tick (length all - 1) d longest
    (last_stretch all (length all - 1) tick longest (omega arith) (omega (arith, some, length-entries all 0 longest))))

later_in : (ss : List Stretch) (tick k t : ℕ) → IsStretchOf ss tick k → tick ≤ t → ((d : Stretch) → t < (get_or ss k d).end) → IsStretchOf ss t k
later_in ss tick k t is after before = record {
  within = is.within;
  ends_after = before;
  first = λ i d below. omega (arith, is.first i d below, after);
}

next_stretch : (ss : List Stretch) (tick k : ℕ) (d : Stretch) → AreLongest 0 ss → IsStretchOf ss tick k → suc k < length ss
    → IsStretchOf ss (get_or ss k d).end (suc k)
next_stretch ss tick k d longest is h = record {
  within = h;
  ends_after = λ e. omega (
    arith,
    ends_rise ss 0 k (suc k) e longest (omega arith) h,
    ap (λ (s : Stretch). s.end) (get_or_default ss k d e is.within),
  );
  first = λ i e below. elim (cases_lt i k) [
    | inl before ↦ omega (arith, ends_rise ss 0 i k e longest before is.within, ap (λ (s : Stretch). s.end) (get_or_default ss k d e is.within))
    | inr here ↦ let same : i ≡ k = omega arith in
        omega (arith, ap (λ n. (get_or ss n e).end) same, ap (λ (s : Stretch). s.end) (get_or_default ss k d e is.within))
  ];
}

-- it is the longest stretch of its entry
pub stretch_end_is : (ss : List Stretch) (tick k : ℕ) (d : Stretch) → AreLongest 0 ss → IsStretchOf ss tick k
    → IsStretchEnd (entries_from 0 ss) tick (get_or ss k d).end
stretch_end_is ss tick k d longest is = record {
  after = is.ends_after d;
  within = ends_within;
  same = λ t after before.
      entry_of_stretch ss t k d longest (later_in ss tick k t is after (λ e. omega (arith, before, ap (λ (s : Stretch). s.end) (get_or_default ss k d e is.within))))
      ∙ sym (entry_of_stretch ss tick k d longest is);
  longest = λ h same.
      let more : suc k < length ss = not_last h in
      neighbours_differ ss 0 k d longest more (sym (entry_of_stretch ss tick k d longest is) ∙ sym same
      ∙ entry_of_stretch ss (get_or ss k d).end (suc k) d longest (next_stretch ss tick k d longest is more));
}
  where
    to_end : (n : ℕ) → suc n ≡ length ss → k ≤ n → (get_or ss k d).end ≤ end_from 0 ss
    to_end n last h = elim (cases_lt k n) [
      | inl before ↦ omega (arith, end_at_last ss 0 n d last, ends_rise ss 0 k n d longest before (omega arith))
      | inr here ↦ let same : k ≡ n = omega arith in omega (arith, end_at_last ss 0 n d last, ap (λ n. (get_or ss n d).end) same)
    ]

    ends_within : (get_or ss k d).end ≤ length (entries_from 0 ss)
    ends_within = omega (arith, length-entries ss 0 longest, to_end (length ss - 1) (omega (arith, is.within)) (omega (arith, is.within)))

    not_last : (get_or ss k d).end < length (entries_from 0 ss) → suc k < length ss
    not_last h = elim (cases_lt (suc k) (length ss)) [
      | inl more ↦ more
      | inr last ↦ absurd (omega (arith, h, length-entries ss 0 longest, end_at_last ss 0 k d (omega (arith, last, is.within))))
    ]

-- equal entries, by their test
pub who_same : (a b : Option ℕ) → option_eq eqb a b ≡ true → a ≡ b
who_same None None h = refl
who_same None (Some n) h = absurd (false≢true h)
who_same (Some m) None h = absurd (false≢true h)
who_same (Some m) (Some n) h = ap Some (eqb-true m n h)

pub who_other : (a b : Option ℕ) → option_eq eqb a b ≡ false → a ≢ b
who_other None None h same = true≢false h
who_other None (Some n) h same = cc
who_other (Some m) None h same = cc
who_other (Some m) (Some n) h same = eqb-false m n h cc

-- the last stretch, as it is read
pub last_read : (ss : List Stretch) (count n : ℕ) (x d : Stretch) → count ≡ length ss → x ≡ get_or ss (count - 1) x → suc n ≡ length ss
    → x ≡ get_or ss n d
last_read ss count n x d is read last =
    let place : count - 1 ≡ n = omega arith in
    read ∙ ap (λ i. get_or ss i x) place ∙ get_or_default ss n x d (omega arith)

module _ (ss : List Stretch) (count : ℕ) (x : Stretch) (who : Option ℕ) (is : count ≡ length ss) (some : 0 < count)
    (read : x ≡ get_or ss (count - 1) x) where
  pub differs_from_read : option_eq eqb x.who who ≡ false → (n : ℕ) (d : Stretch) → suc n ≡ length ss → (get_or ss n d).who ≢ who
  differs_from_read other n d last same =
      who_other x.who who other (ap (λ (s : Stretch). s.who) (last_read ss count n x d is read last) ∙ same)

  pub widen_longest : (end : ℕ) (y : Stretch) → y ≡ get_or ss (count - 1) y → AreLongest 0 ss → end_from 0 ss < end
      → AreLongest 0 (set ss (count - 1) (record { who = y.who; end = end }))
  widen_longest end y again longest h =
      subst (λ (s : Stretch). AreLongest 0 (set ss (count - 1) (record { who = s.who; end = end }))) (sym again)
      (longest_widen ss 0 (count - 1) end y longest (omega arith) h)

  pub widen_entries : (end : ℕ) (y : Stretch) → option_eq eqb x.who who ≡ true → y ≡ get_or ss (count - 1) y → AreLongest 0 ss → end_from 0 ss < end
      → entries_from 0 (set ss (count - 1) (record { who = y.who; end = end })) ≡ entries_from 0 ss ++ replicate (end - end_from 0 ss) who
  widen_entries end y same again longest h =
      let below : count - 1 < length ss = omega arith in
      let is_who : (get_or ss (count - 1) y).who ≡ who
      = sym (ap (λ (s : Stretch). s.who) (read ∙ get_or_default ss (count - 1) x y below)) ∙ who_same x.who who same in
      ap (λ (s : Stretch). entries_from 0 (set ss (count - 1) (record { who = s.who; end = end }))) again
      ∙ entries_widen ss 0 (count - 1) end y longest (omega arith) h
      ∙ ap (λ w. entries_from 0 ss ++ replicate (end - end_from 0 ss) w) is_who
