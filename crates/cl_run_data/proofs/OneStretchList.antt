-- A list of entries has one list of longest stretches.
use Rattle.std.proofs.Common.{◌≡◌, ℕ, zero, suc, ◌-◌, ◌<◌, ◌≤◌, inl, inr, Option, None, List, [], ◌∷◌, ◌++◌, length, get_or, replicate, refl, sym, ap, ◌∙◌, subst, arith}
use Rattle.std.proofs.lemmas.Bool.{cases_lt}
use Rattle.std.proofs.lemmas.List.{append_cancel_left}
use Rattle.cl_run_data.specs.{declared.stretches.Stretch.Stretch, Stretches.{entries_from, AreLongest, AreStretchesOf}, Inner.StretchPlaces.end_from}
use Rattle.cl_run_data.proofs.StretchFacts.{head_of, tail_of, length-entries, entry_in}

-- the stretches end no earlier than they begin
pub end_least : (ss : List Stretch) (from : ℕ) → AreLongest from ss → from ≤ end_from from ss
end_least [] from longest = omega arith
end_least (s ∷ ss) from longest = omega (arith, head_of from s ss longest, end_least ss s.end (tail_of from s ss longest))

module _ (from : ℕ) (s r : Stretch) (ss rs : List Stretch) (longest : AreLongest from (s ∷ ss)) (other : AreLongest from (r ∷ rs))
    (same : entries_from from (s ∷ ss) ≡ entries_from from (r ∷ rs)) where
  -- the first entries are the same
  first_who : s.who ≡ r.who
  first_who = sym (entry_in (s ∷ ss) from 0 from s longest (omega arith) (omega arith) (λ i below. absurd (omega arith)) (head_of from s ss longest))
      ∙ ap (λ (es : List (Option ℕ)). get_or es (from - from) None) same
      ∙ entry_in (r ∷ rs) from 0 from r other (omega arith) (omega arith) (λ i below. absurd (omega arith)) (head_of from r rs other)

-- and the first stretch of one list doesn't end before that of the other
not_earlier : (from : ℕ) (s r : Stretch) (ss rs : List Stretch) → AreLongest from (s ∷ ss) → AreLongest from (r ∷ rs)
    → entries_from from (s ∷ ss) ≡ entries_from from (r ∷ rs) → s.end < r.end → ⊥
not_earlier from s r [] rs longest other same earlier = omega (
  arith,
  earlier,
  ap length same,
  length-entries (s ∷ []) from longest,
  length-entries (r ∷ rs) from other,
  end_least rs r.end (tail_of from r rs other),
)
not_earlier from s r (next ∷ ss) rs longest other same earlier =
    let here : get_or (entries_from from (s ∷ next ∷ ss)) (s.end - from) None ≡ next.who
    = entry_in (s ∷ next ∷ ss) from 1 s.end s longest (omega arith) (omega (arith, longest.0)) (λ i below. first_ends i below) (head_of s.end next ss longest.2) in
    let there : get_or (entries_from from (r ∷ rs)) (s.end - from) None ≡ r.who
    = entry_in (r ∷ rs) from 0 s.end r other (omega arith) (omega (arith, longest.0)) (λ i below. absurd (omega arith)) earlier in
    longest.1 (first_who from s r (next ∷ ss) rs longest other same
    ∙ sym there ∙ ap (λ (es : List (Option ℕ)). get_or es (s.end - from) None) (sym same) ∙ here)
  where
    first_ends : (i : ℕ) → i < 1 → (get_or (s ∷ next ∷ ss) i s).end ≤ s.end
    first_ends zero below = omega arith
    first_ends (suc i) below = absurd (omega arith)

one_stretch : (s r : Stretch) → s.who ≡ r.who → s.end ≡ r.end → s ≡ r
one_stretch s r who end = λ i. record { who = who i; end = end i }

one_list : (ss rs : List Stretch) (from : ℕ) → AreLongest from ss → AreLongest from rs → entries_from from ss ≡ entries_from from rs → ss ≡ rs
one_list [] [] from longest other same = refl
one_list [] (r ∷ rs) from longest other same = absurd (omega (
  arith,
  ap length same,
  length-entries (r ∷ rs) from other,
  head_of from r rs other,
  end_least rs r.end (tail_of from r rs other),
))
one_list (s ∷ ss) [] from longest other same = absurd (omega (
  arith,
  ap length same,
  length-entries (s ∷ ss) from longest,
  head_of from s ss longest,
  end_least ss s.end (tail_of from s ss longest),
))
one_list (s ∷ ss) (r ∷ rs) from longest other same =
    cons_list s r ss rs first (one_list ss rs s.end (tail_of from s ss longest) rest_longest rest)
  where
    ends : s.end ≡ r.end
    ends = elim (cases_lt s.end r.end) [
      | inl earlier ↦ absurd (not_earlier from s r ss rs longest other same earlier)
      | inr not ↦ elim (cases_lt r.end s.end) [
        | inl later ↦ absurd (not_earlier from r s rs ss other longest (sym same) later)
        | inr also ↦ omega arith
      ]
    ]

    first : s ≡ r
    first = one_stretch s r (first_who from s r ss rs longest other same) ends

    -- what follows the same first stretch is the same
    rest : entries_from s.end ss ≡ entries_from s.end rs
    rest = append_cancel_left (replicate (s.end - from) s.who) _ _
        (same ∙ ap (λ (x : Stretch). replicate (x.end - from) x.who ++ entries_from x.end rs) (sym first))

    rest_longest : AreLongest s.end rs
    rest_longest = subst (λ n. AreLongest n rs) (sym ends) (tail_of from r rs other)

    cons_list : (x y : Stretch) (xs ys : List Stretch) → x ≡ y → xs ≡ ys → x ∷ xs ≡ y ∷ ys
    cons_list x y xs ys e f = cc

-- the longest stretches are determined by the entries
pub stretches_once : (entries : List (Option ℕ)) (one other : List Stretch) → AreStretchesOf entries one → AreStretchesOf entries other → one ≡ other
stretches_once entries one other first second =
    one_list one other 0 first.longest second.longest (first.entries_are ∙ sym second.entries_are)
