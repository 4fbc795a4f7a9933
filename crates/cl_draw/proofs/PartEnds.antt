-- Where a part of a span ends.
use Rattle.std.proofs.Common.{◌≡◌, ℕ, ◌+◌, ◌-◌, ◌^◌, ◌<◌, ◌≤◌, ◌⊎◌, inl, inr, Bool, true, false, ◌&&◌, nat_lt, min, refl, arith, if◌then◌else◌}
use Rattle.std.proofs.lemmas.Bool.{ltb-true, ltb-false}
use Rattle.cl_draw.specs.Inner.Ends.{left_end, part_end}

-- what is so of either choice is so of the one that is made
choose : (b : Bool) (P : ℕ → Type 0) (x y : ℕ) → (b ≡ true → P x) → (b ≡ false → P y) → P (if b then x else y)
choose true P x y one other = one refl
choose false P x y one other = other refl

choose_both : (a b : Bool) (P : ℕ → Type 0) (x y : ℕ) → (a ≡ true → b ≡ true → P x) → (a ≡ false → P y) → (b ≡ false → P y) → P (if a && b then x else y)
choose_both true true P x y one first second = one refl refl
choose_both true false P x y one first second = second refl
choose_both false b P x y one first second = first refl

record IsLeftEnd (left from end to : ℕ) : Type 0 where
  after : from < to
  by : to ≤ end
  most : to ≤ from + left
  before : to < end → to ≡ from + left

left_ends : (left from end : ℕ) → 0 < left → from < end → IsLeftEnd left from end (left_end left from end)
left_ends left from end some ordered = choose (nat_lt left (end - from)) (IsLeftEnd left from end) (from + left) end
    (λ is. let lt = ltb-true left (end - from) is in
    record { after = omega (arith, some); by = omega (arith, lt); most = omega arith; before = λ _. refl })
    (λ is. let le = ltb-false left (end - from) is in
    record { after = ordered; by = omega arith; most = omega (arith, le); before = λ below. absurd (omega (arith, below)) })

pub record IsPartEnd (due left from end to : ℕ) : Type 0 where
  pub after : from < to
  pub by : to ≤ end
  pub most : to ≤ from + left
  pub side : (to ≤ due) ⊎ (due ≤ from)
  pub before : to < end → (to ≡ from + left) ⊎ (to ≡ due)

pub part_ends : (due left from end : ℕ) → 0 < left → from < end → IsPartEnd due left from end (part_end due left from end)
part_ends due left from end some ordered =
    let whole = left_ends left from end some ordered in
    let to = left_end left from end in
    choose_both (nat_lt from due) (nat_lt due to) (IsPartEnd due left from end) due to
    (λ first second.
    let after = ltb-true from due first in
    let before = ltb-true due to second in
    record {
      after = after;
      by = omega (arith, before, whole.by);
      most = omega (arith, before, whole.most);
      side = inl (omega arith);
      before = λ below. inr refl;
    })
    (λ first. let past = ltb-false from due first in
    record { after = whole.after; by = whole.by; most = whole.most; side = inr past; before = λ below. inl (whole.before below) })
    (λ second. let past = ltb-false due to second in
    record { after = whole.after; by = whole.by; most = whole.most; side = inl past; before = λ below. inl (whole.before below) })

-- a deadline that is cut off at 64 bits cuts the same parts
pub uncapped : (due left from end to : ℕ) → end < 2 ^ 64 → IsPartEnd (min due (2 ^ 64 - 1)) left from end to → IsPartEnd due left from end to
uncapped due left from end to fits is = record {
  after = is.after;
  by = is.by;
  most = is.most;
  side = elim is.side [ inl before ↦ inl (omega (arith, before)) | inr past ↦ inr (omega (arith, past, is.after, is.by, fits)) ];
  before = λ below. elim (is.before below) [ inl whole ↦ inl whole | inr cut ↦ inr (omega (arith, cut, below, fits)) ];
}
