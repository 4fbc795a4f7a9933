-- Two fetches in turn, seen as one call of the shelf.
use Rattle.std.proofs.Common.{◌≡◌, ◌≢◌, ◌⊎◌, ℕ, ◌+◌, ◌-◌, ◌^◌, ◌≤◌, Bool, true, false, inl, inr, List, refl, sym, ap, ◌∙◌, subst, arith}
use Rattle.std.specs.Str.{bytes_eq}
use Rattle.std.proofs.lemmas.Bool.{cases_lt}
use Rattle.std.proofs.lemmas.Slice.Eq.{bytes_eq-Decides}
use Rattle.cl_io.specs.{Counts.{Rose, RisesAlone}, Names.SameAtEach, Shelf.{Held, MayBe, MayHave}}
use Rattle.cl_engine.specs.{Calls.{ShelfCall, StaysAt, FetchesAlone}, Fetched.{Fetched, Unasked, Bytes, Fault, TooLong, MayGive}}

-- what the shelf holds is as it was, and so are both numbers of every name but these two
pub record LeavesTwo (shelf : ShelfCall) (one other : List ℕ) : Type 0 where
  pub same : SameAtEach shelf.held shelf.held_after
  pub others : (name : List ℕ) → name ≢ one → name ≢ other → StaysAt shelf name

-- ---- numbers that rise

same_or_other : (xs ys : List ℕ) → (xs ≡ ys) ⊎ (xs ≢ ys)
same_or_other xs ys = by_test (bytes_eq xs ys) refl
  where
    by_test : (test : Bool) → bytes_eq xs ys ≡ test → (xs ≡ ys) ⊎ (xs ≢ ys)
    by_test true is = inl ((bytes_eq-Decides xs ys).0 is)
    by_test false is = inr (λ same. let yes : bytes_eq xs ys ≡ true = (bytes_eq-Decides xs ys).1 same in absurd cc)

-- a number falls at no name
rises : (name : List ℕ) (before after : List ℕ → ℕ) → RisesAlone name before after → (other : List ℕ) → before other ≤ after other
rises name before after rise other = elim (same_or_other other name) [
  | inl same ↦ subst (λ n. before n ≤ after n) (sym same) rise.here
  | inr differs ↦ omega (arith, rise.others other differs)
]

rose_on : (a b c : ℕ) → Rose a b → b ≤ c → Rose a c
rose_on a b c rose on = λ small. omega (arith, rose small, on)

rose_later : (a b c : ℕ) → a ≤ b → b ≤ c → Rose b c → Rose a c
rose_later a b c up on rose = λ small. elim (cases_lt b (2 ^ 64 - 1)) [
  | inl less ↦ omega (arith, up, rose less)
  | inr full ↦ omega (arith, small, full, on)
]

-- ---- the two calls as one

-- the second call finds what the first left
pub record Follows (one two : ShelfCall) : Type 0 where
  pub held : two.held ≡ one.held_after
  pub faults : two.faults ≡ one.faults_after
  pub longest : two.longest ≡ one.longest_after

abbrev pub through : (one two : ShelfCall) → ShelfCall
through one two = record {
  held = one.held;
  held_after = two.held_after;
  faults = one.faults;
  faults_after = two.faults_after;
  longest = one.longest;
  longest_after = two.longest_after;
}

at_name : {X : Type 0} (f g : List ℕ → X) (name : List ℕ) → f ≡ g → f name ≡ g name
at_name {X = X} f g name same = ap (λ (h : List ℕ → X). h name) same

module _ (one two : ShelfCall) (joins : Follows one two) (first second : List ℕ) (alone : FetchesAlone one first) (later : FetchesAlone two second) where
  pub fetches_two : LeavesTwo (through one two) first second
  fetches_two = record {
    same = λ name. later.same name ∙ at_name two.held one.held_after name joins.held ∙ alone.same name;
    others = λ name apart beside. record {
      faults = later.faults.others name beside ∙ at_name two.faults one.faults_after name joins.faults ∙ alone.faults.others name apart;
      longest = later.longest.others name beside ∙ at_name two.longest one.longest_after name joins.longest ∙ alone.longest.others name apart;
    };
  }

  -- no number of the first name falls in the second call
  more_faults : one.faults_after first ≤ two.faults_after first
  more_faults = subst (λ n. n ≤ two.faults_after first) (at_name two.faults one.faults_after first joins.faults) (rises second two.faults two.faults_after later.faults first)

  longer : one.longest_after first ≤ two.longest_after first
  longer = subst (λ n. n ≤ two.longest_after first) (at_name two.longest one.longest_after first joins.longest)
      (rises second two.longest two.longest_after later.longest first)

  -- nor does one of the second name in the first
  fewer_faults : one.faults second ≤ two.faults second
  fewer_faults = subst (λ n. one.faults second ≤ n) (sym (at_name two.faults one.faults_after second joins.faults)) (rises first one.faults one.faults_after alone.faults second)

  held_is : two.held second ≡ one.held second
  held_is = at_name two.held one.held_after second joins.held ∙ alone.same second

  -- what a fetch of either call may have given it may have given in both
  pub first_may : (limit : ℕ) (fetch : Fetched) → MayGive one first limit fetch → MayGive (through one two) first limit fetch
  first_may limit Unasked may = may
  first_may limit (Bytes bytes) may = (may.0, may.1, omega (arith, may.2, longer))
  first_may limit Fault may = rose_on _ _ _ may more_faults
  first_may limit TooLong (inl rose, past) = (inl (rose_on _ _ _ rose more_faults), omega (arith, past, longer))
  first_may limit TooLong (inr more, past) = (inr more, omega (arith, past, longer))

  pub second_may : (limit : ℕ) (fetch : Fetched) → MayGive two second limit fetch → MayGive (through one two) second limit fetch
  second_may limit Unasked may = may
  second_may limit (Bytes bytes) may = (subst (λ (h : Held). MayBe h bytes) held_is may.0, may.1, may.2)
  second_may limit Fault may = rose_later _ _ _ fewer_faults later.faults.here may
  second_may limit TooLong (inl rose, past) = (inl (rose_later _ _ _ fewer_faults later.faults.here rose), past)
  second_may limit TooLong (inr more, past) = (inr (subst (λ (h : Held). MayHave h (limit + 1)) held_is more), past)
