-- Lists that go on to the end of a line, read one after another.
use Rattle.std.proofs.Common.{◌≡◌, ◌≢◌, ℕ, zero, suc, ◌-◌, ◌<◌, ◌≤◌, Option, Some, None, List, [], ◌∷◌, ◌++◌, length, length-append, append_assoc, refl, sym, ap, ◌∙◌, subst, arith}
use Rattle.std.specs.Prelude.{Err}
use Rattle.std.specs.List.{flat_map}
use Rattle.std.specs.Option.{option_map}
use Rattle.std.proofs.lemmas.List.{append-nil}
use Rattle.cl_edit.specs.{declared.fault.Unread.{Unread, TheVariants.{Bad, NoMemory}}, Inner.{Parts.{then_read, ReadsPart, ReadsUpTo}, LineReads.list_in}}
use Rattle.cl_edit.proofs.FieldFacts.{some_same}

-- something was read, and the rest behind it
pub then_some : {X Y : Type 0} (o : Option (X × List (List ℕ))) (next : X → List (List ℕ) → Option Y) (y : Y) → then_read o next ≡ Some y
    → (x : X) × (left : List (List ℕ)) × (o ≡ Some (x, left)) × (next x left ≡ Some y)
then_some None next y is = absurd (cc)
then_some (Some read) next y is = (read.0, read.1, refl, is)

pub map_some : {X Y : Type 0} (f : X → Y) (o : Option X) (y : Y) → option_map f o ≡ Some y → (x : X) × (o ≡ Some x) × (f x ≡ y)
map_some f None y is = absurd (cc)
map_some f (Some x) y is = (x, refl, some_same (f x) y is)

module _ {X : Type 0} (read : List X → List (List ℕ) → Option (X × List (List ℕ))) where
  -- ---- what was read, before what is read of the words that are left

  abbrev pub AreReadUpTo : (most : ℕ) → (words : List (List ℕ)) → List X → (left : List (List ℕ)) → Type 0
  AreReadUpTo most words xs left = list_in read most [] words ≡ option_map (λ more. xs ++ more) (list_in read (most - length xs) xs left)

  -- no word is left
  none_of_none : (most : ℕ) (above : List X) → list_in read most above [] ≡ Some []
  unfolding list_in
  none_of_none zero above = refl
  none_of_none (suc most) above = refl

  pub all_read : (most : ℕ) (words : List (List ℕ)) (xs : List X) (left : List (List ℕ)) → AreReadUpTo most words xs left → left ≡ []
      → list_in read most [] words ≡ Some xs
  all_read most words xs left are none =
      are ∙ ap (λ w. option_map (λ more. xs ++ more) (list_in read (most - length xs) xs w)) none
      ∙ ap (option_map (λ more. xs ++ more)) (none_of_none (most - length xs) xs) ∙ ap Some (append-nil xs)

  -- a word is left where there are as many as there may be
  too_many_of : (above : List X) (words : List (List ℕ)) → words ≢ [] → list_in read zero above words ≡ None
  unfolding list_in
  too_many_of above [] some = absurd (some refl)
  too_many_of above (word ∷ words) some = refl

  pub too_many_left : (most : ℕ) (words : List (List ℕ)) (xs : List X) (left : List (List ℕ)) → AreReadUpTo most words xs left → length xs ≡ most → left ≢ []
      → list_in read most [] words ≡ None
  too_many_left most words xs left are full some =
      let zero_left : most - length xs ≡ zero = omega arith in
      are ∙ ap (option_map (λ more. xs ++ more)) (ap (λ n. list_in read n xs left) zero_left ∙ too_many_of xs left some)

  -- what stands next isn't read
  bad_of : (most : ℕ) (above : List X) (words : List (List ℕ)) → words ≢ [] → read above words ≡ None → list_in read most above words ≡ None
  unfolding list_in
  bad_of most above [] some bad = absurd (some refl)
  bad_of zero above (word ∷ words) some bad = refl
  bad_of (suc most) above (word ∷ words) some bad = ap (λ o. then_read o (λ x left. option_map (λ xs. x ∷ xs) (list_in read most (above ++ x ∷ []) left))) bad

  pub bad_next : (most : ℕ) (words : List (List ℕ)) (xs : List X) (left : List (List ℕ)) → AreReadUpTo most words xs left → left ≢ [] → read xs left ≡ None
      → list_in read most [] words ≡ None
  bad_next most words xs left are some bad = are ∙ ap (option_map (λ more. xs ++ more)) (bad_of (most - length xs) xs left some bad)

  pub unread_next : (most : ℕ) (words : List (List ℕ)) (xs : List X) (left behind : List (List ℕ)) (fault : Unread) → AreReadUpTo most words xs left → left ≢ []
      → ReadsUpTo {X = X} (Err fault) behind (read xs left) → ReadsPart {X = List X} (Err fault) (list_in read most [] words)
  unread_next most words xs left behind Bad are some bad = bad_next most words xs left are some bad
  unread_next most words xs left behind NoMemory are some bad = tt

  -- or one more
  more_of : (most : ℕ) (above : List X) (words : List (List ℕ)) (x : X) (left : List (List ℕ)) → words ≢ [] → read above words ≡ Some (x, left)
      → list_in read (suc most) above words ≡ option_map (λ xs. x ∷ xs) (list_in read most (above ++ x ∷ []) left)
  unfolding list_in
  more_of most above [] x left some is = absurd (some refl)
  more_of most above (word ∷ words) x left some is = ap (λ o. then_read o (λ x left. option_map (λ xs. x ∷ xs) (list_in read most (above ++ x ∷ []) left))) is

  joined_options : (xs : List X) (x : X) (o : Option (List X))
      → option_map (λ more. xs ++ more) (option_map (λ more. x ∷ more) o) ≡ option_map (λ more. (xs ++ x ∷ []) ++ more) o
  joined_options xs x None = refl
  joined_options xs x (Some more) = ap Some (sym (append_assoc xs (x ∷ []) more))

  pub one_more_read : (most : ℕ) (words : List (List ℕ)) (xs : List X) (left : List (List ℕ)) (x : X) (behind : List (List ℕ)) → AreReadUpTo most words xs left
      → length xs < most → left ≢ [] → read xs left ≡ Some (x, behind) → AreReadUpTo most words (xs ++ x ∷ []) behind
  one_more_read most words xs left x behind are short some is =
      let size : most - length xs ≡ suc (most - length (xs ++ x ∷ [])) = omega (arith, length-append xs (x ∷ [])) in
      are ∙ ap (option_map (λ more. xs ++ more)) (ap (λ n. list_in read n xs left) size ∙ more_of (most - length (xs ++ x ∷ [])) xs left x behind some is)
      ∙ joined_options xs x (list_in read (most - length (xs ++ x ∷ [])) (xs ++ x ∷ []) behind)

-- ---- which words are read as a list

-- each of them is good, by those above it
abbrev pub AreGood : {X : Type 0} → (Good : List X → X → Type 0) → List X → (above : List X) → Type 0
AreGood Good [] above = Unit {0}
AreGood Good (x ∷ xs) above = Good above x × AreGood Good xs (above ++ x ∷ [])

-- the words of one are read as that one alone
pub record IsItem {X : Type 0} (read : List X → List (List ℕ) → Option (X × List (List ℕ))) (write : X → List (List ℕ)) (Good : List X → X → Type 0) : Type 0 where
  pub said : (above : List X) (words : List (List ℕ)) (x : X) (left : List (List ℕ)) → read above words ≡ Some (x, left) → (words ≡ write x ++ left) × Good above x
  pub back : (above : List X) (x : X) (left : List (List ℕ)) → Good above x → read above (write x ++ left) ≡ Some (x, left)
  pub some : (x : X) (left : List (List ℕ)) → write x ++ left ≢ []

abbrev AreSaid : {X : Type 0} → (write : X → List (List ℕ)) → (Good : List X → X → Type 0) → (most : ℕ) → (above : List X) → List (List ℕ) → List X → Type 0
AreSaid write Good most above words xs = (words ≡ flat_map write xs) × (length xs ≤ most) × AreGood Good xs above

module _ {X : Type 0} (read : List X → List (List ℕ) → Option (X × List (List ℕ))) (write : X → List (List ℕ)) (Good : List X → X → Type 0) (item : IsItem read write Good) where
  none_said : (most : ℕ) (above xs : List X) → [] ≡ xs → AreSaid write Good most above [] xs
  none_said most above xs is = subst (AreSaid write Good most above []) is (refl, omega arith, tt)

  pub list_said : (most : ℕ) (above : List X) (words : List (List ℕ)) (xs : List X) → list_in read most above words ≡ Some xs → AreSaid write Good most above words xs
  unfolding list_in
  list_said zero above [] xs is = none_said zero above xs (some_same [] xs is)
  list_said (suc most) above [] xs is = none_said (suc most) above xs (some_same [] xs is)
  list_said zero above (word ∷ words) xs is = absurd (cc)
  list_said (suc most) above (word ∷ words) xs is =
      let a = then_some (read above (word ∷ words)) (λ x left. option_map (λ xs. x ∷ xs) (list_in read most (above ++ x ∷ []) left)) xs is in
      let b = map_some (λ xs. a.0 ∷ xs) (list_in read most (above ++ a.0 ∷ []) a.1) xs a.3 in
      let first = item.said above (word ∷ words) a.0 a.1 a.2 in
      let more = list_said most (above ++ a.0 ∷ []) a.1 b.0 b.1 in
      subst (AreSaid write Good (suc most) above (word ∷ words)) b.2
      (first.0 ∙ ap (λ w. write a.0 ++ w) more.0, omega (arith, more.1), (first.1, more.2))

  back_more : (most : ℕ) (above : List X) (words : List (List ℕ)) (x : X) (left : List (List ℕ)) (xs : List X) → words ≢ [] → read above words ≡ Some (x, left)
      → list_in read most (above ++ x ∷ []) left ≡ Some xs → list_in read (suc most) above words ≡ Some (x ∷ xs)
  back_more most above words x left xs some is more = more_of read most above words x left some is ∙ ap (option_map (λ xs. x ∷ xs)) more

  pub list_back : (most : ℕ) (above : List X) (xs : List X) → length xs ≤ most → AreGood Good xs above → list_in read most above (flat_map write xs) ≡ Some xs
  list_back zero above [] few good = none_of_none read zero above
  list_back (suc most) above [] few good = none_of_none read (suc most) above
  list_back zero above (x ∷ xs) few good = absurd (omega arith)
  list_back (suc most) above (x ∷ xs) few good =
      back_more most above (write x ++ flat_map write xs) x (flat_map write xs) xs (item.some x (flat_map write xs)) (item.back above x (flat_map write xs) good.0)
      (list_back most (above ++ x ∷ []) xs (omega arith) good.1)
