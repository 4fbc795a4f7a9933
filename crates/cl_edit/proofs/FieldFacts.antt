-- What a single word is read as, and which words say a value.
use Rattle.std.proofs.Common.{◌≡◌, ◌≢◌, ℕ, ◌^◌, ◌<◌, ◌≤◌, Bool, true, false, Option, Some, None, List, [], ◌∷◌, ◌++◌, length, refl, sym, ap, ◌∙◌, subst, get_or, arith}
use Rattle.std.specs.Prelude.{decimal, codes, nat_le, ◌&&◌, cond, if◌then◌else◌, IfSome}
use Rattle.std.specs.Str.{bytes_eq}
use Rattle.std.specs.Str.Parse.{digits_value}
use Rattle.std.proofs.lemmas.Bool.{false_from_ne_true}
use Rattle.std.proofs.lemmas.Bool.Decides.{nat_tests}
use Rattle.std.proofs.lemmas.Slice.Eq.{bytes_eq-Decides}
use Rattle.std.proofs.lemmas.Fmt.{decimal_is_IsNumeral}
use Rattle.std.proofs.lemmas.List.Folds.{list_all-append}
use Rattle.std.specs.List.{list_all}
use Rattle.std.specs.Char.{IsAsciiDigit}
use Rattle.std.specs.Option.{option_map}
use Rattle.std.proofs.lemmas.List.Sums.{list_all-from_AllPass}
use Rattle.cl_text.specs.Line.{is_graphic}
use Rattle.cl_text.proofs.{LineLemmas.graphic_decimal, DecimalLemmas.grammar_of_decimal}
use Rattle.cl_model.specs.declared.{limits.TheConstants.{MOST_TICKS, MOST_PRIORITY, MOST_REQUIRED, LEAST_JOBS_OF_BURST, MOST_JOBS_OF_BURST}, task.AccessKind.{AccessKind, TheVariants.{Explicit, Implicit, Timed}}, chain.LengthKind.TheVariants.{Reaction, Age, Reduced}}
use Rattle.cl_model.specs.{declared.chain.RequirementKind.{RequirementKind, TheVariants.{Length, Delay}}, Ranges.{IsTime, IsBurstCount}, Name.{is_name_byte, is_name, IsName}, Kinds.{access_word, requirement_word}, Reading.Checks.meaning_of}
use Rattle.cl_model.proofs.{ListFacts.both_pass, Names.name_bytes}
use Rattle.cl_edit.specs.{Said.has_bytes, Lines.{flag_word, deadline_word}, Inner.{Parts.parts, Fields.{name_in, decimal_from, time_in, flag_in, access_in, deadline_in, names_in, requirement_kind_in}}}

-- a choice of a value or none
pub chosen : {X : Type 0} (b : Bool) (x y : X) → cond b (Some x) None ≡ Some y → (b ≡ true) × (x ≡ y)
chosen true x y is = (refl, cc)
chosen false x y is = absurd (cc)

not_chosen : {X : Type 0} (b : Bool) (x : X) → (b ≡ true → ⊥) → cond b (Some x) None ≡ None
not_chosen b x fails = ap (λ t. cond t (Some x) None) (false_from_ne_true b fails)

-- the same of any two values
pub choose : {X : Type 0} (b : Bool) (x y z : X) (P : Type 0) → cond b x y ≡ z → (b ≡ true → x ≡ z → P) → (y ≡ z → P) → P
choose true x y z P is here other = here refl is
choose false x y z P is here other = other is

pub some_same : {X : Type 0} (x y : X) → Some x ≡ Some y → x ≡ y
some_same x y is = cc

pub of_word : (word other : List ℕ) → bytes_eq word other ≡ true → word ≡ other
of_word word other same = (bytes_eq-Decides word other).0 same

-- three tests that all pass
all_three : (a b c : Bool) → (a && b && c) ≡ true → (a ≡ true) × (b ≡ true) × (c ≡ true)
all_three true true true is = (refl, refl, refl)
all_three true true false is = absurd (cc)
all_three true false c is = absurd (cc)
all_three false b c is = absurd (cc)

pub le_of : (m n : ℕ) → nat_le m n ≡ true → m ≤ n
le_of m n is = grind (arith, nat_tests)

of_le : (m n : ℕ) → m ≤ n → nat_le m n ≡ true
of_le m n le = grind (arith, nat_tests)

-- ---- numbers

pub number_said : (least most : ℕ) (word : List ℕ) (n : ℕ) → decimal_from least most word ≡ Some n → (word ≡ decimal n) × (least ≤ n) × (n ≤ most)
unfolding decimal_from
number_said least most word n is =
    let value = digits_value 10 word in
    let both = chosen (bytes_eq word (decimal value) && nat_le least value && nat_le value most) value n is in
    let tests = all_three (bytes_eq word (decimal value)) (nat_le least value) (nat_le value most) both.0 in
    let same : word ≡ decimal value = (bytes_eq-Decides word (decimal value)).0 tests.0 in
    (same ∙ ap decimal both.1, subst (λ m. least ≤ m) both.1 (le_of least value tests.1), subst (λ m. m ≤ most) both.1 (le_of value most tests.2))

pub number_read : (least most n : ℕ) → n < 2 ^ 64 → least ≤ n → n ≤ most → decimal_from least most (decimal n) ≡ Some n
unfolding decimal_from
number_read least most n small low high =
    let value : digits_value 10 (decimal n) ≡ n = (decimal_is_IsNumeral n small).1 in
    let same : bytes_eq (decimal n) (decimal n) ≡ true = (bytes_eq-Decides (decimal n) (decimal n)).1 refl in
    rw (value, same, of_le least n low, of_le n most high) refl

pub no_number : (least most : ℕ) (word : List ℕ) → ((n : ℕ) → least ≤ n → n ≤ most → word ≢ decimal n) → decimal_from least most word ≡ None
unfolding decimal_from
no_number least most word none =
    let value = digits_value 10 word in
    not_chosen (bytes_eq word (decimal value) && nat_le least value && nat_le value most) value (λ passes.
    let tests = all_three (bytes_eq word (decimal value)) (nat_le least value) (nat_le value most) passes in
    none value (le_of least value tests.1) (le_of value most tests.2) ((bytes_eq-Decides word (decimal value)).0 tests.0))

-- ---- lists of names

-- all parts are names, and few enough
pub names_read : (most : ℕ) (word : List ℕ) (names : List (List ℕ)) → bytes_eq word (codes "*") ≡ false → parts 0x2C word ≡ names
    → list_all is_name names ≡ true → length names ≤ most → names_in most word ≡ Some names
names_read most word names star are good few = rw (star, are, of_le (length names) most few, good) refl

pub name_said : (word name : List ℕ) → name_in word ≡ Some name → (is_name word ≡ true) × (word ≡ name)
name_said word name is = chosen (is_name word) word name is

-- one more name
pub names_more : (names : List (List ℕ)) (name : List ℕ) → list_all is_name names ≡ true → is_name name ≡ true → list_all is_name (names ++ name ∷ []) ≡ true
names_more names name all one = list_all-append is_name names (name ∷ []) ∙ rw (all, one) refl

-- ---- which words say a value

-- a text has bytes, and all of them are graphic
abbrev pub is_word : List ℕ → Bool
is_word word = has_bytes word && list_all is_graphic word

pub both_true : (a b : Bool) → a ≡ true → b ≡ true → (a && b) ≡ true
both_true a b one other = rw (one, other) refl

some_bytes : (text : List ℕ) → text ≢ [] → has_bytes text ≡ true
some_bytes [] some = absurd (some refl)
some_bytes (byte ∷ bytes) some = refl

-- a value is read of one word alone
pub record IsField {X : Type 0} (read : List ℕ → Option X) (write : X → List ℕ) (Good : X → Type 0) : Type 0 where
  pub said : (word : List ℕ) (x : X) → read word ≡ Some x → (word ≡ write x) × Good x
  pub back : (x : X) → Good x → read (write x) ≡ Some x
  pub word : (x : X) → Good x → is_word (write x) ≡ true

graphic_byte : (byte : ℕ) → is_name_byte byte ≡ true → is_graphic byte ≡ true
graphic_byte byte is = grind (arith, nat_tests)

graphic_bytes : (name : List ℕ) → list_all is_name_byte name ≡ true → list_all is_graphic name ≡ true
graphic_bytes [] is = refl
graphic_bytes (byte ∷ name) is =
    rw (
      graphic_byte byte (both_pass (is_name_byte byte) (list_all is_name_byte name) is).0,
      graphic_bytes name (both_pass (is_name_byte byte) (list_all is_name_byte name) is).1,
    )
    refl

name_some : (name : List ℕ) → IsName name → has_bytes name ≡ true
name_some [] named = absurd (cc)
name_some (byte ∷ bytes) named = refl

pub name_field : IsField name_in (λ name. name) IsName
name_field = record {
  said = λ word name is. let said = name_said word name is in (said.1, subst (λ n. is_name n ≡ true) said.1 said.0);
  back = λ name named. rw named refl;
  word = λ name named. both_true (has_bytes name) (list_all is_graphic name) (name_some name named) (graphic_bytes name (name_bytes name named));
}

pub number_field : (least most : ℕ) → most < 2 ^ 64 → IsField (decimal_from least most) decimal (λ n. (least ≤ n) × (n ≤ most))
number_field least most small = record {
  said = λ word n is. let said = number_said least most word n is in (said.0, (said.1, said.2));
  back = λ n within. number_read least most n (omega arith) within.0 within.1;
  word =
      λ n within. both_true (has_bytes (decimal n)) (list_all is_graphic (decimal n)) (some_bytes (decimal n) (grammar_of_decimal (decimal n) n (omega arith) refl).not_empty)
      (list_all-from_AllPass is_graphic (decimal n) (graphic_decimal n (omega arith)));
}

pub time_field : IsField time_in decimal IsTime
time_field = number_field 1 MOST_TICKS (omega arith)

pub ticks_field : IsField (decimal_from 0 MOST_TICKS) decimal (λ n. (0 ≤ n) × (n ≤ MOST_TICKS))
ticks_field = number_field 0 MOST_TICKS (omega arith)

pub priority_field : IsField (decimal_from 0 MOST_PRIORITY) decimal (λ n. (0 ≤ n) × (n ≤ MOST_PRIORITY))
priority_field = number_field 0 MOST_PRIORITY (omega arith)

pub most_field : IsField (decimal_from 0 MOST_REQUIRED) decimal (λ n. (0 ≤ n) × (n ≤ MOST_REQUIRED))
most_field = number_field 0 MOST_REQUIRED (omega arith)

pub count_field : IsField (decimal_from LEAST_JOBS_OF_BURST MOST_JOBS_OF_BURST) decimal IsBurstCount
count_field = number_field LEAST_JOBS_OF_BURST MOST_JOBS_OF_BURST (omega arith)

-- ---- yes or no, kinds of access

flag_said : (word : List ℕ) (flag : Bool) → flag_in word ≡ Some flag → (word ≡ flag_word flag) × Unit {0}
flag_said word flag is =
    choose (bytes_eq word (codes "yes")) (Some true) (if bytes_eq word (codes "no") then Some false else None) (Some flag) ((word ≡ flag_word flag) × Unit {0}) is
    (λ here yes. (of_word word (codes "yes") here ∙ ap flag_word (some_same true flag yes), tt))
    (λ other. let said = chosen (bytes_eq word (codes "no")) false flag other in (of_word word (codes "no") said.0 ∙ ap flag_word said.1, tt))

flag_back : (flag : Bool) → Unit {0} → flag_in (flag_word flag) ≡ Some flag
flag_back true _ = refl
flag_back false _ = refl

flag_is_word : (flag : Bool) → Unit {0} → is_word (flag_word flag) ≡ true
flag_is_word true _ = refl
flag_is_word false _ = refl

pub flag_field : IsField flag_in flag_word (λ flag. Unit {0})
flag_field = record { said = flag_said; back = flag_back; word = flag_is_word }

access_said : (word : List ℕ) (access : AccessKind) → access_in word ≡ Some access → (word ≡ access_word access) × Unit {0}
access_said word access is =
    choose (bytes_eq (codes "explicit") word) (Some Explicit) (meaning_of ((codes "implicit", Implicit) ∷ (codes "timed", Timed) ∷ []) word)
    (Some access) ((word ≡ access_word access) × Unit {0}) is
    (λ here yes. (sym (of_word (codes "explicit") word here) ∙ ap access_word (some_same Explicit access yes), tt))
    (λ other. choose (bytes_eq (codes "implicit") word) (Some Implicit) (meaning_of ((codes "timed", Timed) ∷ []) word)
    (Some access) ((word ≡ access_word access) × Unit {0}) other
    (λ here yes. (sym (of_word (codes "implicit") word here) ∙ ap access_word (some_same Implicit access yes), tt))
    (λ last. let said = chosen (bytes_eq (codes "timed") word) Timed access last in
    (sym (of_word (codes "timed") word said.0) ∙ ap access_word said.1, tt)))

access_back : (access : AccessKind) → Unit {0} → access_in (access_word access) ≡ Some access
access_back Explicit _ = refl
access_back Implicit _ = refl
access_back Timed _ = refl

access_is_word : (access : AccessKind) → Unit {0} → is_word (access_word access) ≡ true
access_is_word Explicit _ = refl
access_is_word Implicit _ = refl
access_is_word Timed _ = refl

pub access_field : IsField access_in access_word (λ access. Unit {0})
access_field = record { said = access_said; back = access_back; word = access_is_word }

-- ---- kinds of requirement

requirement_said : (word : List ℕ) (kind : RequirementKind) → requirement_kind_in word ≡ Some kind → (word ≡ requirement_word kind) × Unit {0}
requirement_said word kind is =
    choose (bytes_eq (codes "reaction") word) (Some (Length Reaction)) (meaning_of ((codes "age", Length Age) ∷ (codes "reduced", Length Reduced) ∷ (codes "delay", Delay) ∷ []) word)
    (Some kind) ((word ≡ requirement_word kind) × Unit {0}) is
    (λ here yes. (sym (of_word (codes "reaction") word here) ∙ ap requirement_word (some_same (Length Reaction) kind yes), tt))
    (λ other. choose (bytes_eq (codes "age") word) (Some (Length Age)) (meaning_of ((codes "reduced", Length Reduced) ∷ (codes "delay", Delay) ∷ []) word)
    (Some kind) ((word ≡ requirement_word kind) × Unit {0}) other
    (λ here yes. (sym (of_word (codes "age") word here) ∙ ap requirement_word (some_same (Length Age) kind yes), tt))
    (λ other. choose (bytes_eq (codes "reduced") word) (Some (Length Reduced)) (meaning_of ((codes "delay", Delay) ∷ []) word)
    (Some kind) ((word ≡ requirement_word kind) × Unit {0}) other
    (λ here yes. (sym (of_word (codes "reduced") word here) ∙ ap requirement_word (some_same (Length Reduced) kind yes), tt))
    (λ last. let said = chosen (bytes_eq (codes "delay") word) Delay kind last in
    (sym (of_word (codes "delay") word said.0) ∙ ap requirement_word said.1, tt))))

requirement_back : (kind : RequirementKind) → Unit {0} → requirement_kind_in (requirement_word kind) ≡ Some kind
requirement_back (Length Reaction) _ = refl
requirement_back (Length Age) _ = refl
requirement_back (Length Reduced) _ = refl
requirement_back Delay _ = refl

requirement_is_word : (kind : RequirementKind) → Unit {0} → is_word (requirement_word kind) ≡ true
requirement_is_word (Length Reaction) _ = refl
requirement_is_word (Length Age) _ = refl
requirement_is_word (Length Reduced) _ = refl
requirement_is_word Delay _ = refl

pub requirement_field : IsField requirement_kind_in requirement_word (λ kind. Unit {0})
requirement_field = record { said = requirement_said; back = requirement_back; word = requirement_is_word }

-- ---- a deadline

star_digit : IsAsciiDigit 42 → ⊥
star_digit is = grind (arith, nat_tests)

-- a decimal is not the word for none
decimal_apart : (n : ℕ) → n < 2 ^ 64 → bytes_eq (decimal n) (codes "*") ≡ false
decimal_apart n small = false_from_ne_true _ (λ same.
    let star : decimal n ≡ codes "*" = of_word (decimal n) (codes "*") same in
    let digit = (grammar_of_decimal (decimal n) n small refl).digits 0 0 (omega (arith, ap length star)) in
    absurd (star_digit (subst (λ w. IsAsciiDigit (get_or w 0 0)) star digit)))

deadline_of_time : (word : List ℕ) (deadline : Option ℕ) (o : Option ℕ) → time_in word ≡ o → option_map Some o ≡ Some deadline
    → (word ≡ deadline_word deadline) × IfSome deadline IsTime
deadline_of_time word deadline None time is = absurd (cc)
deadline_of_time word deadline (Some ticks) time is =
    let said = time_field.said word ticks time in
    subst (λ d. (word ≡ deadline_word d) × IfSome d IsTime) (some_same (Some ticks) deadline is) (said.0, said.1)

deadline_said : (word : List ℕ) (deadline : Option ℕ) → deadline_in word ≡ Some deadline → (word ≡ deadline_word deadline) × IfSome deadline IsTime
deadline_said word deadline is =
    choose (bytes_eq word (codes "*")) (Some None) (option_map Some (time_in word)) (Some deadline) ((word ≡ deadline_word deadline) × IfSome deadline IsTime) is
    (λ here yes. subst (λ d. (word ≡ deadline_word d) × IfSome d IsTime) (some_same None deadline yes) (of_word word (codes "*") here, tt))
    (λ other. deadline_of_time word deadline (time_in word) refl other)

deadline_back : (deadline : Option ℕ) → IfSome deadline IsTime → deadline_in (deadline_word deadline) ≡ Some deadline
deadline_back None _ = refl
deadline_back (Some ticks) time = rw (decimal_apart ticks (omega (arith, time.1)), time_field.back ticks time) refl

deadline_is_word : (deadline : Option ℕ) → IfSome deadline IsTime → is_word (deadline_word deadline) ≡ true
deadline_is_word None _ = refl
deadline_is_word (Some ticks) time = time_field.word ticks time

pub deadline_field : IsField deadline_in deadline_word (λ deadline. IfSome deadline IsTime)
deadline_field = record { said = deadline_said; back = deadline_back; word = deadline_is_word }
