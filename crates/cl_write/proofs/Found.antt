-- The value at a key of members that are made of entries.
use Rattle.std.proofs.Common.{◌≡◌, ℕ, Bool, true, false, ◌&&◌, ◌||◌, not, cond, List, [], ◌∷◌, Option, Some, None, Ordering, Less, Equal, Greater, nat_cmp, is_eq, refl, sym, ap, ◌∙◌}
use Rattle.std.specs.List.{list_any, list_all}
use Rattle.std.specs.Ordering.{match_ordering}
use Rattle.std.specs.Str.{bytes_eq}
use Rattle.std.specs.Cmp.Lexicographic.{slice_cmp}
use Rattle.std.proofs.lemmas.Cmp.{nat_list_cmp_total}
use Rattle.std.specs.Cmp.{tied_itself}
use Rattle.std.proofs.lemmas.Map.Text.{is_eq-slice_cmp}
use Rattle.std.proofs.lemmas.Slice.Eq.{bytes_eq-Decides}
use Rattle.toml.specs.Data.{Data, Members, no_members, member, get_member}
use Rattle.cl_model.specs.{declared.place.Key.Key, Place.key_text, Reading.Checks.{value_at, has_only}}
use Rattle.cl_model.proofs.ListFacts.{both_pass}
use Rattle.cl_write.specs.Entries.{Entry, with_member, with_entry, with_entries, members_with}

neither : (a b : Bool) → not (a || b) ≡ true → (a ≡ false) × (b ≡ false)
neither true b h = absurd cc
neither false true h = absurd cc
neither false false h = (refl, refl)

-- ---- one member more

-- what is found at a key, by whether it is the first key
by_test : (o : Ordering) (here rest : Option Data) → match_ordering o rest here rest ≡ cond (is_eq o) here rest
by_test Less here rest = refl
by_test Equal here rest = refl
by_test Greater here rest = refl

first_found : (k l : List ℕ) (d : Data) (ms : Members) → get_member k (member l d ms) ≡ cond (bytes_eq k l) (Some d) (get_member k ms)
first_found k l d ms = by_test (slice_cmp nat_cmp k l) (Some d) (get_member k ms) ∙ ap (λ t. cond t (Some d) (get_member k ms)) (is_eq-slice_cmp k l)

equal_keys : (k l : List ℕ) → slice_cmp nat_cmp k l ≡ Equal → k ≡ l
equal_keys k l same = (bytes_eq-Decides k l).0 (sym (is_eq-slice_cmp k l) ∙ ap is_eq same)

-- the later of two values at one key is hidden, and tests of two keys that differ go either way
hidden : (t : Bool) (x y z : Option Data) → cond t x z ≡ cond t x (cond t y z)
hidden true x y z = refl
hidden false x y z = refl

swapped : (a b : Bool) (x y z : Option Data) → (a ≡ true → b ≡ true → ⊥) → cond b x (cond a y z) ≡ cond a y (cond b x z)
swapped true true x y z both = absurd (both refl refl)
swapped true false x y z both = refl
swapped false b x y z both = refl

equal_order : (l m : List ℕ) → l ≡ m → Greater ≡ slice_cmp nat_cmp l m → ⊥
equal_order l m same greater =
    let tied : slice_cmp nat_cmp l m ≡ Equal = rw same (tied_itself nat_list_cmp_total m) in absurd cc

found_with_member : (k l : List ℕ) (d : Data) (ms : Members) → get_member k (with_member l d ms) ≡ cond (bytes_eq k l) (Some d) (get_member k ms)
unfolding with_member
found_with_member k l d no_members = first_found k l d no_members
found_with_member k l d (member m e ms) = by_order (slice_cmp nat_cmp l m) refl (found_with_member k l d ms)
  where
    same : bytes_eq k l ≡ true → bytes_eq k m ≡ true → l ≡ m
    same one other = sym ((bytes_eq-Decides k l).0 one) ∙ (bytes_eq-Decides k m).0 other

    by_order : (o : Ordering) → o ≡ slice_cmp nat_cmp l m → get_member k (with_member l d ms) ≡ cond (bytes_eq k l) (Some d) (get_member k ms)
        → get_member k (match_ordering o (member l d (member m e ms)) (member m d ms) (member m e (with_member l d ms))) ≡ cond (bytes_eq k l) (Some d) (get_member k (member m e ms))
    by_order Less is found = first_found k l d (member m e ms)
    by_order Equal is found =
        rw (equal_keys l m (sym is), first_found k m d ms, first_found k m e ms) (hidden (bytes_eq k m) (Some d) (Some e) (get_member k ms))
    by_order Greater is found =
        rw (first_found k m e (with_member l d ms), first_found k m e ms, found)
        (swapped (bytes_eq k l) (bytes_eq k m) (Some e) (Some d) (get_member k ms) (λ one other. equal_order l m (same one other) is))

-- ---- entries

-- the first of two values
abbrev pub or_else : Option Data → Option Data → Option Data
or_else (Some d) other = Some d
or_else None other = other

-- the value at a key of a list of entries
abbrev pub entry_at : Key → List Entry → Option Data
entry_at key [] = None
entry_at key (entry ∷ entries) = cond (bytes_eq (key_text key) (key_text entry.0)) entry.1 (entry_at key entries)

-- the key is none of the entries'
abbrev pub is_absent : Key → List Entry → Bool
is_absent key entries = not (list_any (λ (entry : Entry). bytes_eq (key_text key) (key_text entry.0)) entries)

-- each key stands once
abbrev pub are_apart : List Entry → Bool
are_apart [] = true
are_apart (entry ∷ entries) = is_absent entry.0 entries && are_apart entries

found_with_entry : (key l : Key) (v : Option Data) (ms : Members) → value_at key (with_entry l v ms) ≡ cond (bytes_eq (key_text key) (key_text l)) (or_else v (value_at key ms)) (value_at key ms)
found_with_entry key l None ms = both (bytes_eq (key_text key) (key_text l)) (value_at key ms)
  where
    both : (t : Bool) (x : Option Data) → x ≡ cond t x x
    both true x = refl
    both false x = refl
found_with_entry key l (Some d) ms = found_with_member (key_text key) (key_text l) d ms

-- keys that differ from one differ from its equals
none_at : (key l : Key) (entries : List Entry) → bytes_eq (key_text key) (key_text l) ≡ true → is_absent l entries ≡ true → entry_at key entries ≡ None
none_at key l [] same absent = refl
none_at key l (entry ∷ entries) same absent =
    let text : key_text key ≡ key_text l = (bytes_eq-Decides (key_text key) (key_text l)).0 same in
    let (here, there) = neither (bytes_eq (key_text l) (key_text entry.0)) (list_any (λ (e : Entry). bytes_eq (key_text l) (key_text e.0)) entries) absent in
    let rest : is_absent l entries ≡ true = ap not there in
    let first : bytes_eq (key_text key) (key_text entry.0) ≡ false = ap (λ k. bytes_eq k (key_text entry.0)) text ∙ here in
    ap (λ t. cond t entry.1 (entry_at key entries)) first ∙ none_at key l entries same rest

-- a value, or the one behind it
found_with_entries : (key : Key) (entries : List Entry) (ms : Members) → are_apart entries ≡ true → value_at key (with_entries entries ms) ≡ or_else (entry_at key entries) (value_at key ms)
found_with_entries key [] ms apart = refl
found_with_entries key (entry ∷ entries) ms apart =
    let (absent, rest) = both_pass (is_absent entry.0 entries) (are_apart entries) apart in
    found_with_entries key entries (with_entry entry.0 entry.1 ms) rest
    ∙ ap (or_else (entry_at key entries)) (found_with_entry key entry.0 entry.1 ms)
    ∙ joined (bytes_eq (key_text key) (key_text entry.0)) (entry_at key entries) entry.1 (value_at key ms) (λ same. none_at key entry.0 entries same absent)
  where
    joined : (t : Bool) (later own before : Option Data) → (t ≡ true → later ≡ None)
        → or_else later (cond t (or_else own before) before) ≡ or_else (cond t own later) before
    joined true later own before none = rw (none refl) refl
    joined false later own before none = refl

-- the value at a key of members is what the entries say
pub found : (key : Key) (entries : List Entry) → are_apart entries ≡ true → value_at key (members_with entries) ≡ entry_at key entries
found key entries apart = found_with_entries key entries no_members apart ∙ alone (entry_at key entries)
  where
    alone : (v : Option Data) → or_else v None ≡ v
    alone None = refl
    alone (Some d) = refl

-- ---- other keys

-- the key is one of these
abbrev pub is_one_of : List Key → List ℕ → Bool
is_one_of keys k = list_any (λ key. bytes_eq (key_text key) k) keys

only_with_member : (keys : List Key) (k : List ℕ) (d : Data) (ms : Members) → is_one_of keys k ≡ true → has_only keys ms ≡ true → has_only keys (with_member k d ms) ≡ true
unfolding with_member
only_with_member keys k d no_members one only = rw one refl
only_with_member keys k d (member l e ms) one only =
    let (first, rest) = both_pass (is_one_of keys l) (has_only keys ms) only in
    by_order (slice_cmp nat_cmp k l) first rest (only_with_member keys k d ms one rest)
  where
    by_order : (o : Ordering) → is_one_of keys l ≡ true → has_only keys ms ≡ true → has_only keys (with_member k d ms) ≡ true
        → has_only keys (match_ordering o (member k d (member l e ms)) (member l d ms) (member l e (with_member k d ms))) ≡ true
    by_order Less first rest more = rw (one, first) rest
    by_order Equal first rest more = rw first rest
    by_order Greater first rest more = rw first more

-- each key of the entries is one of these
abbrev pub has_keys_among : List Key → List Entry → Bool
has_keys_among keys entries = list_all (λ (entry : Entry). is_one_of keys (key_text entry.0)) entries

only_with_entries : (keys : List Key) (entries : List Entry) (ms : Members) → has_keys_among keys entries ≡ true → has_only keys ms ≡ true → has_only keys (with_entries entries ms) ≡ true
only_with_entries keys [] ms among only = only
only_with_entries keys (entry ∷ entries) ms among only =
    let (first, rest) = both_pass (is_one_of keys (key_text entry.0)) (has_keys_among keys entries) among in
    only_with_entries keys entries (with_entry entry.0 entry.1 ms) rest (put entry.1 first)
  where
    put : (v : Option Data) → is_one_of keys (key_text entry.0) ≡ true → has_only keys (with_entry entry.0 v ms) ≡ true
    put None first = only
    put (Some d) first = only_with_member keys (key_text entry.0) d ms first only

-- the members of entries have no other key
pub only : (keys : List Key) (entries : List Entry) → has_keys_among keys entries ≡ true → has_only keys (members_with entries) ≡ true
only keys entries among = only_with_entries keys entries no_members among refl
