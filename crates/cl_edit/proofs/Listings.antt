-- Lists of edits that grow by one, and what their lines say.
use Rattle.std.proofs.Common.{◌≡◌, ℕ, ◌+◌, ◌<◌, ◌≤◌, ◌⊎◌, inl, inr, Bool, true, false, List, [], ◌∷◌, ◌++◌, length, length-append, append_assoc, refl, sym, ap, ◌∙◌, subst, arith}
use Rattle.std.specs.Prelude.{All, cond, map}
use Rattle.std.specs.List.{count_by}
use Rattle.std.proofs.lemmas.Bool.{cases_lt}
use Rattle.std.proofs.lemmas.List.{get_or_append_left}
use Rattle.std.proofs.lemmas.List.Elements.{All-nil, All-cons, All-head, All-tail, All-append}
use Rattle.std.proofs.lemmas.List.Sums.{sum_by-append}
use Rattle.std.proofs.Math.Seq.{get_or-append_seam}
use Rattle.cl_edit.specs.{declared.{edit.Edit.Edit, edit_lines.ListedEdit.ListedEdit, limits.TheConstants.{MOST_EDITS, MOST_REPORTS}, version.Version.Version}, Lines.edit_text, Reading.{IsLineEdit, writes_text, MayBeListed, edits_of, said_of}, Inner.Left.{before_others, edits_said}}
use Rattle.cl_edit.specs.Inner.LineReads.{edit_in}
use Rattle.cl_edit.proofs.LineMeanings.{edit_back}

-- how many of them something is written for
abbrev pub written_in : List Edit → ℕ
written_in edits = count_by writes_text edits

pub written_more : (edits : List Edit) (edit : Edit) → written_in (edits ++ edit ∷ []) ≡ written_in edits + cond (writes_text edit) 1 0
written_more edits edit = omega (arith, sum_by-append (λ e. cond (writes_text e) 1 0) edits (edit ∷ []))

-- ---- lists that may be listed

-- there is room for one more edit
pub record HasRoom (edits written : ℕ) (edit : Edit) : Type 0 where
  pub few : edits < MOST_EDITS
  pub few_written : writes_text edit ≡ true → written < MOST_REPORTS

pub room_or_none : (edits written : ℕ) (edit : Edit) → HasRoom edits written edit ⊎ ¬ HasRoom edits written edit
room_or_none edits written edit = elim (cases_lt edits MOST_EDITS) [
  | inl few ↦ by_written (writes_text edit) refl few
  | inr many ↦ inr (λ room. absurd (omega (arith, room.few)))
]
  where
    by_written : (b : Bool) → writes_text edit ≡ b → edits < MOST_EDITS → HasRoom edits written edit ⊎ ¬ HasRoom edits written edit
    by_written false other few = inl (record { few = few; few_written = λ is. absurd (cc) })
    by_written true is few = elim (cases_lt written MOST_REPORTS) [
      | inl few_too ↦ inl (record { few = few; few_written = λ is. few_too })
      | inr many ↦ inr (λ room. absurd (omega (arith, room.few_written is)))
    ]

pub listed_none : (version : Version) → MayBeListed version []
listed_none version = record { lines = All-nil (IsLineEdit version); few = omega arith; few_written = omega arith }

one_more : (b : Bool) (n : ℕ) → n ≤ MOST_REPORTS → (b ≡ true → n < MOST_REPORTS) → n + cond b 1 0 ≤ MOST_REPORTS
one_more true n few room = omega (arith, room refl)
one_more false n few room = omega arith

room_for_one : (b : Bool) (n : ℕ) → n + cond b 1 0 ≤ MOST_REPORTS → b ≡ true → n < MOST_REPORTS
room_for_one true n few is = omega arith
room_for_one false n few is = absurd (cc)

module _ (version : Version) (edits : List Edit) (edit : Edit) where
  pub listed_more : MayBeListed version edits → IsLineEdit version edit → HasRoom (length edits) (written_in edits) edit → MayBeListed version (edits ++ edit ∷ [])
  listed_more listed line room = record {
    lines = All-append (IsLineEdit version) edits (edit ∷ []) listed.lines (All-cons (IsLineEdit version) edit [] line (All-nil (IsLineEdit version)));
    few = omega (arith, room.few, length-append edits (edit ∷ []));
    few_written = omega (arith, written_more edits edit, one_more (writes_text edit) (written_in edits) listed.few_written room.few_written);
  }

  pub line_of_last : MayBeListed version (edits ++ edit ∷ []) → IsLineEdit version edit
  line_of_last listed =
      subst (IsLineEdit version) (get_or-append_seam edits edit [] edit) (listed.lines (length edits) edit (omega (arith, length-append edits (edit ∷ []))))

  pub room_of_last : MayBeListed version (edits ++ edit ∷ []) → HasRoom (length edits) (written_in edits) edit
  room_of_last listed = record {
    few = omega (arith, listed.few, length-append edits (edit ∷ []));
    few_written = room_for_one (writes_text edit) (written_in edits) (omega (arith, listed.few_written, written_more edits edit));
  }

-- the first edits of a list that may be listed
all_left : (version : Version) (xs ys : List Edit) → All (IsLineEdit version) (xs ++ ys) → All (IsLineEdit version) xs
all_left version xs ys all = λ k d within. subst (IsLineEdit version) (get_or_append_left xs ys d k within) (all k d (omega (arith, length-append xs ys)))

pub first_listed : (version : Version) (edits : List Edit) (edit : Edit) (more : List Edit) → MayBeListed version (edits ++ edit ∷ more)
    → MayBeListed version (edits ++ edit ∷ [])
first_listed version edits edit more listed =
    let split : edits ++ edit ∷ more ≡ (edits ++ edit ∷ []) ++ more = sym (append_assoc edits (edit ∷ []) more) in
    let whole : MayBeListed version ((edits ++ edit ∷ []) ++ more) = subst (MayBeListed version) split listed in
    record {
      lines = all_left version (edits ++ edit ∷ []) more whole.lines;
      few = omega (arith, whole.few, length-append (edits ++ edit ∷ []) more);
      few_written = omega (arith, whole.few_written, sum_by-append (λ e. cond (writes_text e) 1 0) (edits ++ edit ∷ []) more);
    }

-- ---- listed edits

pub edits_more : (listed more : List ListedEdit) → edits_of (listed ++ more) ≡ edits_of listed ++ edits_of more
edits_more [] more = refl
edits_more (one ∷ listed) more = ap (λ edits. one.edit ∷ edits) (edits_more listed more)

pub said_more : (listed more : List ListedEdit) → map said_of (listed ++ more) ≡ map said_of listed ++ map said_of more
said_more [] more = refl
said_more (one ∷ listed) more = ap (λ said. said_of one ∷ said) (said_more listed more)

-- an edit is read back of what its line says
pub read_first : (version : Version) (one : ListedEdit) (others : List ListedEdit) → IsLineEdit version one.edit
    → before_others one.line (edit_in version (edit_text one.edit)) others ≡ one ∷ others
read_first version one others line = ap (λ o. before_others one.line o others) (edit_back version one.edit line)

pub edits_again : (version : Version) (listed : List ListedEdit) → All (IsLineEdit version) (edits_of listed) → edits_said version (map said_of listed) ≡ listed
edits_again version [] lines = refl
edits_again version (one ∷ listed) lines =
    ap (before_others one.line (edit_in version (edit_text one.edit))) (edits_again version listed (All-tail (IsLineEdit version) one.edit (edits_of listed) lines))
    ∙ read_first version one listed (All-head (IsLineEdit version) one.edit (edits_of listed) lines)

-- so no other edit of another place says the same
pub one_edit : (version : Version) (one other : ListedEdit) → IsLineEdit version one.edit → IsLineEdit version other.edit → said_of one ≡ said_of other → one ≡ other
one_edit version one other line line_too is =
    let here = edits_again version (one ∷ []) (All-cons (IsLineEdit version) one.edit [] line (All-nil (IsLineEdit version))) in
    let there = edits_again version (other ∷ []) (All-cons (IsLineEdit version) other.edit [] line_too (All-nil (IsLineEdit version))) in
    let same : one ∷ [] ≡ other ∷ [] = sym here ∙ ap (λ said. edits_said version (said ∷ [])) is ∙ there in
    cc
