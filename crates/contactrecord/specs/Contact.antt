-- Document 02, item 4: the rules of a contact record, each in turn, and when a record is faulty. Assumes nothing.
use Rattle.std.specs.Prelude.{ℕ, List, [], ◌∷◌, Bool, true, not, cond, ◌&&◌, ◌||◌, length, eqb}
use Rattle.text.specs.Characters.{space, hyphen, is_digit, A, C, D, F, H, I, L, M, O, P, R, S, letter_t, U, Y}
use Rattle.text.specs.Fields.{column, columns, is_blank, all_digits, are_digits}
use Rattle.layout.specs.States.{is_state}
use Rattle.contactrecord.specs.ChartA3.{contact_state, contact_code, telephone1, extension1, telephone2, extension2, agency_name, contact_line1, contact_line2, contact_line3, contact_line4, contact_filler}
use Rattle.contactrecord.specs.Wording.{contains, has_run}

-- the state is in the state table, the code three digits
unfoldable pub is_contact_key : List ℕ → Bool
is_contact_key rec = is_state (contact_state rec) && are_digits 3 (contact_code rec)

abbrev pub left_parenthesis : ℕ
left_parenthesis = 0x4D

abbrev pub right_parenthesis : ℕ
right_parenthesis = 0x5D

-- the form (301) 555-1212: fourteen columns, parentheses in 1 and 5, a space in 6, a hyphen in 10, digits in 2–4, 7–9 and 11–14
unfoldable pub is_telephone : List ℕ → Bool
is_telephone s =
    eqb (length s) 14
    && (eqb (column 1 s) left_parenthesis
    && (all_digits (columns 2 4 s)
    && (eqb (column 5 s) right_parenthesis
    && (eqb (column 6 s) space
    && (all_digits (columns 7 9 s)
    && (eqb (column 10 s) hyphen && all_digits (columns 11 14 s)))))))

-- digits with only spaces behind; no digit at all is blank
unfoldable pub is_extension : List ℕ → Bool
is_extension [] = true
is_extension (b ∷ bs) = cond (is_digit b) (is_extension bs) (is_blank (b ∷ bs))

-- telephone 1 has the form; telephone 2 and both extensions may be blank
unfoldable pub are_telephones : List ℕ → Bool
are_telephones rec =
    is_telephone (telephone1 rec)
    && (is_extension (extension1 rec)
    && ((is_blank (telephone2 rec) || is_telephone (telephone2 rec)) && is_extension (extension2 rec)))

abbrev pub child_support : List ℕ
child_support = C ∷ H ∷ I ∷ L ∷ D ∷ space ∷ S ∷ U ∷ P ∷ P ∷ O ∷ R ∷ letter_t ∷ []

abbrev pub family_support : List ℕ
family_support = F ∷ A ∷ M ∷ I ∷ L ∷ Y ∷ space ∷ S ∷ U ∷ P ∷ P ∷ O ∷ R ∷ letter_t ∷ []

-- the agency name contains CHILD SUPPORT or FAMILY SUPPORT
unfoldable pub is_agency_name : List ℕ → Bool
is_agency_name name = contains child_support name || contains family_support name

abbrev pub irs : List ℕ
irs = I ∷ R ∷ S ∷ []

abbrev pub fms : List ℕ
fms = F ∷ M ∷ S ∷ []

-- IRS or FMS is a whole run of letters in a field
unfoldable pub names_irs_or_fms : List ℕ → Bool
names_irs_or_fms s = has_run irs s || has_run fms s

-- in the name or an address line, each field read by itself
unfoldable pub has_irs_or_fms : List ℕ → Bool
has_irs_or_fms rec =
    names_irs_or_fms (agency_name rec)
    || (names_irs_or_fms (contact_line1 rec)
    || (names_irs_or_fms (contact_line2 rec) || (names_irs_or_fms (contact_line3 rec) || names_irs_or_fms (contact_line4 rec))))

-- at least one of lines 1 to 3, and line 4, aren't blank
unfoldable pub has_address : List ℕ → Bool
has_address rec =
    not (is_blank (contact_line1 rec) && (is_blank (contact_line2 rec) && is_blank (contact_line3 rec)))
    && not (is_blank (contact_line4 rec))

-- a record is faulty where a rule isn't kept; the last is that the filler is blank
unfoldable pub is_faulty : List ℕ → Bool
is_faulty rec =
    not
    (is_contact_key rec
    && (are_telephones rec
    && (is_agency_name (agency_name rec) && (not (has_irs_or_fms rec) && (has_address rec && is_blank (contact_filler rec))))))
