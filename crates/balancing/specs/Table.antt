-- Worked examples of posting, proved together. Assumes nothing.
use Rattle.std.specs.Prelude.{ℕ, ◌≡◌, List, [], ◌∷◌, ◌++◌, true, false}
use Rattle.std.proofs.Math.Option.{none, some}
use Rattle.answers.specs.Answer.{Leaves, Refuses}
use Rattle.text.specs.Characters.{space, zero_digit, A, D, H, I, L, M, N, O, S, letter_t}
use Rattle.text.specs.Fields.{digit_field, spaces}
use Rattle.casemaster.specs.Row.{is_sound_row}
use Rattle.collectionfile.specs.Line.{amount_cents}
use Rattle.posting.specs.Posting.{is_posted_on, posted_row, after_lines, listed}
use Rattle.balancing.specs.Balances.{all_keys, excesses}
use Rattle.collectionfile.specs.File.{total_text}
use Rattle.posting.specs.Post.{PostBuffers, post_outcome, post_call}

-- a row of OH, SSN 123456789, N, SMITH
unfoldable pub row : ℕ → ℕ → ℕ → List ℕ
row dollars cents status =
    (O ∷ H ∷ []) ++ digit_field 9 123456789 ++ (N ∷ []) ++ digit_field 3 0 ++ spaces 15 ++ (S ∷ M ∷ I ∷ letter_t ∷ H ∷ []) ++ spaces 15
    ++ spaces 15 ++ digit_field 8 dollars ++ spaces 5 ++ digit_field 12 0 ++ spaces 104 ++ (0 ∷ status ∷ []) ++ digit_field 2 cents ++ spaces 2

-- a line of that key with two amount fields
unfoldable pub line_with : List ℕ → List ℕ → List ℕ
line_with collection adjustment =
    (O ∷ H ∷ []) ++ spaces 3 ++ digit_field 9 123456789 ++ spaces 61 ++ collection ++ adjustment ++ spaces 9 ++ (N ∷ []) ++ spaces 133

unfoldable pub line : ℕ → ℕ → List ℕ
line collection adjustment = line_with (digit_field 11 collection) (digit_field 11 adjustment)

-- a last record, with a text in 6–14
unfoldable pub last_of : List ℕ → ℕ → ℕ → List ℕ
last_of control adjustments collections =
    spaces 5 ++ control ++ spaces 20 ++ digit_field 15 adjustments ++ digit_field 15 collections ++ spaces 176

unfoldable pub last : ℕ → ℕ → List ℕ
last adjustments collections = last_of total_text adjustments collections

-- TOTAL, three spaces and a zero
abbrev pub wrong_text : List ℕ
wrong_text = letter_t ∷ O ∷ letter_t ∷ A ∷ L ∷ space ∷ space ∷ space ∷ zero_digit ∷ []

-- ten zeros and a last byte
unfoldable pub field : ℕ → List ℕ
field b = digit_field 10 0 ++ b ∷ []

-- a file of two lines: 0.75 collected, 1.00 adjusted
unfoldable pub file : ℕ → ℕ → List ℕ
file adjustments collections = line 75 0 ++ line 0 100 ++ last adjustments collections

-- a master and a list
abbrev pub lent : List ℕ → List ℕ → PostBuffers
lent master lines = record { master = master; lines = lines }

pub record Examples : Type 0 where
  -- the last digit: F5 and C5 are five cents, D5 (a minus) and CA are bad
  pub plain : amount_cents (field 0xF5) ≡ some 5
  pub signed : amount_cents (field 0xC5) ≡ some 5
  pub minus : amount_cents (field 0xD5) ≡ none
  pub past : amount_cents (field 0xCA) ≡ none
  pub signed_zero : amount_cents (field 0xC0) ≡ some 0
  pub signed_nine : amount_cents (field 0xC9) ≡ some 9
  pub minus_zero : amount_cents (field 0xD0) ≡ none
  -- 0 dollars and 50 cents is live
  pub live : is_sound_row (row 0 50 space) ≡ true
  pub not_deleted : is_sound_row (row 0 50 D) ≡ false
  pub deleted : is_sound_row (row 0 0 D) ≡ true
  -- 0.25 off 0.50; 1.01 off 3.00
  pub lowered : posted_row (line 25 0) (row 0 50 space) ≡ row 0 25 space
  pub borrowed : posted_row (line 101 0) (row 3 0 space) ≡ row 1 99 space
  -- 0.75 off 0.50 deletes, with an excess of 0.25
  pub emptied : posted_row (line 75 0) (row 0 50 space) ≡ row 0 0 D
  pub over : excesses all_keys (row 0 50 space ∷ []) (line 75 0 ∷ []) ≡ 25
  -- 0.01 off 0.01, and 0.02 off 0.01 with an excess of 0.01
  pub last_cent : posted_row (line 1 0) (row 0 1 space) ≡ row 0 0 D
  pub past_last_cent : posted_row (line 2 0) (row 0 1 space) ≡ row 0 0 D
  pub over_cent : excesses all_keys (row 0 1 space ∷ []) (line 2 0 ∷ []) ≡ 1
  -- up to 99,999,999.99 and no further
  pub reached : posted_row (line 0 1) (row 99999999 98 space) ≡ row 99999999 99 space
  pub most : is_posted_on (line 0 1) (row 99999999 98 space) ≡ true
  pub too_much : is_posted_on (line 0 1) (row 99999999 99 space) ≡ false
  -- both above zero, one bad, a deleted row: listed; two zeros: posted
  pub both : is_posted_on (line 1 1) (row 5 0 space) ≡ false
  pub bad : is_posted_on (line_with (digit_field 11 1) (spaces 11)) (row 5 0 space) ≡ false
  pub on_deleted : is_posted_on (line 0 1) (row 0 0 D) ≡ false
  pub neither : is_posted_on (line 0 0) (row 5 0 space) ≡ true
  pub unchanged : posted_row (line 0 0) (row 5 0 space) ≡ row 5 0 space
  -- a later adjustment of a key that a collection deleted is listed; another order gives another row
  pub list : listed (row 0 50 space ∷ []) (line 75 0 ∷ line 0 100 ∷ []) ≡ 2 ∷ []
  pub turned : after_lines (row 0 50 space ∷ []) (line 0 100 ∷ line 75 0 ∷ []) ≡ row 0 75 space ∷ []
  -- a whole call; and one whose last record has wrong totals
  pub carried_out : Leaves (post_outcome (post_call (row 0 50 space) 1 (file 1 1) (7 ∷ 8 ∷ 9 ∷ []))) 1 (lent (row 0 0 D) (2 ∷ 8 ∷ 9 ∷ []))
  pub turned_away : Refuses (post_outcome (post_call (row 0 50 space) 1 (file 1 2) (7 ∷ 8 ∷ 9 ∷ []))) 23 (lent (row 0 50 space) (7 ∷ 8 ∷ 9 ∷ []))
  -- a bad collection is zero beside an adjustment; both above zero count in both
  pub bad_counted : Leaves (post_outcome (post_call (row 5 0 space) 1 (line_with (spaces 11) (digit_field 11 5) ++ last 1 0) (7 ∷ []))) 1
      (lent (row 5 0 space) (1 ∷ []))
  pub both_counted : Leaves (post_outcome (post_call (row 5 0 space) 1 (line 1 1 ++ last 1 1) (7 ∷ []))) 1 (lent (row 5 0 space) (1 ∷ []))
  -- TOTAL with another text behind it; a list one too short; a last record alone
  pub wrong_total : Refuses (post_outcome (post_call (row 5 0 space) 1 (last_of wrong_text 0 0) [])) 23 (lent (row 5 0 space) [])
  pub short_list : Refuses (post_outcome (post_call (row 0 50 space) 1 (file 1 1) (7 ∷ []))) 24 (lent (row 0 50 space) (7 ∷ []))
  pub last_alone : Leaves (post_outcome (post_call (row 5 0 space) 1 (last 0 0) [])) 0 (lent (row 5 0 space) [])
