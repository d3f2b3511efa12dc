-- Document 02, item 10: the claim of `Several` with a premise left out is false, shown by whole calls of a file sent as one or as two. All
-- records are of OH, SSN 123456789, N; the limit is nine. Assumes nothing.
use Rattle.std.specs.Prelude.{ℕ, ◌+◌, ◌*◌, ◌≡◌, Bool, true, false, not, List, [], ◌∷◌, ◌++◌, map, eqb, length}
use Rattle.text.specs.Characters.{A, B, D, E, J, L, M, N, O, S}
use Rattle.text.specs.Fields.{placed, digit_field, spaces}
use Rattle.text.specs.Blocks.{joined}
use Rattle.onecase.specs.Table.{base, of_name, of_year, live_row, ohio}
use Rattle.batchfile.specs.Totals.{count_of, amount_of}
use Rattle.batchfile.specs.Stated.{totals_record}
use Rattle.batch.specs.Call.{Call}
use Rattle.batch.specs.Apply.{apply_outcome}
use Rattle.effects.specs.Several.{Sent, IsApplied, WasCarriedOut, SameState, SameYear, SameCodes, EachSent, master_found, OneBehindTheOther, details_sent, joined_details, NoBInTwo, SameAsWhole, Several}

-- ---- the claim without a premise

-- the premises that can be left out, by their numbers
abbrev pub whole_carried_out : ℕ
whole_carried_out = 1

abbrev pub parts_carried_out : ℕ
parts_carried_out = 2

abbrev pub same_state : ℕ
same_state = 3

abbrev pub same_year : ℕ
same_year = 4

abbrev pub same_codes : ℕ
same_codes = 5

abbrev pub same_masters : ℕ
same_masters = 6

abbrev pub proviso : ℕ
proviso = 7

-- a premise, unless it is the one left out
abbrev pub KeptIf : Bool → Type 0 → Type 0
KeptIf true premise = premise
KeptIf false premise = Unit {0}

abbrev pub Unless : ℕ → ℕ → Type 0 → Type 0
Unless left number premise = KeptIf (not (eqb left number)) premise

-- `Several` without one of them; without number 0, which none has, it is `Several`
abbrev pub SeveralWithout : ℕ → Type 0
SeveralWithout left =
    (whole : Sent) (parts : List Sent)
    → IsApplied whole
    → EachSent IsApplied parts
    → Unless left whole_carried_out (WasCarriedOut whole)
    → Unless left parts_carried_out (EachSent WasCarriedOut parts)
    → Unless left same_state (EachSent (SameState whole) parts)
    → Unless left same_year (EachSent (SameYear whole) parts)
    → Unless left same_codes (EachSent (SameCodes whole) parts)
    → Unless left same_masters (OneBehindTheOther (master_found whole) parts)
    → joined_details parts ≡ details_sent whole
    → Unless left proviso (NoBInTwo parts)
    → SameAsWhole whole parts

-- ---- the calls

-- a batch with a right control record
unfoldable pub batch_of : List ℕ → List (List ℕ) → List ℕ
batch_of state details =
    joined details
    ++ totals_record state
    (record {
      tanf_count = count_of A details;
      non_tanf_count = count_of N details;
      tanf_amount = amount_of A details;
      non_tanf_amount = amount_of N details;
    })

-- sent with buffers that are just long enough, and what that leaves
unfoldable pub call_with : List ℕ → ℕ → List ℕ → ℕ → List ℕ → List (List ℕ) → Call
call_with master rows state year codes details =
    record {
      master = master;
      rows = rows;
      batch = batch_of state details;
      locals = codes;
      year = year;
      verdicts = map (λ (detail : List ℕ). 0) details;
      rejects = spaces (245 * (length details + 1));
      limit = 9;
    }

unfoldable pub sent : List ℕ → ℕ → List ℕ → ℕ → List ℕ → List (List ℕ) → Sent
sent master rows state year codes details =
    record {
      call = call_with master rows state year codes details;
      outcome = apply_outcome (call_with master rows state year codes details);
    }

-- for OH in 2007 without local codes
unfoldable pub sent_to : List ℕ → ℕ → List (List ℕ) → Sent
sent_to master rows details = sent master rows ohio 2007 [] details

-- the proviso: D for JONES on the live row of SMITH, and a B that changes the name to JONES. Together D is accepted and B gets 09, apart D gets 17
-- and B is accepted
abbrev pub jones : List ℕ
jones = J ∷ O ∷ N ∷ E ∷ S ∷ []

unfoldable pub deletes : List ℕ
deletes = of_name jones (base D)

unfoldable pub renames : List ℕ
renames = of_name jones (base B)

unfoldable pub together : Sent
together = sent_to live_row 1 (deletes ∷ renames ∷ [])

unfoldable pub deletes_alone : Sent
deletes_alone = sent_to live_row 1 (deletes ∷ [])

unfoldable pub renames_alone : Sent
renames_alone = sent_to deletes_alone.outcome.buffers.master 1 (renames ∷ [])

-- carried out: A twice for a new key, with one free place. Together they get refusal 9, apart the second finds the row of the first
unfoldable pub adds_twice : Sent
adds_twice = sent_to (spaces 200) 0 (base A ∷ base A ∷ [])

unfoldable pub adds : Sent
adds = sent_to (spaces 200) 0 (base A ∷ [])

unfoldable pub adds_again : Sent
adds_again = sent_to adds.outcome.buffers.master 1 (base A ∷ [])

-- A without a free place gets refusal 9
unfoldable pub adds_nowhere : Sent
adds_nowhere = sent_to [] 0 (base A ∷ [])

-- the state: M under a control record of OH is accepted, under one of AL it gets 01
unfoldable pub amends : List ℕ → Sent
amends state = sent live_row 1 state 2007 [] (base M ∷ [])

abbrev pub alabama : List ℕ
alabama = A ∷ L ∷ []

-- the year: S of 2008 is accepted in 2008 and gets 13 in 2007
unfoldable pub pays : ℕ → Sent
pays year = sent live_row 1 ohio year [] (of_year 2008 (base S) ∷ [])

-- the list: L to 001 is accepted with 001 in the list, and gets 10 without
unfoldable pub relocates : List ℕ → Sent
relocates codes = sent live_row 1 ohio 2007 codes (placed 3 5 (digit_field 3 1) (base L) ∷ [])

-- the masters: M on the live row is accepted, on an empty master it gets 09
unfoldable pub amends_nothing : Sent
amends_nothing = sent_to [] 0 (base M ∷ [])

-- ---- these are needed

pub record PremisesNeeded : Type 0 where
  pub with_all : Several → SeveralWithout 0
  pub proviso_needed : SeveralWithout proviso → ⊥
  pub whole_needed : SeveralWithout whole_carried_out → ⊥
  pub parts_needed : SeveralWithout parts_carried_out → ⊥
  pub state_needed : SeveralWithout same_state → ⊥
  pub year_needed : SeveralWithout same_year → ⊥
  pub codes_needed : SeveralWithout same_codes → ⊥
  pub masters_needed : SeveralWithout same_masters → ⊥
