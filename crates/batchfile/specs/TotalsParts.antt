-- For the contracts of inner functions; no rule of the papers stands here.
-- The parts in which the code adds up a batch's totals. Assumes nothing.
use Rattle.std.specs.Prelude.{ℕ, ◌+◌, ◌^◌, ◌<◌, ◌≡◌, List, Bool, cond, ◌&&◌, ◌||◌, eqb}
use Rattle.text.specs.Characters.{A, M, N}
use Rattle.text.specs.Fields.{number}
use Rattle.layout.specs.ChartA2.{total_tanf, total_non_tanf, amount_tanf, amount_non_tanf}
use Rattle.layout.specs.Record.{is_type, case_type_of}
use Rattle.batchfile.specs.Totals.{count_of, amount_in, amount_of}
use Rattle.batchfile.specs.declared.totals.Totals.{Totals}

-- what a detail adds to the count of a case type
abbrev pub count_in : ℕ → List ℕ → ℕ
count_in case_type detail = cond (eqb (case_type_of detail) case_type) 1 0

-- a detail of a type whose amount counts
abbrev pub has_amount : List ℕ → Bool
has_amount detail = is_type A detail || is_type M detail

-- there is room for a detail more
pub record FitsOneMore (t : Totals) : Type 0 where
  pub tanf_count : t.tanf_count < 2 ^ 63
  pub non_tanf_count : t.non_tanf_count < 2 ^ 63
  pub tanf_amount : t.tanf_amount < 2 ^ 63
  pub non_tanf_amount : t.non_tanf_amount < 2 ^ 63

-- the totals with a detail added
pub record IsAdded (detail : List ℕ) (t new : Totals) : Type 0 where
  pub tanf_count : new.tanf_count ≡ t.tanf_count + count_in A detail
  pub non_tanf_count : new.non_tanf_count ≡ t.non_tanf_count + count_in N detail
  pub tanf_amount : new.tanf_amount ≡ t.tanf_amount + amount_in A detail
  pub non_tanf_amount : new.non_tanf_amount ≡ t.non_tanf_amount + amount_in N detail

-- the totals of some details
pub record AreTotals (details : List (List ℕ)) (t : Totals) : Type 0 where
  pub tanf_count : t.tanf_count ≡ count_of A details
  pub non_tanf_count : t.non_tanf_count ≡ count_of N details
  pub tanf_amount : t.tanf_amount ≡ amount_of A details
  pub non_tanf_amount : t.non_tanf_amount ≡ amount_of N details

-- the counts, and the amounts, are those of a control record
abbrev pub counts_agree : List ℕ → Totals → Bool
counts_agree rec t = eqb (number (total_tanf rec)) t.tanf_count && eqb (number (total_non_tanf rec)) t.non_tanf_count

abbrev pub amounts_agree : List ℕ → Totals → Bool
amounts_agree rec t = eqb (number (amount_tanf rec)) t.tanf_amount && eqb (number (amount_non_tanf rec)) t.non_tanf_amount
