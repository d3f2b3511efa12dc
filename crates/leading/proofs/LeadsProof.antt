-- The theorem: the test of refusal 29 holds exactly if no list of C, L, R and M records of the row's key leads to the wanted row without an
-- error, and else the records written do. One way by the records written, the other by what such records can reach. Assumes nothing.
use Prim.Native.Nat.{ℕ}
use mathlib.Core.Path.{◌≡◌, refl, sym, ap, ◌∙◌}
use mathlib.Core.List.{List, []}
use mathlib.Core.Bool.{Bool, true, false, false≢true}
use Rattle.casemaster.specs.Row.{row_key}
use Rattle.caserecords.specs.Differences.{refusal29}
use Rattle.caserecords.specs.Records.{records_to}
use Rattle.leading.specs.Leads.{setting_for, Lead, NoneLeads, Pair, EveryPair}
use Rattle.leading.proofs.NoneLeadsLaws.{ends_not}
use Rattle.leading.proofs.WrittenLeadsLaws.{goes_there, goes_verdicts, goes_ends, are_corrections}

module _ (row wanted list : List ℕ) (p : Pair row wanted) (year : ℕ) where
  written_leads : refusal29 row wanted list ≡ false → Lead row wanted year list (records_to row wanted)
  written_leads f =
      let g = goes_there row wanted list p year [] f in
      record {
        corrections = are_corrections row wanted list p;
        no_error = goes_verdicts (setting_for row year list) row (records_to row wanted) wanted g;
        ends = goes_ends (setting_for row year list) row (records_to row wanted) wanted g;
      }

  none_leads : refusal29 row wanted list ≡ true → NoneLeads row wanted year list
  none_leads t c =
      false≢true
      (sym (ends_not (setting_for row year list) (row_key row) row wanted c.0 p.wide c.1.corrections c.1.ends) ∙ t)

  comes_29 : NoneLeads row wanted year list → refusal29 row wanted list ≡ true
  comes_29 l = go (refusal29 row wanted list) refl
    where
      go : (b : Bool) → refusal29 row wanted list ≡ b → refusal29 row wanted list ≡ true
      go true e = e
      go false e = absurd (l (records_to row wanted, written_leads e))

pub leads : EveryPair
leads row wanted list p year =
    record {
      exactly = (none_leads row wanted list p year, comes_29 row wanted list p year);
      written_lead = written_leads row wanted list p year;
      none_ends = λ t setting e recs k r.
          false≢true (sym (ends_not setting (row_key row) row wanted recs p.wide k r) ∙ ap (refusal29 row wanted) e ∙ t);
    }
