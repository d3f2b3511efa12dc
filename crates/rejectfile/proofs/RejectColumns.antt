-- The columns of Chart 0-1 in the reject record: its five fields stand one behind the other, so each stands in the columns behind the
-- widths of those before it. Assumes nothing.
use mathlib.Core.Path.{◌≡◌, refl}
use mathlib.Core.List.{List, [], ◌∷◌, map}
use Prim.Native.Nat.{ℕ}
use native.Mathlib.Omega.{arith}
use lib.Dec.{lit≤}
use lib.ListN.{length}
use Rattle.text.specs.Fields.{columns, spaces}
use Rattle.layout.specs.Codes.{six_lowest}
use Rattle.onecase.specs.Verdict.{Judgement}
use Rattle.rejectfile.specs.Rejects.{four_columns, reject_record, IsRejectRecord}
use Rattle.rejectfile.proofs.RejectsLaws.{length_six, length_reject}
use Rattle.text.proofs.FieldsLaws.{length-columns}
use Rattle.text.proofs.PartsLaws.{columns-appended}

pub reject_columns : (detail : List ℕ) (verdict : Judgement) → length detail ≡ 245 → length (four_columns verdict.name) ≡ 4
    → IsRejectRecord detail verdict (reject_record detail verdict)
unfolding reject_record
reject_columns detail verdict wide four =
    let others : List (List ℕ) =
    six_lowest verdict.codes ∷ four_columns verdict.name ∷ spaces 1 ∷ columns 245 245 detail ∷ [] in
    let at = columns-appended (227 ∷ 12 ∷ 4 ∷ 1 ∷ 1 ∷ []) (columns 1 227 detail) others widths in
    record {
      wide = length_reject detail verdict wide four;
      as_sent = at 0;
      codes_are = at 1;
      name_is = at 2;
      filler_is = at 3;
      request_code = at 4;
    }
  where
    widths : map length (columns 1 227 detail ∷ six_lowest verdict.codes ∷ four_columns verdict.name ∷ spaces 1 ∷ columns 245 245 detail ∷ [])
        ≡ 227 ∷ 12 ∷ 4 ∷ 1 ∷ 1 ∷ []
    widths =
        rw (
          length-columns 1 227 detail (record { low = lit≤ tt; ordered = lit≤ tt; high = omega arith }),
          length_six verdict.codes,
          four,
          length-columns 245 245 detail (record { low = lit≤ tt; ordered = lit≤ tt; high = omega arith }),
        )
        refl
