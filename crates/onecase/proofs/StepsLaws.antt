-- The rows that an A leaves, from the steps in which they are written. Assumes nothing.
use Prim.Native.Nat.{ℕ}
use mathlib.Core.Path.{◌≡◌}
use mathlib.Core.List.{List}
use Rattle.text.specs.Fields.{placed, is_blank, spaces}
use Rattle.layout.specs.ChartA1.{case_id, date_issued}
use Rattle.layout.specs.Record.{record_key}
use Rattle.onecase.specs.Changes.{zeros, address, added_local_code, placed_unless, fresh_row, recertified}
use Rattle.onecase.specs.Copies.{with_exclusions, with_names, fresh_end}

pub fresh_end_steps : (rec blank a b c r : List ℕ)
    → blank ≡ spaces 200
    → a ≡ with_exclusions rec blank
    → b ≡ placed 187 194 (date_issued rec) a
    → c ≡ placed 91 186 (address rec) b
    → r ≡ placed 79 90 (zeros 12) c
    → r ≡ fresh_end rec
fresh_end_steps rec blank a b c r e ea eb ec er = rw (er, ec, eb, ea, e)

pub fresh_steps : (list rec key a b c d r : List ℕ)
    → a ≡ fresh_end rec
    → b ≡ with_names rec a
    → c ≡ placed 16 30 (case_id rec) b
    → d ≡ placed 13 15 (added_local_code list rec) c
    → key ≡ record_key rec
    → r ≡ placed 1 12 key d
    → r ≡ fresh_row list rec
unfolding fresh_row
fresh_steps list rec key a b c d r ea eb ec ed ek er = rw (er, ek, ed, ec, eb, ea)

pub recertified_steps : (list rec row a b c d e r : List ℕ)
    → a ≡ with_exclusions rec row
    → b ≡ placed_unless (is_blank (date_issued rec)) 187 194 (date_issued rec) a
    → c ≡ placed_unless (is_blank (address rec)) 91 186 (address rec) b
    → d ≡ with_names rec c
    → e ≡ placed_unless (is_blank (case_id rec)) 16 30 (case_id rec) d
    → r ≡ placed 13 15 (added_local_code list rec) e
    → r ≡ recertified list rec row
unfolding recertified
recertified_steps list rec row a b c d e r ea eb ec ed ee er = rw (er, ee, ed, ec, eb, ea)
