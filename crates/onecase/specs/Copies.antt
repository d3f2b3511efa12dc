-- For the contracts of inner functions; no rule of the papers stands here.
-- Columns of a row and of a record, between which fields are copied, and the parts in which an A is written. Assumes nothing.
use Rattle.std.specs.Prelude.{ℕ, ◌+◌, ◌≤◌, cond, List}
use Rattle.text.specs.Fields.{columns, placed, is_blank, spaces}
use Rattle.layout.specs.ChartA1.{last_name, first_name, arrearage, date_issued}
use Rattle.casemaster.specs.Row.{with_zero_cents}
use Rattle.onecase.specs.Changes.{zeros, address, exclusion_byte}
use Rattle.text.specs.declared.fields.Columns.{Columns}

abbrev pub InRow : Columns → Type 0
InRow c = (1 ≤ c.first) × (c.first ≤ c.last + 1) × (c.last ≤ 200)

abbrev pub InRecord : Columns → Type 0
InRecord c = (1 ≤ c.first) × (c.first ≤ c.last + 1) × (c.last ≤ 245)

-- the row with columns `from` of the record in its columns `to`
abbrev pub copied : Columns → List ℕ → Columns → List ℕ → List ℕ
copied to rec from row = placed to.first to.last (columns from.first from.last rec) row

-- the same, unless those columns of the record are blank
abbrev pub copied_unless_blank : Columns → List ℕ → Columns → List ℕ → List ℕ
copied_unless_blank to rec from row = cond (is_blank (columns from.first from.last rec)) row (copied to rec from row)

-- the row with 00 for its cents and the record's exclusion set
abbrev pub with_exclusions : List ℕ → List ℕ → List ℕ
with_exclusions rec row = placed 195 195 (exclusion_byte rec) (with_zero_cents row)

-- the row with the record's arrearage and names
abbrev pub with_names : List ℕ → List ℕ → List ℕ
with_names rec row = placed 31 50 (last_name rec) (placed 51 65 (first_name rec) (placed 66 73 (arrearage rec) row))

-- a fresh row from its payment fields on, spaces before
abbrev pub fresh_end : List ℕ → List ℕ
fresh_end rec =
    placed 79 90 (zeros 12)
    (placed 91 186 (address rec)
    (placed 187 194 (date_issued rec)
    (with_exclusions rec (spaces 200))))
