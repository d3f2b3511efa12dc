-- `records_to::records_to` meets its contract: each early answer is the first refusal that holds, and behind them the records fill the front of the buffer. Assumes nothing.
use mathlib.Core.Path.{sym, ◌∙◌}
use native.Mathlib.Omega.{arith}
use Rattle.text.proofs.HoldsLaws.{holds_count}
use Rattle.caserecords.proofs.RecordsToLaws.{row_wide, records_2, records_row, records_wanted, records_29, records_30, records_done, four_records}
use Rattle.caserecords.proofs.records_to.records_to.Goals as goal

pub returns-then-not-is_local_list : goal.returns-then-not-is_local_list
returns-then-not-is_local_list c =
    let a = c.args in
    records_2 a.row.now a.wanted.now a.list.now a.out.now (sym c.if-not-is_local_list.ensures)

pub returns-then-not-is_row : goal.returns-then-not-is_row
returns-then-not-is_row c =
    let a = c.args in
    records_row a.row.now a.wanted.now a.list.now a.out.now (sym c.if-not-is_local_list.ensures) (sym c.if-not-is_row.ensures)

pub returns-then-not-is_row-2 : goal.returns-then-not-is_row-2
returns-then-not-is_row-2 c =
    let a = c.args in
    records_wanted a.row.now a.wanted.now a.list.now a.out.now (sym c.if-not-is_local_list.ensures) (sym c.if-not-is_row.ensures) (sym c.if-not-is_row-2.ensures)

pub is_refused-requires : goal.is_refused-requires
is_refused-requires c =
    let a = c.args in (
      row_wide a.row.now (sym c.if-not-is_row.ensures),
      row_wide a.wanted.now (sym c.if-not-is_row-2.ensures),
    )

pub returns-then-is_refused : goal.returns-then-is_refused
returns-then-is_refused c =
    let a = c.args in
    records_29 a.row.now a.wanted.now a.list.now a.out.now (sym c.if-not-is_local_list.ensures) (sym c.if-not-is_row.ensures) (sym c.if-not-is_row-2.ensures) (sym c.is_refused.ensures ∙ c.if-is_refused.true)

pub returns-then-out-lt980 : goal.returns-then-out-lt980
returns-then-out-lt980 c =
    let a = c.args in
    records_30 a.row.now a.wanted.now a.list.now a.out.now (sym c.if-not-is_local_list.ensures) (sym c.if-not-is_row.ensures) (sym c.if-not-is_row-2.ensures) (sym c.is_refused.ensures ∙ c.if-is_refused.false) c.if-out-lt980.true

pub put_records-requires : goal.put_records-requires
put_records-requires c =
    let a = c.args in (
      row_wide a.row.now (sym c.if-not-is_row.ensures),
      row_wide a.wanted.now (sym c.if-not-is_row-2.ensures),
      c.if-out-lt980.false,
    )

pub returns : goal.returns
returns c =
    let a = c.args in
    let p = c.put_records in
    records_done a.row.now a.wanted.now a.list.now a.out.now (sym c.if-not-is_local_list.ensures) (sym c.if-not-is_row.ensures) (sym c.if-not-is_row-2.ensures) (sym c.is_refused.ensures ∙ c.if-is_refused.false) p.result p.new.out c.if-out-lt980.false p.auto.out p.ensures (omega (arith, holds_count 245 p.ensures, four_records a.row.now a.wanted.now))
