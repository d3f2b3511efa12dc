-- `printing::print_row`: heading, line and foot are written one behind the other, each with room for it among what the row adds.
-- Assumes nothing.
use native.Mathlib.Omega.{arith}
use mathlib.Core.Path.{◌≡◌, sym, ◌∙◌}
use mathlib.Core.Bool.{true}
use mathlib.Core.List.{[], ◌∷◌}
use borrow.Author.Tests.{not-true, not-false}
use Rattle.casemaster.specs.Row.{is_live}
use Rattle.pages.specs.Steps.{heading_before}
use Rattle.pages.proofs.PrintingLaws.{count_added, row_dead, row_room, row_live, row_full, row_more}
use Rattle.pages.proofs.printing.print_row.Goals as goal

pub returns-then-not-is_live : goal.returns-then-not-is_live
returns-then-not-is_live c =
    let a = c.args in
    row_dead a.out.now a.k a.page a.rows a.row.now (sym c.is_live.ensures ∙ not-true _ c.if-not-is_live.true-raw)

pub open_page-opened-requires : goal.open_page-opened-requires
open_page-opened-requires c =
    let a = c.args in
    let d : is_live a.row.now ≡ true = sym c.is_live.ensures ∙ not-false _ c.if-not-is_live.false-raw in
    omega (arith, row_room a.out.now a.k a.page a.rows a.row.now d, c.requires.3)

pub line_of-line-requires : goal.line_of-line-requires
line_of-line-requires c = c.requires.0

pub put_line-lined-requires : goal.put_line-lined-requires
put_line-lined-requires c =
    let a = c.args in
    let d : is_live a.row.now ≡ true = sym c.is_live.ensures ∙ not-false _ c.if-not-is_live.false-raw in
    omega (arith, row_room a.out.now a.k a.page a.rows a.row.now d, c.requires.3, count_added a.k (heading_before a.page a.rows) c.open_page-opened.ensures, c.open_page-opened.auto.out)

pub close_page-written-requires : goal.close_page-written-requires
close_page-written-requires c =
    let a = c.args in
    let d : is_live a.row.now ≡ true = sym c.is_live.ensures ∙ not-false _ c.if-not-is_live.false-raw in
    omega (arith, row_room a.out.now a.k a.page a.rows a.row.now d, c.requires.3, count_added a.k (heading_before a.page a.rows) c.open_page-opened.ensures, c.open_page-opened.auto.out, count_added c.open_page-opened.result (c.line_of-line.result ∷ []) c.put_line-lined.ensures, c.put_line-lined.auto.out)

pub returns-then-now_rows-eq-PAGE_LINES : goal.returns-then-now_rows-eq-PAGE_LINES
returns-then-now_rows-eq-PAGE_LINES c =
    let a = c.args in
    let d : is_live a.row.now ≡ true = sym c.is_live.ensures ∙ not-false _ c.if-not-is_live.false-raw in
    row_full a.out.now a.k a.page a.rows a.row.now d c.if-now_rows-eq-PAGE_LINES.true
    (row_live a.out.now a.k a.page a.rows a.row.now d c.line_of-line.ensures c.open_page-opened.ensures c.put_line-lined.ensures c.close_page-written.ensures)

pub returns : goal.returns
returns c =
    let a = c.args in
    let d : is_live a.row.now ≡ true = sym c.is_live.ensures ∙ not-false _ c.if-not-is_live.false-raw in
    row_more a.out.now a.k a.page a.rows a.row.now d c.if-now_rows-eq-PAGE_LINES.false
    (row_live a.out.now a.k a.page a.rows a.row.now d c.line_of-line.ensures c.open_page-opened.ensures c.put_line-lined.ensures c.close_page-written.ensures)
