-- `update` leaves its outcome: the refusals in order, else what `work` leaves. Assumes nothing.
use Rattle.contactupdate.proofs.MarksLaws.{flag_small}
use Rattle.contactupdate.proofs.UpdateLaws.{table_flagged, outcome_file, outcome_table, outcome_space, outcome_list, passed, update_done}
use Rattle.contacttable.specs.Table.{contacts_of, is_wrong_table}
use Rattle.contacttable.proofs.TableLaws.{right_table}
use Rattle.contactupdate.specs.Update.{is_wrong_file}
use Rattle.layout.specs.Limits.{max_rows}
use mathlib.Core.Bool.{false}
use mathlib.Core.Path.{◌≡◌, refl, sym, ◌∙◌}
use borrow.Author.Rules.{rules}
use native.Mathlib.Omega.{arith}
use Rattle.contactupdate.proofs.update.update.Goals as goal

pub returns-then-is_wrong_file : goal.returns-then-is_wrong_file
returns-then-is_wrong_file c =
    let a = c.args in
    outcome_file max_rows a.table.now a.count a.file.now a.faulty.now (sym c.is_wrong_file.ensures ∙ c.if-is_wrong_file.true)

pub returns-then-is_wrong_table : goal.returns-then-is_wrong_table
returns-then-is_wrong_table c =
    let a = c.args in
    outcome_table max_rows a.table.now a.count a.file.now a.faulty.now (sym c.is_wrong_table.ensures ∙ c.if-is_wrong_table.true)

pub mark_table-requires : goal.mark_table-requires
mark_table-requires c =
    let a = c.args in
    let t : is_wrong_table a.table.now a.count ≡ false = sym c.is_wrong_table.ensures ∙ c.if-is_wrong_table.false in
    (omega (arith, (right_table a.table.now a.count t).few), search rules, (right_table a.table.now a.count t).table)

pub overflow_sub-room : goal.overflow_sub-room
overflow_sub-room c =
    let a = c.args in
    let t : is_wrong_table a.table.now a.count ≡ false = sym c.is_wrong_table.ensures ∙ c.if-is_wrong_table.false in
    omega (arith, (right_table a.table.now a.count t).few)

pub count_lacking-requires : goal.count_lacking-requires
count_lacking-requires c =
    let a = c.args in
    let t : is_wrong_table a.table.now a.count ≡ false = sym c.is_wrong_table.ensures ∙ c.if-is_wrong_table.false in
    let g = table_flagged a.table.now a.count c.mark_table.new.held t c.mark_table.ensures in
    (omega arith, g.wide, flag_small (contacts_of a.count a.table.now) c.mark_table.new.held g)

pub returns-then-room-count_lacking : goal.returns-then-room-count_lacking
returns-then-room-count_lacking c =
    let a = c.args in
    let f : is_wrong_file max_rows a.file.now ≡ false = sym c.is_wrong_file.ensures ∙ c.if-is_wrong_file.false in
    let t : is_wrong_table a.table.now a.count ≡ false = sym c.is_wrong_table.ensures ∙ c.if-is_wrong_table.false in
    let g = table_flagged a.table.now a.count c.mark_table.new.held t c.mark_table.ensures in
    outcome_space max_rows a.table.now a.count a.file.now a.faulty.now f t c.mark_table.new.held g (omega (arith, c.count_lacking.ensures.0, c.if-room-count_lacking.true))

pub returns-then-faulty-n : goal.returns-then-faulty-n
returns-then-faulty-n c =
    let a = c.args in
    let f : is_wrong_file max_rows a.file.now ≡ false = sym c.is_wrong_file.ensures ∙ c.if-is_wrong_file.false in
    let t : is_wrong_table a.table.now a.count ≡ false = sym c.is_wrong_table.ensures ∙ c.if-is_wrong_table.false in
    let g = table_flagged a.table.now a.count c.mark_table.new.held t c.mark_table.ensures in
    outcome_list max_rows a.table.now a.count a.file.now a.faulty.now f t c.if-faulty-n.true

pub work-requires : goal.work-requires
work-requires c =
    let a = c.args in
    let f : is_wrong_file max_rows a.file.now ≡ false = sym c.is_wrong_file.ensures ∙ c.if-is_wrong_file.false in
    let t : is_wrong_table a.table.now a.count ≡ false = sym c.is_wrong_table.ensures ∙ c.if-is_wrong_table.false in
    let g = table_flagged a.table.now a.count c.mark_table.new.held t c.mark_table.ensures in
    passed max_rows a.table.now a.count a.file.now a.faulty.now f t c.mark_table.new.held g (omega (arith, c.count_lacking.ensures.0, c.if-room-count_lacking.false)) c.if-faulty-n.false refl

pub returns : goal.returns
returns c =
    let a = c.args in
    let f : is_wrong_file max_rows a.file.now ≡ false = sym c.is_wrong_file.ensures ∙ c.if-is_wrong_file.false in
    let t : is_wrong_table a.table.now a.count ≡ false = sym c.is_wrong_table.ensures ∙ c.if-is_wrong_table.false in
    let g = table_flagged a.table.now a.count c.mark_table.new.held t c.mark_table.ensures in
    let w = c.work in
    update_done max_rows a.table.now a.count a.file.now a.faulty.now f t c.mark_table.new.held g (omega (arith, c.count_lacking.ensures.0, c.if-room-count_lacking.false)) c.if-faulty-n.false
    w.result w.new.table w.new.faulty w.ensures.0 w.ensures.1 w.ensures.2 w.ensures.3
