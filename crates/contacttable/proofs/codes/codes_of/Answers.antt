-- `codes_of` leaves its outcome: the refusals in order, else the codes counted and written. Assumes nothing.
use Rattle.contacttable.proofs.TableLaws.{right_table}
use Rattle.contacttable.proofs.CodesLaws.{codes_18, codes_12, codes_19, codes_carried}
use mathlib.Core.Path.{sym, ◌∙◌}
use native.Mathlib.Omega.{arith}
use Rattle.contacttable.proofs.codes.codes_of.Goals as goal

pub returns-then-is_wrong_table : goal.returns-then-is_wrong_table
returns-then-is_wrong_table c =
    let a = c.args in
    codes_18 a.table.now a.count a.state.now a.out.now (sym c.is_wrong_table.ensures ∙ c.if-is_wrong_table.true)

pub returns-then-not-is_state : goal.returns-then-not-is_state
returns-then-not-is_state c =
    let a = c.args in
    codes_12 a.table.now a.count a.state.now a.out.now (sym c.is_wrong_table.ensures ∙ c.if-is_wrong_table.false) (sym c.is_state.ensures ∙ c.if-not-is_state.true)

pub count_codes-n-requires : goal.count_codes-n-requires
count_codes-n-requires c =
    let a = c.args in
    let t = right_table a.table.now a.count (sym c.is_wrong_table.ensures ∙ c.if-is_wrong_table.false) in
    omega (arith, t.few)

pub returns-then-out-n : goal.returns-then-out-n
returns-then-out-n c =
    let a = c.args in
    codes_19 a.table.now a.count a.state.now a.out.now (sym c.is_wrong_table.ensures ∙ c.if-is_wrong_table.false) (sym c.is_state.ensures ∙ c.if-not-is_state.false) (omega (arith, c.count_codes-n.ensures, c.if-out-n.true))

pub put_codes-requires : goal.put_codes-requires
put_codes-requires c =
    let a = c.args in
    let t = right_table a.table.now a.count (sym c.is_wrong_table.ensures ∙ c.if-is_wrong_table.false) in
    (omega (arith, t.few), omega (arith, c.count_codes-n.ensures, c.if-out-n.false))

pub returns : goal.returns
returns c =
    let a = c.args in
    codes_carried a.table.now a.count a.state.now a.out.now (sym c.is_wrong_table.ensures ∙ c.if-is_wrong_table.false) (sym c.is_state.ensures ∙ c.if-not-is_state.false) (omega (arith, c.count_codes-n.ensures, c.if-out-n.false))
    c.count_codes-n.result c.put_codes.new.out c.count_codes-n.ensures c.put_codes.ensures
