-- `turn::post_row` meets its contract: each refusal to post is the definition's, and the row is that of the new balance. Assumes nothing.
use mathlib.Core.Path.{sym, ◌∙◌}
use native.Mathlib.Omega.{arith}
use Rattle.posting.proofs.BalanceLaws.{not_right, not_live, too_much, is_posted_lem, left_turn, posted_turn}
use Rattle.posting.proofs.turn.post_row.Goals as goal

pub returns-then-not-right : goal.returns-then-not-right
returns-then-not-right c =
    let a = c.args in
    let line = a.line.now in
    let row = a.row in
    left_turn line row (not_right line row (sym c.read_amounts-amounts.ensures.right_is ∙ c.if-not-right.true))

pub returns-then-not-live : goal.returns-then-not-live
returns-then-not-live c =
    let a = c.args in
    let line = a.line.now in
    let row = a.row in
    left_turn line row
    (not_live line row (sym c.read_amounts-amounts.ensures.right_is ∙ c.if-not-right.false) (sym c.is_live-live.ensures ∙ c.if-not-live.true))

pub returns-then-cents-adjustment : goal.returns-then-cents-adjustment
returns-then-cents-adjustment c =
    let a = c.args in
    let line = a.line.now in
    let row = a.row in
    left_turn line row
    (too_much line row (sym c.read_amounts-amounts.ensures.right_is ∙ c.if-not-right.false) (sym c.is_live-live.ensures ∙ c.if-not-live.false)
    (omega (arith, c.if-cents-adjustment.true, c.balance_of-cents.ensures.0, c.balance_of-cents.ensures.1, c.read_amounts-amounts.ensures.adjustment_is)))

pub returns : goal.returns
returns c =
    let a = c.args in
    let line = a.line.now in
    let row = a.row in
    let r = c.read_amounts-amounts.ensures in
    posted_turn line row _ c.balance_after-next.result.0 c.with_balance.ensures
    (c.balance_after-next.ensures ∙ rw (c.balance_of-cents.ensures.0, r.adjustment_is, r.collection_is))
    (is_posted_lem line row (sym r.right_is ∙ c.if-not-right.false) (sym c.is_live-live.ensures ∙ c.if-not-live.false)
    (omega (arith, c.if-cents-adjustment.false, c.balance_of-cents.ensures.0, c.balance_of-cents.ensures.1, r.adjustment_is)))
