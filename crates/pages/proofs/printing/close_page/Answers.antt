-- `printing::close_page`: a foot where the page ends, else nothing. Assumes nothing.
use native.Mathlib.Omega.{arith}
use mathlib.Core.Path.{◌≡◌}
use mathlib.Core.Bool.{cond}
use mathlib.Core.List.{[], ◌∷◌}
use lib.ListN.{length}
use borrow.Author.Tests.{not-true, not-false}
use Rattle.pages.specs.Forms.{foot}
use Rattle.pages.proofs.PrintingLaws.{holds_none, closed}
use Rattle.pages.proofs.printing.close_page.Goals as goal

pub returns-then-not-ends : goal.returns-then-not-ends
returns-then-not-ends c =
    let a = c.args in
    holds_none a.out.now a.k (cond a.ends (foot a.rows ∷ []) []) (rw (not-true a.ends c.if-not-ends.true-raw))

pub put_line-requires : goal.put_line-requires
put_line-requires c =
    let e : length (cond c.args.ends (foot c.args.rows ∷ []) []) ≡ 1 = rw (not-false c.args.ends c.if-not-ends.false-raw) in
    omega (arith, e, c.requires)

pub returns : goal.returns
returns c =
    let a = c.args in
    closed a.k a.rows a.ends (not-false a.ends c.if-not-ends.false-raw) c.foot_of-line.ensures c.put_line.ensures
