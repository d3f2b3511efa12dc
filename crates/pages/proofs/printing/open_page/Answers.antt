-- `printing::open_page`: a heading where the page has no rows, else nothing. Assumes nothing.
use native.Mathlib.Omega.{arith}
use mathlib.Core.Path.{◌≡◌}
use lib.ListN.{length}
use borrow.Author.Tests.{ne_eqb}
use Rattle.pages.specs.Steps.{heading_before}
use Rattle.pages.proofs.PrintingLaws.{holds_none, opened}
use Rattle.pages.proofs.printing.open_page.Goals as goal

pub returns-then-rows-ne0 : goal.returns-then-rows-ne0
returns-then-rows-ne0 c =
    let a = c.args in
    holds_none a.out.now a.k (heading_before a.page a.rows) (rw (ne_eqb a.rows 0 c.if-rows-ne0.true))

pub put_line-requires : goal.put_line-requires
put_line-requires c =
    let e : length (heading_before c.args.page c.args.rows) ≡ 1 = rw c.if-rows-ne0.false in
    omega (arith, e, c.requires)

pub returns : goal.returns
returns c =
    let a = c.args in
    opened a.k a.page a.rows c.if-rows-ne0.false c.heading_of-line.ensures c.put_line.ensures
