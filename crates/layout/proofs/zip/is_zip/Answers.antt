-- `zip::is_zip` meets its contract: the definition's tests on five digits and on the four behind them; another length is wrong. Assumes nothing.
use borrow.Author.Tests.{eq-eqb, ne_eqb}
use Rattle.layout.specs.Zip.{is_zip}
use Rattle.layout.proofs.zip.is_zip.Goals as goal

pub returns-then-s-ne9 : goal.returns-then-s-ne9
unfolding is_zip
returns-then-s-ne9 c = rw (ne_eqb _ _ c.if-s-ne9.true)

pub returns : goal.returns
unfolding is_zip
returns c = rw (eq-eqb _ _ c.if-s-ne9.false, c.is_blank.ensures, c.field-2.ensures, c.all_digits-2.ensures, c.field.ensures, c.all_digits.ensures)
