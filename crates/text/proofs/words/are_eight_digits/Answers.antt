-- `words::are_eight_digits` meets its contract: the tests are made byte by byte. Assumes nothing.
use native.Mathlib.Omega.{arith}
use lib.Bits.{and_le_r}
use Rattle.text.proofs.WordLaws.{eight_digits}
use Rattle.text.proofs.words.are_eight_digits.Goals as goal

pub overflow_add-carried : goal.overflow_add-carried
overflow_add-carried c = omega (arith, and_le_r c.args.w 0x0F0F0F0F0F0F0F0F)

pub returns : goal.returns
returns c = λ s l b e. rw e (eight_digits s l b)
