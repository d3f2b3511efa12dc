-- `line::ascii_letter`: an entry of 0 says that there is no code, any other is the code. Assumes nothing.
use mathlib.Core.Path.{sym, ap, ◌∙◌}
use mathlib.Core.Option.{Option, get_or}
use Prim.Native.Nat.{ℕ}
use borrow.Author.Tests.{eq-eqb, ne_eqb}
use Rattle.apply_output.specs.Ascii.{ascii_letter}
use Rattle.apply_output.proofs.line.ascii_letter.Goals as goal

pub returns-then-code-eq0 : goal.returns-then-code-eq0
unfolding ascii_letter
returns-then-code-eq0 c =
    sym (ap (λ (o : Option ℕ). get_or o 0x3F) (sym c.ascii_code-code.ensures) ∙ rw (eq-eqb _ _ c.if-code-eq0.true))

pub returns-else-code-eq0 : goal.returns-else-code-eq0
unfolding ascii_letter
returns-else-code-eq0 c =
    sym (ap (λ (o : Option ℕ). get_or o 0x3F) (sym c.ascii_code-code.ensures) ∙ rw (ne_eqb _ _ c.if-code-eq0.false))
