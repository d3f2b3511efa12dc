use mathlib.Core.Path.{◌≡◌, refl, ap, ◌∙◌}
use native.Mathlib.Omega.{arith}
use lib.Seq.{take-length}
use lib.ListN.{length}
use borrow.Author.Rules.{rules}
use Rattle.apply_output.specs.Line.{letters}
use Rattle.apply_output.proofs.LineLaws.{letters-next, letters_kept, length-letters}
use Rattle.apply_output.proofs.line.put_letters.Goals as goal

pub loop-i-init : goal.loop-i-init
unfolding letters
loop-i-init c = (omega arith, refl, refl, refl)

pub loop-i-preserved : goal.loop-i-preserved
loop-i-preserved c = (
  search rules,
  search rules,
  letters-next c.loop-i.out c.args.state.now c.loop-i.i c.ascii_letter.result (omega arith) (omega arith) c.loop-i.invariant.2
      c.ascii_letter.ensures,
  letters_kept c.args.out.now c.loop-i.out c.loop-i.i c.ascii_letter.result c.loop-i.invariant.3,
)

pub returns : goal.returns
returns c =
    let s = c.args.state.now in
    let e : c.loop-i.i ≡ length s = omega arith in
    record {
      bytes = rw e at c.loop-i.invariant.2 ∙ ap letters (take-length s);
      ends = omega (arith, length-letters s);
      kept = rw e at c.loop-i.invariant.3;
    }
