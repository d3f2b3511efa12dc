-- `exclusions::ends_word` meets its contract: behind the field's end no word ends, and at it a space may be thought. Assumes nothing.
use mathlib.Core.Path.{ap, ◌∙◌}
use native.Mathlib.Omega.{arith}
use Prim.Native.Nat.{◌≤◌, ◌<◌}
use borrow.Author.Rules.{rules}
use borrow.Author.Tests.{le-leb, lt-leb}
use lib.ListN.{length, get_or-eq_default}
use Rattle.text.specs.Characters.{space}
use Rattle.exclusionsets.specs.Exclusions.{is_separator}
use Rattle.exclusionsets.proofs.ExclusionsLaws.{any_default}
use Rattle.exclusionsets.proofs.exclusions.ends_word.Goals as goal

pub returns-then-s-end : goal.returns-then-s-end
returns-then-s-end c = rw (lt-leb _ _ c.if-s-end.true)

pub returns-then-s-end-2 : goal.returns-then-s-end-2
unfolding is_separator
returns-then-s-end-2 c =
    let a = c.args in
    let h : length a.s.now ≤ a.end = omega arith in
    let k : a.end ≤ length a.s.now = omega arith in
    rw (le-leb _ _ k, get_or-eq_default a.s.now space h)

pub returns : goal.returns
returns c =
    let a = c.args in
    let h : a.end < length a.s.now = search rules in
    let k : a.end ≤ length a.s.now = omega arith in
    rw (le-leb _ _ k) (c.is_separator.ensures ∙ ap is_separator (any_default a.s.now a.end 0 space h))
