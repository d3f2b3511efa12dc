use mathlib.Core.Path.{◌≡◌, sym, ap, ◌∙◌}
use mathlib.Core.List.{◌++◌, append-nil}
use Prim.Native.Nat.{ℕ, suc, ◌+◌, ◌-◌, ◌<◌}
use native.Mathlib.Omega.{arith}
use lib.ListN.{length, take, drop, take-append-drop}
use Rattle.text.specs.Fields.{digit_field}
use Rattle.text.proofs.NumberLaws.{less_digit, digit_written}
use Rattle.text.proofs.fields.put_number.Goals as goal

pub loop-i-init : goal.loop-i-init
unfolding digit_field
loop-i-init c =
    let d = c.args.dst.now in
    let last = c.args.c.last in
    let z : last - last ≡ 0 = omega arith in
    record { inside = omega arith; left_is = rw z (omega arith); written = rw (z, append-nil (take last d)) (sym (take-append-drop last d)) }

pub loop-i-preserved : goal.loop-i-preserved
loop-i-preserved c =
    let l = c.loop-i in
    let a = c.args in
    let d = a.dst.now in
    let w = a.c.last - l.i in
    let r = drop a.c.last d in
    let e : l.i ≡ suc (l.i - 1) = omega arith in
    let v : a.c.last - (l.i - 1) ≡ suc w = omega arith in
    let h : l.i - 1 < length d = omega arith in
    let p : l.dst ≡ take (suc (l.i - 1)) d ++ digit_field w a.n ++ r = l.invariant.written ∙ ap (λ (j : ℕ). take j d ++ digit_field w a.n ++ r) e in
    record {
      inside = omega arith;
      left_is = rw (v, l.invariant.left_is) (less_digit w a.n);
      written = rw (p, v, l.invariant.left_is) (digit_written w a.n (l.i - 1) d r h);
    }

pub returns : goal.returns
returns c =
    let l = c.loop-i in
    let a = c.args.c in
    let i : l.i ≡ a.first - 1 = omega arith in
    let w : a.last - l.i ≡ a.last + 1 - a.first = omega arith in
    l.invariant.written ∙ rw (w, i)
