-- `counts::counted`: moved where it has codes, and without a code it adds what stood for it. Assumes nothing.
use native.Mathlib.Omega.{arith}
use mathlib.Core.Path.{refl}
use Rattle.rejectfile.proofs.counts.counted.Goals as goal

pub returns-then-coded : goal.returns-then-coded
returns-then-coded c = rw c.if-coded.true c.moved.ensures

pub returns-else-coded : goal.returns-else-coded
returns-else-coded c =
    let p = c.requires in
    rw
    c.if-coded.false
    (record {
      counts_are = refl;
      coded_few =
          record {
            a = omega (arith, p.1.a);
            b = omega (arith, p.1.b);
            c = omega (arith, p.1.c);
            d = omega (arith, p.1.d);
          };
      tanf_low = omega arith;
      tanf_high = omega arith;
      non_tanf_low = omega arith;
      non_tanf_high = omega arith;
      neither_is = refl;
    })
