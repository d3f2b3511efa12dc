-- `counts::moved`: each count of the definition, in which the detail stood among the accepted. Assumes nothing.
use native.Mathlib.Omega.{arith}
use mathlib.Core.Path.{refl}
use mathlib.Core.Bool.{not}
use Rattle.rejectfile.specs.Counts.{is_tanf, is_non_tanf}
use Rattle.rejectfile.proofs.CountsLaws.{count_most, moved_counts, out_few}
use Rattle.rejectfile.proofs.counts.moved.Goals as goal

pub overflow_add-tanf_warned : goal.overflow_add-tanf_warned
overflow_add-tanf_warned c =
    omega (arith, c.requires.1.c, c.requires.2, c.one_if.ensures.1)

pub overflow_add-non_tanf_warned : goal.overflow_add-non_tanf_warned
overflow_add-non_tanf_warned c =
    omega (arith, c.requires.1.d, c.requires.2, c.one_if-2.ensures.1)

pub overflow_sub-result : goal.overflow_sub-result
overflow_sub-result c =
    omega (arith, c.one_if-tanf_out.ensures.0, out_few (is_tanf c.args.rec.now) (not c.args.accepted), c.requires.3)

pub overflow_add-result : goal.overflow_add-result
overflow_add-result c =
    omega (arith, c.requires.1.a, c.requires.2, c.one_if-tanf_out.ensures.1, c.one_if-non_tanf_out.ensures.1)

pub overflow_sub-result-2 : goal.overflow_sub-result-2
overflow_sub-result-2 c =
    omega (arith, c.one_if-non_tanf_out.ensures.0, out_few (is_non_tanf c.args.rec.now) (not c.args.accepted), c.requires.4)

pub overflow_add-result-2 : goal.overflow_add-result-2
overflow_add-result-2 c =
    omega (arith, c.requires.1.b, c.requires.2, c.one_if-tanf_out.ensures.1, c.one_if-non_tanf_out.ensures.1)

pub returns : goal.returns
returns c =
    let a = c.args in
    let p = c.requires in
    let e1 = c.one_if-tanf_out.ensures in
    let e2 = c.one_if-non_tanf_out.ensures in
    let e3 = c.one_if.ensures in
    let e4 = c.one_if-2.ensures in
    let out = out_few (is_tanf a.rec.now) (not a.accepted) in
    let non-out = out_few (is_non_tanf a.rec.now) (not a.accepted) in
    record {
      counts_are = moved_counts a.t a.rec.now a.accepted _ _ _ _ e1.0 e2.0 e3.0 e4.0 p.3 p.4;
      coded_few =
          record {
            a = count_most _ _ _ p.1.a e1.1;
            b = count_most _ _ _ p.1.b e2.1;
            c = count_most _ _ _ p.1.c e3.1;
            d = count_most _ _ _ p.1.d e4.1;
          };
      tanf_low = omega (arith, e1.0, out, p.3);
      tanf_high = omega arith;
      non_tanf_low = omega (arith, e2.0, non-out, p.4);
      non_tanf_high = omega arith;
      neither_is = refl;
    }
