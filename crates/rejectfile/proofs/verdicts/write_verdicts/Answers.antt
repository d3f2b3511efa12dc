use Rattle.std.proofs.Common.{◌≤◌, length, subst, arith, rules, lit<}
use Rattle.std.proofs.lemmas.List.{length_push}
use Rattle.text.proofs.ChunksLaws.{numbered_here, numbered_end}
use lib.ListN.{get_or}
use Rattle.keywork.specs.Packed.{IsVerdictIn}
use Rattle.rejectfile.proofs.WritingLaws.{types_fit, writing_start, stands_tanf, stands_non_tanf, writing_next, writing_few, writing_counted, writing_done}
use Rattle.rejectfile.proofs.verdicts.write_verdicts.Goals as goal

pub start_tally-tally-requires : goal.start_tally-tally-requires
start_tally-tally-requires c =
    let a = c.args in
    omega (arith, types_fit a.rows a.batch.now a.d a.numbers.now a.rejects.now a.tanf a.non_tanf c.requires.tanf_value.0 c.requires.tanf_value.1)

pub loop-i-init : goal.loop-i-init
loop-i-init c =
    let a = c.args in (
      search rules,
      search rules,
      writing_start a.rows a.batch.now a.d a.numbers.now a.rejects.now a.tanf a.non_tanf c.requires.tanf_value.0 c.requires.tanf_value.1
          c.start_tally-tally.result c.start_tally-tally.ensures,
    )

pub bounds-numbers-i : goal.bounds-numbers-i
bounds-numbers-i c =
    let a = c.args in
    let l = c.loop-i in
    let k = c.chunks_exact in
    let m = c.enumerate-i-items in
    let h = numbered_here 245 (lit< tt) a.d a.batch.now c.requires.d_in_bounds.0 k.result k.ensures.size k.ensures.rest m.result _ m.ensures.source m.ensures.count c.into_iter-i-iterator.ensures.into_iter_gives l.yielded _ l.yielded_by c.next.result c.next.new.self c.next.ensures.steps (c.in-Some.i, c.in-Some.rec) c.in-Some.is in
    omega (arith, c.requires.d_in_bounds.1, l.invariant.2.len_v, h.0, h.1)

pub record_verdict-s-requires : goal.record_verdict-s-requires
record_verdict-s-requires c =
    let a = c.args in
    let p = c.requires.d_in_bounds in
    let o = c.loop-i in
    let l = c.loop-i in
    let k = c.chunks_exact in
    let m = c.enumerate-i-items in
    let g = l.invariant.2 in
    let i = length l.yielded in
    let h = numbered_here 245 (lit< tt) a.d a.batch.now c.requires.d_in_bounds.0 k.result k.ensures.size k.ensures.rest m.result _ m.ensures.source m.ensures.count c.into_iter-i-iterator.ensures.into_iter_gives l.yielded _ l.yielded_by c.next.result c.next.new.self c.next.ensures.steps (c.in-Some.i, c.in-Some.rec) c.in-Some.is in
    let w = c.verdict_in-v in
    let v = subst (λ j. IsVerdictIn (get_or o.numbers j 0) w.result) h.1 w.ensures in
    record {
      rec_len = (h.3, omega (arith, p.1, g.len_v, h.0, h.1), omega (arith, p.2, g.len_r, g.used, h.0));
      coded_at_most = (
        rw h.1 g.coded,
        rw h.2 (stands_tanf a.rows a.batch.now a.d a.numbers.now a.rejects.now o.numbers o.rejects o.s i g h.0 p.1 w.result v o.numbers o.rejects o.s),
        rw h.2 (stands_non_tanf a.rows a.batch.now a.d a.numbers.now a.rejects.now o.numbers o.rejects o.s i g h.0 p.1 w.result v o.numbers o.rejects o.s),
      );
    }

pub loop-i-preserved : goal.loop-i-preserved
loop-i-preserved c =
    let a = c.args in
    let l = c.loop-i in
    let k = c.chunks_exact in
    let m = c.enumerate-i-items in
    let i = length l.yielded in
    let h = numbered_here 245 (lit< tt) a.d a.batch.now c.requires.d_in_bounds.0 k.result k.ensures.size k.ensures.rest m.result _ m.ensures.source m.ensures.count c.into_iter-i-iterator.ensures.into_iter_gives l.yielded _ l.yielded_by c.next.result c.next.new.self c.next.ensures.steps (c.in-Some.i, c.in-Some.rec) c.in-Some.is in
    let w = c.verdict_in-v in
    let v = subst (λ j. IsVerdictIn (get_or l.numbers j 0) w.result) h.1 w.ensures in
    let o = c.record_verdict-s in
    let u = rw (h.1, h.2) at o.ensures in (
      search rules,
      search rules,
      rw (length_push l.yielded (c.in-Some.i, c.in-Some.rec))
          (writing_next a.rows a.batch.now a.d a.numbers.now a.rejects.now l.numbers l.rejects l.s i l.invariant.2
          h.0 c.requires.d_in_bounds.1 w.result v o.new.verdicts o.new.rejects o.result u
          o.auto.verdicts o.auto.rejects),
    )

pub returns : goal.returns
returns c =
    let a = c.args in
    let l = c.loop-i in
    let k = c.chunks_exact in
    let m = c.enumerate-i-items in
    let i = length l.yielded in
    let g = l.invariant.2 in
    let e = numbered_end 245 (lit< tt) a.d a.batch.now c.requires.d_in_bounds.0 k.result k.ensures.size k.ensures.rest m.result _ m.ensures.source m.ensures.count c.into_iter-i-iterator.ensures.into_iter_gives l.yielded _ l.yielded_by c.next.result c.next.new.self c.next.ensures.steps c.in-None.is in
    let past : a.d ≤ i = omega (arith, e) in (
      g.rows_is,
      writing_few a.rows a.batch.now a.d a.numbers.now a.rejects.now l.numbers l.rejects l.s i g past,
      writing_counted a.rows a.batch.now a.d a.numbers.now a.rejects.now l.numbers l.rejects l.s i g past,
      writing_done a.rows a.batch.now a.d a.numbers.now a.rejects.now l.numbers l.rejects l.s i g past,
    )
