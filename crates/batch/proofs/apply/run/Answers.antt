-- `apply::run`: the control record's first columns are the submitting state, so what `work` and `finish` leave is the outcome. Assumes
-- nothing.
use mathlib.Core.List.{List}
use mathlib.Core.Path.{◌≡◌, ap, ◌∙◌}
use Prim.Native.Nat.{ℕ, ◌*◌}
use native.Mathlib.Omega.{arith}
use lib.ListN.{length}
use Rattle.rejectfile.specs.Counts.{control_record}
use Rattle.rejectfile.specs.Tally.{counts_in}
use Rattle.text.specs.Blocks.{spliced}
use Rattle.text.specs.Fields.{columns}
use Rattle.batch.proofs.ApplyLaws.{ran}
use Rattle.batchfile.proofs.PassesLaws.{state_two}
use Rattle.batch.proofs.KnownLaws.{known}
use Rattle.batch.proofs.PassedLaws.{passed}
use Rattle.layout.specs.Batch.{control_of, submitting_state}
use Rattle.batch.specs.Call.{call_of}
use Rattle.batch.proofs.JournalingLaws.{run_wrote}
use Rattle.batch.proofs.apply.run.Goals as goal

pub overflow_sub-d : goal.overflow_sub-d
overflow_sub-d c =
    let a = c.args in
    let g = call_of a.m.now a.n a.batch.now a.locals.now a.year a.verdicts.now a.rejects.now in
    let k = known g (passed g c.requires.rejects_value) in
    omega (arith, k.batch_in)

pub record_at-control-requires : goal.record_at-control-requires
record_at-control-requires c =
    let a = c.args in
    let g = call_of a.m.now a.n a.batch.now a.locals.now a.year a.verdicts.now a.rejects.now in
    let k = known g (passed g c.requires.rejects_value) in
    omega (arith, k.batch_in)

pub work-s-requires : goal.work-s-requires
unfolding control_of
work-s-requires c =
    record { rejects_value = (rw c.new.ensures c.requires.rejects_value, c.field-state.ensures ∙ ap (columns 1 2) c.record_at-control.ensures); batch_in_bounds = c.requires.batch_in_bounds }

pub finish-requires : goal.finish-requires
unfolding control_of
finish-requires c =
    let a = c.args in
    let g = call_of a.m.now a.n a.batch.now a.locals.now a.year a.verdicts.now a.rejects.now in
    let k = known g (passed g c.requires.rejects_value) in
    let e : c.field-state.result.now ≡ submitting_state a.batch.now = c.field-state.ensures ∙ ap (columns 1 2) c.record_at-control.ensures in
    let left = (rw c.new.ensures at c.work-s.ensures).worked in (
      ap length e ∙ state_two g.limit g.batch k.batch_passed,
      omega (arith, k.space, left.rejects_few, c.work-s.auto.rejects),
      left.counted,
      omega (arith, k.batch_in, c.well_formed.1.1.0),
    )

pub returns : goal.returns
unfolding control_of
returns c =
    let a = c.args in
    let g = call_of a.m.now a.n a.batch.now a.locals.now a.year a.verdicts.now a.rejects.now in
    let k = known g (passed g c.requires.rejects_value) in
    let e : c.field-state.result.now ≡ submitting_state a.batch.now = c.field-state.ensures ∙ ap (columns 1 2) c.record_at-control.ensures in
    let w = rw c.new.ensures at c.work-s.ensures in
    let p = c.work-s.result.progress in
    let m = c.work-s.new.m in
    let v = c.work-s.new.verdicts in
    let rj = c.work-s.new.rejects in
    record {
      is =
          ran g k m p.rows v rj p.rejects p.tally c.finish.new.rejects c.finish.result w.worked
          c.work-s.auto.verdicts c.work-s.auto.rejects (state_two g.limit g.batch k.batch_passed)
          (c.finish.ensures.rejects_after ∙ ap (λ (z : List ℕ). spliced rj (p.rejects * 245) (control_record z (counts_in p.tally))) e)
          c.finish.ensures.result_value.0;
      wrote =
          run_wrote g a.wanted a.journal.now p.rows m _ _ c.finish.result.written w.worked.rows_are
          w.wrote c.finish.ensures.result_value.1;
    }
