-- `walk::walk_key`: pulling the rows below the key leaves those to come as they are, the key's entry goes by its row there and its new one,
-- and the new one is put before the rows to come. Assumes nothing.
use Prim.Native.Nat.{ℕ}
use mathlib.Core.Path.{ap, ◌∙◌}
use native.Mathlib.Omega.{arith}
use Rattle.layout.specs.Batch.{record_at}
use Rattle.layout.specs.Record.{record_key}
use Rattle.keywork.proofs.KeyWorkLaws.{key_ready}
use Rattle.keywalk.specs.Walking.{fixed_of}
use Rattle.keywalk.proofs.WalkStepLaws.{KeySteps, row_there, put_room}
use Rattle.journalwalk.specs.JournalWalk.{stand_of}
use Rattle.journalwalk.proofs.StepLaws.{entry_room, key_journaled}
use Rattle.journalwalk.proofs.walk.walk_key.Goals as goal

pub key_at-key-requires : goal.key_at-key-requires
key_at-key-requires c =
    let h = c.requires.position_lt_own in
    let i = c.index_part.ensures.0 in
    omega (arith, i, h.1.there _ (omega arith) h.0)

pub case_at-case-requires : goal.case_at-case-requires
case_at-case-requires c =
    row_there _ _ _ _ _ c.is_row_of-held.ensures (omega (arith, c.requires.to_le_from.2, c.pull_rows.ensures.same_length))

pub work_key-next-requires : goal.work_key-next-requires
work_key-next-requires c =
    let a = c.args in
    key_ready a.setting.state.now a.setting.year a.setting.locals.list.now a.batch.now a.numbers.now a.s.position a.own c.run_at-run.result
    c.requires.position_lt_own.1 c.run_at-run.ensures

pub overflow_add-to : goal.overflow_add-to
overflow_add-to c =
    let h = c.requires.to_le_from in
    omega (arith, h.0, c.rows_below-passed.ensures.within, h.2, c.well_formed.0)

pub put_key_entry-written-requires : goal.put_key_entry-written-requires
put_key_entry-written-requires c =
    let a = c.args in
    let f = fixed_of a.setting.state.now a.setting.year a.setting.locals.list.now a.batch.now a.own a.end in
    let s = stand_of a.s a.m.now a.numbers.now in
    let steps : KeySteps f s _ _ _ _ _ _ _ _ =
    record {
      ended = c.run_at-run.ensures.run;
      key_is = c.key_at-key.ensures ∙ ap (λ (i : ℕ). record_key (record_at a.batch.now i)) c.index_part.ensures.0;
      below = c.rows_below-passed.ensures;
      pulled = c.pull_rows.ensures;
      looked = c.is_row_of-held.ensures;
      started = c.case_at-case.ensures;
      run = c.work_key-next.ensures;
    } in
    entry_room f s _ _ _ _ _ _ _ _ steps a.wanted a.s.written a.journal.now c.requires.key_room

pub overflow_add-to-2 : goal.overflow_add-to-2
overflow_add-to-2 c =
    let h = c.requires.to_le_from in
    omega (arith, h.0, c.rows_below-passed.ensures.within, h.2, c.well_formed.0)

pub put_row_of-placed-requires : goal.put_row_of-placed-requires
put_row_of-placed-requires c =
    let a = c.args in
    let f = fixed_of a.setting.state.now a.setting.year a.setting.locals.list.now a.batch.now a.own a.end in
    let s = stand_of a.s a.m.now a.numbers.now in
    let steps : KeySteps f s _ _ _ _ _ _ _ _ =
    record {
      ended = c.run_at-run.ensures.run;
      key_is = c.key_at-key.ensures ∙ ap (λ (i : ℕ). record_key (record_at a.batch.now i)) c.index_part.ensures.0;
      below = c.rows_below-passed.ensures;
      pulled = c.pull_rows.ensures;
      looked = c.is_row_of-held.ensures;
      started = c.case_at-case.ensures;
      run = c.work_key-next.ensures;
    } in
    put_room f s _ _ _ _ _ _ _ _ steps c.requires.stays_before c.requires.to_le_from.2

pub overflow_add-result : goal.overflow_add-result
overflow_add-result c =
    let h = c.requires.to_le_from in
    omega (arith, c.one_if.ensures.1, c.rows_below-passed.ensures.within, h.2, c.well_formed.0)

pub returns : goal.returns
returns c =
    let a = c.args in
    let f = fixed_of a.setting.state.now a.setting.year a.setting.locals.list.now a.batch.now a.own a.end in
    let s = stand_of a.s a.m.now a.numbers.now in
    let steps : KeySteps f s _ _ _ _ _ _ _ _ =
    record {
      ended = c.run_at-run.ensures.run;
      key_is = c.key_at-key.ensures ∙ ap (λ (i : ℕ). record_key (record_at a.batch.now i)) c.index_part.ensures.0;
      below = c.rows_below-passed.ensures;
      pulled = c.pull_rows.ensures;
      looked = c.is_row_of-held.ensures;
      started = c.case_at-case.ensures;
      run = c.work_key-next.ensures;
    } in
    key_journaled f s _ _ _ _ _ _ _ _ steps a.wanted a.s.written a.journal.now
    c.requires.stays_before _ _ c.put_row_of-placed.ensures _ c.one_if.ensures.0 _ _ c.put_key_entry-written.ensures
