-- `post::post_line` meets its contract: the row under the line's key goes through it; without one nothing is written. Assumes nothing.
use native.Mathlib.Omega.{arith}
use Rattle.casemaster.specs.Master.{rows_of}
use Rattle.casemaster.proofs.RowsLaws.{rows_rise}
use Rattle.collectionfile.proofs.LineLaws.{key_length}
use Rattle.posting.proofs.LineLaws.{fit_of, line_missing, line_found, place_within, place_sound}
use Rattle.posting.proofs.post.post_line.Goals as goal

pub place_of-requires : goal.place_of-requires
place_of-requires c =
    let a = c.args in
    let q = c.requires in
    (q.0, rw c.line_key-key.ensures (key_length a.line.now q.2), rows_rise (rows_of a.n a.m.now) q.1)

pub post_at-requires : goal.post_at-requires
post_at-requires c =
    let a = c.args in
    let e = rw c.line_key-key.ensures at c.in-Ok.ensures in
    let w = place_within a.m.now a.n a.line.now _ e in
    let q = c.requires in
    (omega (arith, w, q.0), place_sound a.m.now a.n a.line.now _ e (fit_of a.n a.m.now q.0 q.1), q.2)

pub returns-in-Ok : goal.returns-in-Ok
returns-in-Ok c =
    let a = c.args in
    let e = rw c.line_key-key.ensures at c.in-Ok.ensures in
    line_found a.m.now a.n a.line.now _ e (fit_of a.n a.m.now c.requires.0 c.requires.1) _ _ c.post_at.ensures

pub returns-in-Err : goal.returns-in-Err
returns-in-Err c =
    let a = c.args in
    let e = rw c.line_key-key.ensures at c.in-Err.ensures in
    line_missing a.m.now a.n a.line.now e.missing
