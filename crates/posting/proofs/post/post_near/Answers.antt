-- `post::post_near`: the place is the one that the search would find, or it is searched for. Assumes nothing.
use native.Mathlib.Omega.{arith}
use Rattle.posting.proofs.LineLaws.{fit_of, line_found, place_within, place_sound}
use Rattle.posting.proofs.post.post_near.Goals as goal

pub post_at-requires : goal.post_at-requires
post_at-requires c =
    let a = c.args in
    let q = c.requires in
    let e = c.is_place_of.ensures c.if-is_place_of.true in
    let w = place_within a.m.now a.n a.line.now a.p e in
    (omega (arith, w, q.0), place_sound a.m.now a.n a.line.now a.p e (fit_of a.n a.m.now q.0 q.1), q.2)

pub returns-then-is_place_of : goal.returns-then-is_place_of
returns-then-is_place_of c =
    let a = c.args in
    let e = c.is_place_of.ensures c.if-is_place_of.true in
    line_found a.m.now a.n a.line.now a.p e (fit_of a.n a.m.now c.requires.0 c.requires.1) _ _ c.post_at.ensures
