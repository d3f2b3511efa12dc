-- `tagged::tag_detail`: the parts are those of the detail's record; a B without an error but 09 and 17 gives its name. Assumes nothing.
use mathlib.Core.Path.{ap, ◌∙◌, subst}
use Prim.Native.Nat.{ℕ, ◌*◌}
use native.Mathlib.Omega.{arith}
use lib.ListN.{get_or, drop, length-drop}
use lib.Seq.{length-take-le}
use Rattle.judging.specs.Front.{front_errors, IsFront}
use Rattle.judging.proofs.FrontLaws.{own_front}
use mathlib.Core.List.{List}
use Rattle.layout.specs.Batch.{record_at}
use Rattle.layout.specs.Record.{type_of}
use Rattle.layout.specs.Codes.{number_of_codes}
use Rattle.judging.specs.Warnings.{warning51}
use Rattle.keyorder.specs.Order.{rank_of}
use Rattle.keyorder.specs.Tagged.{kind_of}
use Rattle.keyorder.proofs.TaggedLaws.{tagged_of}
use Rattle.keyorder.proofs.tagged.tag_detail.Goals as goal

pub rank_of-rank-requires : goal.rank_of-rank-requires
rank_of-rank-requires c =
    let a = c.args in
    let f = c.judge_front-f in
    let b = a.batch.now in
    let w = length-take-le 245 (drop (a.i * 245) b) (let e = length-drop (a.i * 245) b in omega (arith, e, c.requires.0)) in
    let i = subst (λ (l : List ℕ). IsFront a.setting.state.now a.setting.year a.setting.locals.list.now l f.result) c.record_at-rec.ensures f.ensures.0 in
    rw c.key_at-key.ensures (own_front a.setting.state.now a.setting.year a.setting.locals.list.now (record_at b a.i) f.result w i)

pub returns : goal.returns
returns c =
    let a = c.args in
    let r = c.record_at-rec.ensures in
    tagged_of a.setting.state.now a.setting.year a.setting.locals.list.now a.i (record_at a.batch.now a.i) _ _ _ _ _
    (c.rank_of-rank.ensures.0 ∙ ap (rank_of a.setting.state.now) c.key_at-key.ensures)
    (c.kind_of-kind.ensures.0 ∙ ap (λ (l : List ℕ). kind_of (type_of l)) r)
    (c.judge_front-f.ensures.0.set_is ∙ ap (λ (l : List ℕ). number_of_codes (front_errors a.setting.state.now a.setting.year a.setting.locals.list.now l)) r)
    (c.has_51-local.ensures ∙ ap (λ (l : List ℕ). warning51 a.setting.locals.list.now l) r)
    c.tag.ensures
