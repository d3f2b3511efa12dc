use Rattle.std.proofs.Common.{length, refl, sym, ◌∙◌, arith, rules, lit<}
use lib.ListN.{length-set}
use Rattle.std.proofs.lemmas.List.{length_push}
use Rattle.text.proofs.ChunksLaws.{chunk_here, chunks_end}
use Rattle.contacttable.proofs.TableLaws.{contact_at, length_contact, contact_good}
use Rattle.contactrecord.proofs.ContactLaws.{good_key}
use Rattle.contactupdate.proofs.MarksLaws.{marked_next, marked_end}
use Rattle.contactupdate.proofs.marks.mark_table.Goals as goal

pub loop-rec-init : goal.loop-rec-init
loop-rec-init c = (search rules, search rules, c.requires.1, refl)

pub key_number-requires : goal.key_number-requires
key_number-requires c =
    let a = c.args in
    let l = c.loop-rec in
    let k = c.chunks_exact-rec-items in
    let h = chunk_here 220 (lit< tt) a.count a.table.now c.requires.0 k.result k.ensures.size k.ensures.rest _ c.into_iter-rec-iterator.ensures.into_iter_gives l.yielded _ l.yielded_by c.next.result c.next.new.self c.next.ensures.steps c.in-Some.rec c.in-Some.is in
    let i = length l.yielded in
    rw h.1 (
      length_contact a.count a.table.now i h.0 c.requires.0,
      good_key (contact_at a.table.now i) (contact_good a.count a.table.now i c.requires.2 h.0),
    )

pub bounds-held-key_number : goal.bounds-held-key_number
bounds-held-key_number c = omega (arith, c.loop-rec.invariant.2, c.key_number.ensures.1)

pub loop-rec-preserved : goal.loop-rec-preserved
loop-rec-preserved c =
    let a = c.args in
    let l = c.loop-rec in
    let k = c.chunks_exact-rec-items in
    let h = chunk_here 220 (lit< tt) a.count a.table.now c.requires.0 k.result k.ensures.size k.ensures.rest _ c.into_iter-rec-iterator.ensures.into_iter_gives l.yielded _ l.yielded_by c.next.result c.next.new.self c.next.ensures.steps c.in-Some.rec c.in-Some.is in
    let i = length l.yielded in (
      search rules,
      search rules,
      length-set l.held c.key_number.result 1 ∙ l.invariant.2,
      rw (length_push l.yielded c.in-Some.rec, c.key_number.ensures.0, h.1) (sym (marked_next a.count a.table.now i l.held h.0) ∙ l.invariant.3),
    )

pub returns : goal.returns
returns c =
    let a = c.args in
    let l = c.loop-rec in
    let k = c.chunks_exact-rec-items in
    let e = chunks_end 220 (lit< tt) a.count a.table.now c.requires.0 k.result k.ensures.size k.ensures.rest _ c.into_iter-rec-iterator.ensures.into_iter_gives l.yielded _ l.yielded_by c.next.result c.next.new.self c.next.ensures.steps c.in-None.is in
    sym (marked_end a.count a.table.now (length l.yielded) l.held (omega (arith, e))) ∙ l.invariant.3
