use Rattle.std.proofs.Common.{◌≡◌, ◌+◌, ◌≤◌, length, cond, refl, sym, ap, ◌∙◌, arith, rules, lit<}
use Rattle.std.proofs.lemmas.List.{length_push}
use Rattle.text.proofs.ChunksLaws.{numbered_here, numbered_end}
use Rattle.layout.proofs.LimitsLaws.{list_number}
use Rattle.contactrecord.specs.Contact.{is_faulty}
use Rattle.contacttable.proofs.TableLaws.{length_contact, contact_at}
use Rattle.contactupdate.proofs.NotingLaws.{lasts_next, lasts_end, listing_start, listing_next, listing_count, listing_end, listed-within}
use Rattle.contactupdate.proofs.noting.note_file.Goals as goal

pub loop-i-init : goal.loop-i-init
loop-i-init c =
    let a = c.args in
    (search rules, search rules, search rules, c.requires.2, refl, refl, listing_start a.n a.file.now a.faulty.now)

pub overflow_cast-number : goal.overflow_cast-number
overflow_cast-number c =
    let a = c.args in
    let l = c.loop-i in
    let k = c.chunks_exact in
    let m = c.enumerate-i-items in
    let h = numbered_here 220 (lit< tt) a.n a.file.now c.requires.0 k.result k.ensures.size k.ensures.rest m.result _ m.ensures.source m.ensures.count c.into_iter-i-iterator.ensures.into_iter_gives l.yielded _ l.yielded_by c.next.result c.next.new.self c.next.ensures.steps (c.in-Some.i, c.in-Some.rec) c.in-Some.is in
    omega (arith, list_number, c.requires.1, h.0, h.1)

pub note_record-listed-requires : goal.note_record-listed-requires
note_record-listed-requires c =
    let a = c.args in
    let l = c.loop-i in
    let k = c.chunks_exact in
    let m = c.enumerate-i-items in
    let h = numbered_here 220 (lit< tt) a.n a.file.now c.requires.0 k.result k.ensures.size k.ensures.rest m.result _ m.ensures.source m.ensures.count c.into_iter-i-iterator.ensures.into_iter_gives l.yielded _ l.yielded_by c.next.result c.next.new.self c.next.ensures.steps (c.in-Some.i, c.in-Some.rec) c.in-Some.is in (
      rw h.2 (length_contact a.n a.file.now (length l.yielded) h.0 c.requires.0),
      l.invariant.3,
      omega (arith, l.invariant.2, l.invariant.4, c.requires.3, h.0),
    )

pub loop-i-preserved : goal.loop-i-preserved
loop-i-preserved c =
    let a = c.args in
    let l = c.loop-i in
    let k = c.chunks_exact in
    let m = c.enumerate-i-items in
    let h = numbered_here 220 (lit< tt) a.n a.file.now c.requires.0 k.result k.ensures.size k.ensures.rest m.result _ m.ensures.source m.ensures.count c.into_iter-i-iterator.ensures.into_iter_gives l.yielded _ l.yielded_by c.next.result c.next.new.self c.next.ensures.steps (c.in-Some.i, c.in-Some.rec) c.in-Some.is in
    let i = length l.yielded in
    let e = c.note_record-listed.ensures in
    let f = c.note_record-listed.auto in
    let p = length_push l.yielded (c.in-Some.i, c.in-Some.rec) in
    let faulty : c.note_record-listed.result ≡ cond (is_faulty (contact_at a.file.now i)) (l.listed + 1) l.listed = e.0 ∙ ap (λ r. cond (is_faulty r) (l.listed + 1) l.listed) h.2 in (
      search rules,
      search rules,
      rw p (listed-within (is_faulty (contact_at a.file.now i)) l.listed i c.note_record-listed.result faulty l.invariant.2),
      f.lasts ∙ l.invariant.3,
      f.faulty ∙ l.invariant.4,
      rw (p, e.1, h.2, h.1) (sym (lasts_next a.n a.file.now i h.0 l.lasts) ∙ l.invariant.5),
      rw (p, faulty, e.2, h.2, h.1) (listing_next a.n a.file.now a.faulty.now l.faulty l.listed i l.invariant.6 h.0 (omega (arith, l.invariant.2, c.requires.3))),
    )

pub returns : goal.returns
returns c =
    let a = c.args in
    let l = c.loop-i in
    let k = c.chunks_exact in
    let m = c.enumerate-i-items in
    let i = length l.yielded in
    let e = numbered_end 220 (lit< tt) a.n a.file.now c.requires.0 k.result k.ensures.size k.ensures.rest m.result _ m.ensures.source m.ensures.count c.into_iter-i-iterator.ensures.into_iter_gives l.yielded _ l.yielded_by c.next.result c.next.new.self c.next.ensures.steps c.in-None.is in
    let past : a.n ≤ i = omega (arith, e) in
    let w : l.listed ≤ length a.faulty.now = omega (arith, e, l.invariant.2, c.requires.3) in (
      listing_count a.n a.file.now a.faulty.now l.faulty l.listed i l.invariant.6 past w,
      sym (lasts_end a.n a.file.now i past (i + 1) l.lasts) ∙ l.invariant.5,
      listing_end a.n a.file.now a.faulty.now l.faulty l.listed i l.invariant.6 past w,
    )
