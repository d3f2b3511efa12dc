-- `entries::entry_at`: each way out is one form of the bytes behind the place: none, mark 00, another mark, a row cut short, mark 01.
-- Assumes nothing.
use Rattle.journal.proofs.EntryLaws.{no_place_lem, no_mark, new_entry, bad_mark, short_row, old_entry}
use mathlib.Core.Path.{refl}
use Rattle.journal.proofs.entries.entry_at.Goals as goal

pub returns-in_err-number : goal.returns-in_err-number
returns-in_err-number c = rw c.from_residual.ensures (no_place_lem c.args.at c.args.s.now (rw c.in_err-number.was at c.number_at.ensures))

pub returns-then-s-i : goal.returns-then-s-i
returns-then-s-i c =
    let a = c.args in
    let n = c.in_ok-number.number in
    no_mark a.at a.s.now n.value n.next (rw c.in_ok-number.was at c.number_at.ensures) c.if-s-i.true

pub returns-then-mark-eq0 : goal.returns-then-mark-eq0
returns-then-mark-eq0 c =
    let a = c.args in
    let n = c.in_ok-number.number in
    new_entry a.at a.s.now n.value n.next (rw c.in_ok-number.was at c.number_at.ensures) _ refl c.if-s-i.false c.if-mark-eq0.true

pub returns-then-mark-ne1 : goal.returns-then-mark-ne1
returns-then-mark-ne1 c =
    let a = c.args in
    let n = c.in_ok-number.number in
    bad_mark a.at a.s.now n.value n.next (rw c.in_ok-number.was at c.number_at.ensures) _ refl c.if-s-i.false c.if-mark-eq0.false c.if-mark-ne1.true

pub returns-then-s-i-lt201 : goal.returns-then-s-i-lt201
returns-then-s-i-lt201 c =
    let a = c.args in
    let n = c.in_ok-number.number in
    short_row a.at a.s.now n.value n.next (rw c.in_ok-number.was at c.number_at.ensures) _ refl c.if-s-i.false c.if-mark-eq0.false c.if-mark-ne1.false c.if-s-i-lt201.true

pub returns : goal.returns
returns c =
    let a = c.args in
    let n = c.in_ok-number.number in
    old_entry a.at a.s.now n.value n.next (rw c.in_ok-number.was at c.number_at.ensures) _ refl c.if-s-i.false c.if-mark-ne1.false c.if-s-i-lt201.false
