-- `key_entry::put_key_entry`: each way out is one case of the key's bytes. Assumes nothing.
use mathlib.Core.Path.{◌≡◌}
use mathlib.Core.List.{[]}
use mathlib.Core.Option.{none, some}
use Rattle.onecase.specs.Machine.{row_of}
use Rattle.journal.specs.Journal.{entry, entry_bytes}
use Rattle.journal.specs.Writing.{key_bytes}
use Rattle.journal.proofs.LengthLaws.{one_bytes, no_bytes}
use Rattle.journalwalk.proofs.KeyEntryLaws.{wrote_none, same_entry, old_entry, wrote_as, room_as}
use Rattle.journalwalk.proofs.key_entry.put_key_entry.Goals as goal

pub returns-then-not-wanted : goal.returns-then-not-wanted
returns-then-not-wanted c = wrote_none _ _ _ (rw c.if-not-wanted.true)

pub returns-in_default : goal.returns-in_default
returns-in_default c = wrote_none _ _ _ (rw (c.if-not-wanted.false, c.in_default.is) no_bytes)

pub put_new-requires : goal.put_new-requires
put_new-requires c =
    let a = c.args in
    let e : key_bytes a.wanted a.place (row_of a.old) (row_of a.new) ≡ entry_bytes (entry a.place none) =
    rw (c.if-not-wanted.false, c.in-Some.is, c.in_default-row.is) (one_bytes (entry a.place none)) in
    room_as a.at _ _ _ e c.requires

pub returns-in_default-row : goal.returns-in_default-row
returns-in_default-row c =
    let a = c.args in
    wrote_as _ _ _ _ _ _ (rw (c.if-not-wanted.false, c.in-Some.is, c.in_default-row.is) (one_bytes (entry a.place none))) c.put_new.ensures

pub returns-then-same : goal.returns-then-same
returns-then-same c =
    let a = c.args in
    wrote_none _ _ _ (rw (c.if-not-wanted.false, c.in-Some.is, c.in-Some-row.is) (same_entry a.place _ _ c.same.result c.same.ensures c.if-same.true))

pub put_old-requires : goal.put_old-requires
put_old-requires c =
    let a = c.args in
    let e : key_bytes a.wanted a.place (row_of a.old) (row_of a.new) ≡ entry_bytes (entry a.place (some c.in-Some-row.was)) =
    rw (c.if-not-wanted.false, c.in-Some.is, c.in-Some-row.is) (old_entry a.place _ _ c.same.result c.same.ensures c.if-same.false) in
    room_as a.at _ _ _ e c.requires

pub returns : goal.returns
returns c =
    let a = c.args in
    wrote_as _ _ _ _ _ _ (rw (c.if-not-wanted.false, c.in-Some.is, c.in-Some-row.is) (old_entry a.place _ _ c.same.result c.same.ensures c.if-same.false)) c.put_old.ensures
