-- `note_record` notes a good record or lists a faulty one; a good one has a sound key. Assumes nothing.
use Rattle.contactrecord.proofs.ContactLaws.{good_key}
use mathlib.Core.Path.{sym, ◌∙◌}
use native.Mathlib.Omega.{arith}
use Rattle.contactupdate.proofs.noting.note_record.Goals as goal

pub returns-then-is_faulty : goal.returns-then-is_faulty
returns-then-is_faulty c =
    let e = sym c.is_faulty.ensures ∙ c.if-is_faulty.true in
    (rw e c.list_number.ensures.0, rw e, rw e c.list_number.ensures.1)

pub key_number-requires : goal.key_number-requires
key_number-requires c =
    (c.requires.0, good_key c.args.rec.now (sym c.is_faulty.ensures ∙ c.if-is_faulty.false))

pub bounds-lasts-key_number : goal.bounds-lasts-key_number
bounds-lasts-key_number c =
    omega (arith, c.key_number.ensures.1, c.requires.1)

pub returns : goal.returns
returns c =
    let e = sym c.is_faulty.ensures ∙ c.if-is_faulty.false in
    ((rw e), (rw (e, c.key_number.ensures.0)), (rw e))
