-- `balance::balance_of` meets its contract: the two numbers of a sound row are digits, and both fit. Assumes nothing.
use native.Mathlib.Omega.{arith}
use lib.Dec.{lit≤}
use Rattle.casemaster.specs.Row.{balance}
use Rattle.casemaster.proofs.SoundLaws.{sound_columns}
use Rattle.posting.proofs.balance.balance_of.Goals as goal

pub number_at-requires : goal.number_at-requires
number_at-requires c =
    let w = c.requires.0 in
    (record { low = lit≤ tt; ordered = lit≤ tt; high = omega (arith, w) }, lit≤ tt, (sound_columns c.args.row.now c.requires.1).arrearage_digits)

pub number_at-requires-2 : goal.number_at-requires-2
number_at-requires-2 c =
    let w = c.requires.0 in
    (record { low = lit≤ tt; ordered = lit≤ tt; high = omega (arith, w) }, lit≤ tt, (sound_columns c.args.row.now c.requires.1).cents_digits)

pub returns : goal.returns
unfolding balance
returns c =
    (rw (c.in_cents.ensures, c.number_at.ensures.0, c.number_at-2.ensures.0), omega (arith, c.in_cents.ensures, c.number_at.ensures.1, c.number_at-2.ensures.1))
