-- `key::is_sound_behind` meets its contract: the key by its two numbers. Assumes nothing.
use native.Mathlib.Omega.{arith}
use Rattle.text.proofs.ByteNumberLaws.{bytes_of}
use Rattle.layout.proofs.key.is_sound_behind.Goals as goal

pub is_sound_behind_in-requires : goal.is_sound_behind_in-requires
is_sound_behind_in-requires c = c.four_number.ensures.1

pub returns : goal.returns
returns c =
    let key = c.args.key.now in
    let b = bytes_of key (λ i h. omega (arith, c.shared_slice_known-1.given i)) in
    c.is_sound_behind_in.ensures key c.requires b c.eight_number.ensures c.four_number.ensures.0
