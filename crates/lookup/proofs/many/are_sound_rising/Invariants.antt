-- `many::are_sound_rising`. The loop's invariant: `front` and `back` are the numbers of the key at i, the keys from it on give the same
-- answers as all, and `known` is a state's number. Assumes nothing.
use mathlib.Core.Path.{◌≡◌}
use mathlib.Core.Bool.{true}
use Prim.Native.Nat.{◌<◌}
use lib.ListN.{drop}
use Rattle.text.specs.Fields.{every}
use Rattle.text.specs.Blocks.{blocks}
use Rattle.text.specs.ByteOrder.{rising}
use Rattle.layout.specs.StateCodes.{is_state_code}
use Rattle.layout.specs.Key.{is_sound_key}
use Rattle.lookup.proofs.KeysLaws.{AreNumbers, key_in_list}
use Rattle.lookup.proofs.many.are_sound_rising.Given as goal

abbrev pub invariant-loop-i : goal.invariant-loop-i
invariant-loop-i l =
    (l.i < l.n)
    × (is_state_code l.known ≡ true)
    × (l.back < 4294967296)
    × AreNumbers l.front l.back (key_in_list l.keys l.i)
    × (every is_sound_key (drop l.i (blocks 12 l.n l.keys)) ≡ every is_sound_key (blocks 12 l.n l.keys))
    × (rising (drop l.i (blocks 12 l.n l.keys)) ≡ rising (blocks 12 l.n l.keys))
