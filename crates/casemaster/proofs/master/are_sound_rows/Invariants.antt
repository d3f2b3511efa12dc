-- `master::are_sound_rows` meets its contract. The loop's invariant: `front` and `back` are the numbers of the key of the row at i, the
-- rows and keys from it on give the same answers as all, and `known` is a state's number. Assumes nothing.
use mathlib.Core.Path.{◌≡◌}
use mathlib.Core.Bool.{true}
use Prim.Native.Nat.{◌<◌}
use lib.ListN.{drop, take}
use Rattle.text.specs.Fields.{every}
use Rattle.text.specs.ByteOrder.{rising}
use Rattle.text.specs.ByteNumbers.{bytes_number}
use Rattle.layout.specs.StateCodes.{is_state_code}
use Rattle.casemaster.specs.Master.{rows_of, keys_of, row_in}
use Rattle.casemaster.specs.Forms.{is_sound_in}
use Rattle.casemaster.proofs.master.are_sound_rows.Given as goal

abbrev pub invariant-loop-i : goal.invariant-loop-i
invariant-loop-i l =
    (l.i < l.n)
    × (is_state_code l.known ≡ true)
    × (l.back < 4294967296)
    × (l.front ≡ bytes_number (take 8 (row_in l.m l.i)))
    × (l.back ≡ bytes_number (take 4 (drop 8 (row_in l.m l.i))))
    × (every (is_sound_in l.form) (drop l.i (rows_of l.n l.m)) ≡ every (is_sound_in l.form) (rows_of l.n l.m))
    × (rising (drop l.i (keys_of (rows_of l.n l.m))) ≡ rising (keys_of (rows_of l.n l.m)))
