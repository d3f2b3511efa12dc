-- `accepted::has_ascii` meets its contract: the ranges agree with the list of characters at each of the 256 bytes, in one test.
-- Assumes nothing.
use Prim.Native.Nat.{ℕ}
use mathlib.Core.Path.{refl}
use mathlib.Core.Bool.{Bool, ◌&&◌, ◌||◌}
use native.Mathlib.Omega.{arith}
use lib.Dec.{eqb, leb}
use Rattle.codepage.specs.CodePage.{characters, code_among, ascii_of}
use Rattle.codepage.specs.Accepted.{has_counterpart}
use Rattle.text.proofs.EachByteLaws.{bytes_agree}
use Rattle.codepage.proofs.accepted.has_ascii.Goals as goal

abbrev ranges : ℕ → Bool
ranges b =
    eqb b 0x40 || eqb b 0x4B || eqb b 0x4D || eqb b 0x50 || eqb b 0x5D || (leb 0x60 b && leb b 0x61) || eqb b 0x6B || eqb b 0x7B
    || eqb b 0x7D || (leb 0xC1 b && leb b 0xC9) || (leb 0xD1 b && leb b 0xD9) || (leb 0xE2 b && leb b 0xE9) || (leb 0xF0 b && leb b 0xF9)

pub returns : goal.returns
unfolding characters code_among ascii_of
returns c = bytes_agree ranges (λ b. has_counterpart (ascii_of b)) refl c.args.b (omega arith)
