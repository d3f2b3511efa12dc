-- `accepted::has_ebcdic` meets its contract: the ranges agree with the list of characters at each of the 256 bytes, in one test.
-- Assumes nothing.
use Prim.Native.Nat.{ℕ}
use mathlib.Core.Path.{refl}
use mathlib.Core.Bool.{Bool, ◌&&◌, ◌||◌}
use native.Mathlib.Omega.{arith}
use lib.Dec.{eqb, leb}
use Rattle.codepage.specs.CodePage.{characters, code_among, ebcdic_of}
use Rattle.codepage.specs.Accepted.{has_counterpart}
use Rattle.text.proofs.EachByteLaws.{bytes_agree}
use Rattle.codepage.proofs.accepted.has_ebcdic.Goals as goal

abbrev ranges : ℕ → Bool
ranges b =
    eqb b 0x20 || eqb b 0x23 || (leb 0x26 b && leb b 0x29) || (leb 0x2C b && leb b 0x39) || (leb 0x41 b && leb b 0x5A)

pub returns : goal.returns
unfolding characters code_among ebcdic_of
returns c = bytes_agree ranges (λ b. has_counterpart (ebcdic_of b)) refl c.args.b (omega arith)
