-- `limits::are_refused`: each test is its part of the definition, and they are joined in its order. Assumes nothing.
use Rattle.std.proofs.Common.{◌≡◌, ℕ, Bool, true, false, not, Option, Some, None, refl}
use mathlib.Core.Bool.{false≢true, true≢false}
use Rattle.std.specs.Option.{is_some}
use Rattle.apply_files.specs.Limits.{size_of, is_missing_file, refusal0}
use Rattle.apply_files.proofs.limits.are_refused.Goals as goal

-- a file is missing where no bytes of it were read
missing : (file : Option ℕ) (none : Bool) → is_some file ≡ not none → none ≡ is_missing_file (size_of file)
missing None true e = refl
missing None false e = absurd (false≢true e)
missing (Some n) true e = absurd (true≢false e)
missing (Some n) false e = refl

pub returns : goal.returns
unfolding refusal0
returns c =
    rw (c.is_beyond-2.ensures, c.is_beyond-3.ensures, c.is_beyond.ensures, missing c.args.year c.is_none.result c.is_none.ensures)
