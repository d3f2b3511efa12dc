-- `name::are_four_letters` meets its contract: each of the four bytes by `is_letter`. Assumes nothing.
use Rattle.layout.proofs.name.are_four_letters.Goals as goal

pub returns : goal.returns
returns c =
    rw (
      c.is_letter-d.ensures,
      c.is_letter-c.ensures,
      c.is_letter-b.ensures,
      c.is_letter-a.ensures,
    )
