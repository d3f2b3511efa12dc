-- `packed::name_in_lem`: the four characters in the order of their bits. Assumes nothing.
use Rattle.keywork.proofs.packed.name_in.Goals as goal

pub returns : goal.returns
returns c =
    rw (
      c.character_of-a.ensures,
      c.character_of-b.ensures,
      c.character_of-c.ensures,
      c.character_of-d.ensures,
    )
