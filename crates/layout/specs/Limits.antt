-- Documents 01 and 02: the limit, named once. Assumes nothing.
use Rattle.std.specs.Prelude.{ℕ}

-- the most rows that a master may have, and the most details of a batch, lines of a collection file and records of a contact file. A
-- batch and a collection file have one record more. A definition that takes a limit is over any; this is the one that the code has.
unfoldable pub max_rows : ℕ
max_rows = 16777215
