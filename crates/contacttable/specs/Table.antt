-- Document 02, item 4: a table of contact records, rising by state and code, and when a lent one is refused. Assumes nothing.
use Rattle.std.specs.Prelude.{ℕ, ◌/◌, ◌%◌, List, map, Bool, not, ◌&&◌, ◌||◌, length, eqb, ltb}
use Rattle.text.specs.Fields.{every}
use Rattle.text.specs.Blocks.{blocks}
use Rattle.text.specs.ByteOrder.{rising}
use Rattle.contactrecord.specs.ChartA3.{contact_width, contact_key}
use Rattle.contactrecord.specs.Contact.{is_faulty}

-- the first n records of some bytes
abbrev pub contacts_of : ℕ → List ℕ → List (List ℕ)
contacts_of n bytes = blocks contact_width n bytes

-- no record is faulty, and they stand in strictly rising order of state and code
unfoldable pub is_table : List (List ℕ) → Bool
is_table table = every (λ rec. not (is_faulty rec)) table && rising (map contact_key table)

-- 18, of a table: a length no multiple of 220, a count above its length ÷ 220, or records that aren't a table
unfoldable pub is_wrong_table : List ℕ → ℕ → Bool
is_wrong_table bytes count =
    not (eqb (length bytes % contact_width) 0) || ltb (length bytes / contact_width) count || not (is_table (contacts_of count bytes))
