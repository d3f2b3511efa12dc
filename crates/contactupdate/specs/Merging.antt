-- For the contracts of inner functions; no rule of the papers stands here.
-- What a key has afterwards, by its mark and the number noted for it, and what is known when the table is merged. Assumes nothing.
use Rattle.std.specs.Prelude.{ℕ, zero, suc, ◌+◌, ◌-◌, ◌*◌, ◌/◌, ◌≤◌, ◌<◌, ◌≡◌, List, [], Bool, true, not, cond, ◌||◌, length, get_or, take, drop, eqb}
use Rattle.text.specs.Options.{one_or_none}
use Rattle.layout.specs.Limits.{max_rows}
use Rattle.contacttable.specs.Table.{contacts_of, is_table}
use Rattle.contactupdate.specs.Update.{records_of}
use Rattle.contactupdate.specs.KeyNumbers.{Held, spread, held_in}
use Rattle.contactupdate.specs.Marks.{lacking_in, Flagged}
use Rattle.contactupdate.specs.Noting.{held_after}

-- a key has a record afterwards
abbrev pub is_present : ℕ → ℕ → Bool
is_present held last = not (eqb held 0) || not (eqb last 0)

-- 1 where it has, the mark being 0 or 1
unfoldable pub present_of : ℕ → ℕ → ℕ
present_of held last = cond (eqb last 0) held 1

-- how many of d keys from k on have one
unfoldable pub present_from : ℕ → ℕ → List ℕ → List ℕ → ℕ
present_from k zero held lasts = 0
present_from k (suc d) held lasts = present_of (get_or held k 0) (get_or lasts k 0) + present_from (suc k) d held lasts

-- the bytes that a key gets: those of the record noted, else those of the table's record at place o where it is marked, else none
unfoldable pub chosen : List ℕ → List ℕ → ℕ → ℕ → ℕ → List ℕ
chosen file table held last o =
    cond (eqb last 0) (cond (eqb held 0) [] (take 220 (drop (o * 220) table))) (take 220 (drop ((last - 1) * 220) file))

-- the record of each key number once the file is read
abbrev pub held_finally : List ℕ → ℕ → List ℕ → List ℕ → Held
held_finally table count file lasts = held_after (records_of file) lasts (held_in (contacts_of count table))

-- the marks and numbers are those of the table and the file, and the table has space
pub record Ready (table : List ℕ) (count total : ℕ) (file held lasts : List ℕ) : Type 0 where
  pub flags : (j : ℕ) → j < 54000 → get_or held j 0 ≡ length (one_or_none (held_in (contacts_of count table) j))
  pub numbers : (j : ℕ) → get_or lasts j 0 ≤ length file / 220
  pub held_wide : length held ≡ 54000
  pub lasts_wide : length lasts ≡ 54000
  pub room : total * 220 ≤ length table
  pub total_is : total ≡ length (spread 0 54000 (held_finally table count file lasts))
  pub table_is : spread 0 54000 (held_in (contacts_of count table)) ≡ contacts_of count table

-- no refusal holds, and the table's keys are marked
pub record Passed (table : List ℕ) (count : ℕ) (file faulty held : List ℕ) : Type 0 where
  pub table_right : is_table (contacts_of count table) ≡ true
  pub marks : Flagged (contacts_of count table) held
  pub few : length file / 220 ≤ max_rows
  pub space : (count + lacking_in held (records_of file)) * 220 ≤ length table
  pub list : length file / 220 ≤ length faulty
