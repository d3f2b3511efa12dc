-- Document 02, item 4: a contact file read into a table, each record in turn, or a refusal. Assumes nothing.
use Rattle.std.specs.Prelude.{ℕ, ◌+◌, ◌/◌, ◌%◌, List, [], ◌∷◌, map, Bool, not, cond, ◌||◌, length, eqb, ltb, Result}
use Rattle.text.specs.Fields.{is_one_of}
use Rattle.text.specs.Blocks.{joined, over}
use Rattle.text.specs.ByteOrder.{with_block}
use Rattle.answers.specs.Answer.{refuse_if, Answer, Outcome, Run, outcome_by}
use Rattle.answers.specs.Refusal.{answer_in}
use Rattle.answers.specs.declared.refusal.Refusal.{Refusal}
use Rattle.contactrecord.specs.ChartA3.{contact_width, contact_key}
use Rattle.contactrecord.specs.Contact.{is_faulty}
use Rattle.contacttable.specs.Table.{contacts_of, is_wrong_table}
use Rattle.contactupdate.specs.declared.update.Updated.{Updated}

-- a record replaces whole the one of its state and code, its first five bytes, or else is added
unfoldable pub with_contact : List ℕ → List (List ℕ) → List (List ℕ)
with_contact new table = with_block 5 new table

-- the records of a file in turn; a faulty one is skipped
unfoldable pub updated : List (List ℕ) → List (List ℕ) → List (List ℕ)
updated [] table = table
updated (rec ∷ file) table = updated file (cond (is_faulty rec) table (with_contact rec table))

-- the numbers of the faulty records, in file order, the first record's being n
unfoldable pub faulty_from : ℕ → List (List ℕ) → List ℕ
faulty_from n [] = []
faulty_from n (rec ∷ file) = cond (is_faulty rec) (n ∷ faulty_from (n + 1) file) (faulty_from (n + 1) file)

-- 18, of a file: a length no multiple of 220, or over the limit (16,777,215) of records
unfoldable pub is_wrong_file : ℕ → List ℕ → Bool
is_wrong_file limit file = not (eqb (length file % contact_width) 0) || ltb limit (length file / contact_width)

-- the records of a file
abbrev pub records_of : List ℕ → List (List ℕ)
records_of file = contacts_of (length file / contact_width) file

-- how many records of a file, faulty and repeated ones counted, have a key that the table lacks
unfoldable pub lacking : List (List ℕ) → List (List ℕ) → ℕ
lacking table [] = 0
lacking table (rec ∷ file) = cond (is_one_of (contact_key rec) (map contact_key table)) 0 1 + lacking table file

-- 19: a table without space for every record whose key it lacks at entry, or a list shorter than the records
unfoldable pub refusal19 : List ℕ → ℕ → List ℕ → List ℕ → Bool
refusal19 table count file faulty =
    ltb (length table / contact_width) (count + lacking (contacts_of count table) (records_of file))
    || ltb (length faulty) (length file / contact_width)

-- refused: 18, of the file or the table, then 19
unfoldable pub update_refusal : ℕ → List ℕ → ℕ → List ℕ → List ℕ → ℕ
update_refusal limit table count file faulty =
    refuse_if (is_wrong_file limit file || is_wrong_table table count) 18 (refuse_if (refusal19 table count file faulty) 19 0)

-- the result: the new table count and the list's
pub record UpdateResult : Type 0 where
  pub records : ℕ
  pub listed : ℕ

-- what each answer of the call stands for
abbrev pub update_answer : Result Updated Refusal → Answer UpdateResult
update_answer r = answer_in (λ (u : Updated). record { records = u.records; listed = u.listed }) r

-- the buffers that can be written: the table, and the list of faulty records' numbers
pub record UpdateBuffers : Type 0 where
  pub table : List ℕ
  pub faulty : List ℕ

abbrev pub UpdateOutcome : Type 0
UpdateOutcome = Outcome UpdateResult UpdateBuffers

-- the answer of the call and the buffers that it leaves
abbrev pub updated_as : Result Updated Refusal → List ℕ → List ℕ → UpdateOutcome
updated_as answer table faulty = record { answer = update_answer answer; buffers = record { table = table; faulty = faulty } }

-- the table's records once the file is read
abbrev pub new_table : List ℕ → ℕ → List ℕ → List (List ℕ)
new_table table count file = updated (records_of file) (contacts_of count table)

-- the new records and the numbers of the faulty ones, a record's number being its place in the file from 1; bytes behind the records and
-- numbers behind the list are kept
abbrev pub update_run : List ℕ → ℕ → List ℕ → List ℕ → Run UpdateResult UpdateBuffers
update_run table count file faulty =
    record {
      result = record { records = length (new_table table count file); listed = length (faulty_from 1 (records_of file)) };
      buffers = record {
        table = over (joined (new_table table count file)) table;
        faulty = over (faulty_from 1 (records_of file)) faulty;
      };
    }

unfoldable pub update_outcome : ℕ → List ℕ → ℕ → List ℕ → List ℕ → UpdateOutcome
update_outcome limit table count file faulty =
    outcome_by (update_refusal limit table count file faulty) (record { table = table; faulty = faulty }) (update_run table count file faulty)
