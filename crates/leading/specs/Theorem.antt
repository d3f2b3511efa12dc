-- Document 02, item 11, over whole calls: what holds of every call, read off its answer and the buffer that it leaves. Assumes nothing.
use Rattle.std.specs.Prelude.{ℕ, ◌*◌, ◌≡◌, List, true, drop}
use Rattle.answers.specs.Answer.{Answer, refused, done}
use Rattle.text.specs.Blocks.{blocks}
use Rattle.text.specs.ByteNumbers.{AreBytes}
use Rattle.layout.specs.Locals.{is_local_list}
use Rattle.caserecords.specs.RecordsTo.{is_row, records_outcome}
use Rattle.leading.specs.Leads.{Lead, NoneLeads}

-- all that is lent at entry, the answer, and the output that is left
pub record RecordsCall : Type 0 where
  pub row : List ℕ
  pub wanted : List ℕ
  pub list : List ℕ
  pub out : List ℕ
  pub answer : Answer ℕ
  pub after : List ℕ

-- the promise of the call
abbrev pub IsRecordsCall : RecordsCall → Type 0
IsRecordsCall c = record { answer = c.answer; buffers = c.after } ≡ records_outcome c.row c.wanted c.list c.out

-- the records in the output, as many as the answer counts
abbrev pub records_in : ℕ → RecordsCall → List (List ℕ)
records_in n c = blocks 245 n c.after

pub record Promised (c : RecordsCall) : Type 0 where
  -- carried out: the records in the output lead there in every year, and the bytes behind them are kept
  pub lead : (n : ℕ) → c.answer ≡ done n → (year : ℕ) → Lead c.row c.wanted year c.list (records_in n c)
  pub kept : (n : ℕ) → c.answer ≡ done n → drop (n * 245) c.after ≡ drop (n * 245) c.out
  -- refused: the output is left alone
  pub alone : (k : ℕ) → c.answer ≡ refused k → c.after ≡ c.out
  -- with 29 no list leads there, in no year
  pub none_leads : c.answer ≡ refused 29 → (year : ℕ) → NoneLeads c.row c.wanted year c.list
  -- and where 2 and 4 don't come and no list does in some year, 29 comes
  pub comes : is_local_list c.list ≡ true → is_row c.row ≡ true → is_row c.wanted ≡ true → (year : ℕ)
      → NoneLeads c.row c.wanted year c.list → c.answer ≡ refused 29

abbrev pub EveryCall : Type 0
EveryCall = (c : RecordsCall) → AreBytes c.wanted → IsRecordsCall c → Promised c
