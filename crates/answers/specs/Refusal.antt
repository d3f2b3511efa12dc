-- The number of each refusal, and the answer that a result stands for. Assumes nothing.
use Rattle.std.specs.Prelude.{ℕ, Result, Ok, Err}
use Rattle.answers.specs.declared.refusal.Refusal.{Refusal}
use Rattle.answers.specs.declared.refusal.Refusal.TheVariants.{WrongYear, WrongLocals, WrongMaster, UnsoundRow, WrongBatch, NoCtl, WrongCount, WrongAmount, NoRoom, ShortVerdicts, ShortOutput, WrongState, WrongDate, UnsoundKey, NoSuchRow, WrongContacts, ShortContacts, ControlState, ControlForm, WrongFile, WrongTotal, ShortLines, ShortJournal, WrongJournal, WrongKeys, ShortPlaces, NoRecords, ShortRecords, ShortPages, CannotMerge, ShortBatch}
use Rattle.answers.specs.Answer.{Answer, refused, done}

-- the refusals' numbers; 16 and 17 are the code page's
abbrev pub refusal_number_of : Refusal → ℕ
refusal_number_of WrongYear = 1
refusal_number_of WrongLocals = 2
refusal_number_of WrongMaster = 3
refusal_number_of UnsoundRow = 4
refusal_number_of WrongBatch = 5
refusal_number_of NoCtl = 6
refusal_number_of WrongCount = 7
refusal_number_of WrongAmount = 8
refusal_number_of NoRoom = 9
refusal_number_of ShortVerdicts = 10
refusal_number_of ShortOutput = 11
refusal_number_of WrongState = 12
refusal_number_of WrongDate = 13
refusal_number_of UnsoundKey = 14
refusal_number_of NoSuchRow = 15
refusal_number_of WrongContacts = 18
refusal_number_of ShortContacts = 19
refusal_number_of ControlState = 20
refusal_number_of ControlForm = 21
refusal_number_of WrongFile = 22
refusal_number_of WrongTotal = 23
refusal_number_of ShortLines = 24
refusal_number_of ShortJournal = 25
refusal_number_of WrongJournal = 26
refusal_number_of WrongKeys = 27
refusal_number_of ShortPlaces = 28
refusal_number_of NoRecords = 29
refusal_number_of ShortRecords = 30
refusal_number_of ShortPages = 31
refusal_number_of CannotMerge = 32
refusal_number_of ShortBatch = 33

-- the number of the refusal that a test of the refusals answers, 0 where none holds
abbrev pub number_in : {T : Type 0} → Result T Refusal → ℕ
number_in (Ok x) = 0
number_in (Err refusal) = refusal_number_of refusal

-- the answer that a call's result stands for: a refusal's number, or what is made of its value
abbrev pub answer_in : {T R : Type 0} → (T → R) → Result T Refusal → Answer R
answer_in f (Ok x) = done (f x)
answer_in f (Err refusal) = refused (refusal_number_of refusal)
