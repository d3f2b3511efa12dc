-- Laws of the outcome of an update: each refusal, and the call carried out. Assumes nothing.
use mathlib.Core.Path.{◌≡◌, sym}
use mathlib.Core.Bool.{true, false, not, or-true}
use mathlib.Core.List.{List}
use Prim.Native.Nat.{ℕ, ◌+◌, ◌-◌, ◌/◌, ◌%◌, ◌≤◌, ◌<◌}
use native.Mathlib.Omega.{arith}
use lib.Dec.{eqb, ltb}
use lib.ListN.{length, replicate, length-replicate}
use borrow.Author.Tests.{le-ltb, lt-ltb, ltb-false}
use Rattle.answers.specs.Refusal.{refusal_number_of}
use Rattle.answers.specs.declared.refusal.Refusal.{Refusal}
use Rattle.answers.specs.declared.refusal.Refusal.TheVariants.{WrongContacts, ShortContacts}
use Rattle.answers.proofs.AnswerLaws.{outcome_done}
use Rattle.answers.proofs.RefusalLaws.{outcome_err}
use Rattle.std.specs.Prelude.{Ok, Err}
use Rattle.text.specs.Blocks.{joined, over}
use Rattle.text.proofs.BoolLaws.{or_right}
use Rattle.layout.specs.Limits.{max_rows}
use Rattle.contacttable.specs.Table.{contacts_of, is_wrong_table}
use Rattle.contacttable.proofs.TableLaws.{right_table}
use Rattle.contactupdate.specs.Update.{faulty_from, is_wrong_file, records_of, lacking, refusal19, update_refusal, updated_as, new_table, update_run, update_outcome}
use Rattle.contactupdate.specs.Marks.{keys_marked, lacking_in, Flagged}
use Rattle.contactupdate.specs.Merging.{Passed}
use Rattle.contactupdate.specs.declared.update.Updated.{Updated}
use Rattle.text.proofs.ZerosLaws.{zeros_get}
use Rattle.contactupdate.proofs.MarksLaws.{flagged}
use Rattle.contactupdate.proofs.LackingLaws.{lacking_is}

-- the marks of a table that isn't refused
pub table_flagged : (table : List ℕ) (count : ℕ) (held : List ℕ) → is_wrong_table table count ≡ false
    → held ≡ keys_marked (contacts_of count table) (replicate 54000 0) → Flagged (contacts_of count table) held
table_flagged table count held t e =
    rw e
    (flagged (contacts_of count table) (replicate 54000 0) (right_table table count t).table (length-replicate {A = ℕ} 54000 0) (zeros_get 54000))

file_few : (limit : ℕ) (file : List ℕ) → is_wrong_file limit file ≡ false → length file / 220 ≤ limit
unfolding is_wrong_file
file_few limit file f =
    ltb-false limit (length file / 220) (or_right (not (eqb (length file % 220) 0)) (ltb limit (length file / 220)) f)

module _ (limit : ℕ) (table : List ℕ) (count : ℕ) (file faulty : List ℕ) where
  update_refused : (r : Refusal) → update_refusal limit table count file faulty ≡ refusal_number_of r
      → updated_as (Err r) table faulty ≡ update_outcome limit table count file faulty
  unfolding update_outcome
  update_refused r e = outcome_err _ (record { table = table; faulty = faulty }) (update_run table count file faulty) r (sym e)

  pub outcome_file : is_wrong_file limit file ≡ true → updated_as (Err WrongContacts) table faulty ≡ update_outcome limit table count file faulty
  unfolding update_refusal
  outcome_file f = update_refused WrongContacts (rw f)

  pub outcome_table : is_wrong_table table count ≡ true → updated_as (Err WrongContacts) table faulty ≡ update_outcome limit table count file faulty
  unfolding update_refusal
  outcome_table t = update_refused WrongContacts (rw (t, or-true (is_wrong_file limit file)))

  module _ (f : is_wrong_file limit file ≡ false) (t : is_wrong_table table count ≡ false) where
    outcome_19 : refusal19 table count file faulty ≡ true → updated_as (Err ShortContacts) table faulty ≡ update_outcome limit table count file faulty
    unfolding update_refusal
    outcome_19 s = update_refused ShortContacts (rw (f, t, s))

    pub outcome_list : length faulty < length file / 220 → updated_as (Err ShortContacts) table faulty ≡ update_outcome limit table count file faulty
    unfolding refusal19
    outcome_list h =
        outcome_19
        (rw (lt-ltb (length faulty) (length file / 220) h)
        (or-true (ltb (length table / 220) (count + lacking (contacts_of count table) (records_of file)))))

    module _ (held : List ℕ) (g : Flagged (contacts_of count table) held) where
      lacks : lacking_in held (records_of file) ≡ lacking (contacts_of count table) (records_of file)
      lacks = lacking_is (contacts_of count table) held (right_table table count t).table g (records_of file)

      pub outcome_space : length table / 220 - count < lacking_in held (records_of file)
          → updated_as (Err ShortContacts) table faulty ≡ update_outcome limit table count file faulty
      unfolding refusal19
      outcome_space h =
          outcome_19
          (rw (lt-ltb (length table / 220) (count + lacking (contacts_of count table) (records_of file)) (omega (arith, lacks))))

      module _ (s : lacking_in held (records_of file) ≤ length table / 220 - count) (l : length file / 220 ≤ length faulty) where
        pub passed : limit ≡ max_rows → Passed table count file faulty held
        passed e =
            let r = right_table table count t in
            record {
              table_right = r.table;
              marks = g;
              few = omega (arith, file_few limit file f);
              space = omega (arith, r.few);
              list = l;
            }

        pub update_done : (r : Updated) (after numbers : List ℕ)
            → r.records ≡ length (new_table table count file) → r.listed ≡ length (faulty_from 1 (records_of file))
            → after ≡ over (joined (new_table table count file)) table → numbers ≡ over (faulty_from 1 (records_of file)) faulty
            → updated_as (Ok r) after numbers ≡ update_outcome limit table count file faulty
        unfolding update_outcome update_refusal refusal19
        update_done r after numbers er el ea en =
            let q = (right_table table count t).few in
            let p = le-ltb (length table / 220) (count + lacking (contacts_of count table) (records_of file)) (omega (arith, lacks)) in
            rw (er, el, ea, en)
            (outcome_done (update_refusal limit table count file faulty) (record { table = table; faulty = faulty }) (update_run table count file faulty)
            (rw (f, t, p, le-ltb (length faulty) (length file / 220) l)))
