-- `work`: what the passes leave is what the merge needs (`ready`), and the merge is each record in turn (`new_table_lem`). Assumes nothing.
use Rattle.text.proofs.ZerosLaws.{zeros_get}
use Rattle.contactupdate.proofs.MarksLaws.{flag_small}
use Rattle.contactupdate.proofs.ReadyLaws.{ready, new_count, new_table_lem}
use Rattle.contacttable.specs.Table.{contacts_of}
use lib.ListN.{replicate, length-replicate}
use mathlib.Core.Path.{sym, ◌∙◌}
use Prim.Native.Nat.{ℕ}
use Rattle.contactupdate.proofs.update.work.Goals as goal

pub count_present-records-requires : goal.count_present-records-requires
count_present-records-requires c =
    let a = c.args in
    (c.requires.marks.wide ∙ sym c.note_file-listed.auto.lasts, flag_small (contacts_of a.count a.table.now) a.held.now c.requires.marks)

pub merge-requires : goal.merge-requires
merge-requires c =
    let a = c.args in
    ready a.table.now a.count a.file.now a.held.now (replicate {A = ℕ} 54000 0) c.requires.table_right c.requires.marks (length-replicate {A = ℕ} 54000 0) (zeros_get 54000) c.requires.space c.count_present-records.result c.note_file-listed.new.lasts c.note_file-listed.ensures.1 c.count_present-records.ensures

pub returns : goal.returns
returns c =
    let a = c.args in
    let n = new_count a.table.now a.count a.file.now a.held.now (replicate {A = ℕ} 54000 0) c.requires.table_right c.requires.marks (length-replicate {A = ℕ} 54000 0) (zeros_get 54000) c.requires.space c.count_present-records.result c.note_file-listed.new.lasts c.note_file-listed.ensures.1 c.count_present-records.ensures in
    let f = c.note_file-listed.ensures in (
      n,
      f.0,
      new_table_lem a.table.now a.count a.file.now a.held.now (replicate {A = ℕ} 54000 0) c.requires.table_right c.requires.marks (length-replicate {A = ℕ} 54000 0) (zeros_get 54000) c.requires.space c.count_present-records.result c.note_file-listed.new.lasts c.note_file-listed.ensures.1 c.count_present-records.ensures c.merge.new.table c.merge.ensures,
      f.2,
    )
