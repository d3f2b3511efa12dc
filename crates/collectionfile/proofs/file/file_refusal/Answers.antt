-- `file::file_refusal` meets its contract: the refusals are tested in the definition's order. Assumes nothing.
use mathlib.Core.Path.{sym, ◌∙◌}
use borrow.Author.Tests.{eq-eqb, ne_eqb, lt-ltb, le-ltb, not-true, not-false}
use Rattle.layout.proofs.LimitsLaws.{max_records}
use Rattle.collectionfile.specs.File.{file_refusal, refusal22, refusal24, line_count}
use Rattle.collectionfile.proofs.FileLaws.{refusal_23}
use Rattle.collectionfile.proofs.file.file_refusal.Goals as goal

pub returns-then-file-eq0 : goal.returns-then-file-eq0
unfolding file_refusal refusal22
returns-then-file-eq0 c = rw (eq-eqb _ _ c.if-file-eq0.true)

pub returns-then-file-ne0 : goal.returns-then-file-ne0
unfolding file_refusal refusal22
returns-then-file-ne0 c = rw (ne_eqb _ _ c.if-file-eq0.false, ne_eqb _ _ c.if-file-ne0.true)

pub returns-then-file-gt-MAX_RECORDS : goal.returns-then-file-gt-MAX_RECORDS
unfolding file_refusal refusal22
returns-then-file-gt-MAX_RECORDS c = rw (max_records, ne_eqb _ _ c.if-file-eq0.false, eq-eqb _ _ c.if-file-ne0.false, lt-ltb _ _ c.if-file-gt-MAX_RECORDS.true)

pub returns-then-not-is_last_right : goal.returns-then-not-is_last_right
unfolding file_refusal refusal22
returns-then-not-is_last_right c =
    rw (
      max_records,
      ne_eqb _ _ c.if-file-eq0.false,
      eq-eqb _ _ c.if-file-ne0.false,
      le-ltb _ _ c.if-file-gt-MAX_RECORDS.false,
      refusal_23 c.args.file.now,
      sym c.is_last_right.ensures ∙ not-true _ c.if-not-is_last_right.true-raw,
    )

pub returns-then-room-count : goal.returns-then-room-count
unfolding file_refusal refusal22 refusal24 line_count
returns-then-room-count c =
    rw (
      max_records,
      ne_eqb _ _ c.if-file-eq0.false,
      eq-eqb _ _ c.if-file-ne0.false,
      le-ltb _ _ c.if-file-gt-MAX_RECORDS.false,
      refusal_23 c.args.file.now,
      sym c.is_last_right.ensures ∙ not-false _ c.if-not-is_last_right.false-raw,
      lt-ltb _ _ c.if-room-count.true,
    )

pub returns : goal.returns
unfolding file_refusal refusal22 refusal24 line_count
returns c =
    rw (
      max_records,
      ne_eqb _ _ c.if-file-eq0.false,
      eq-eqb _ _ c.if-file-ne0.false,
      le-ltb _ _ c.if-file-gt-MAX_RECORDS.false,
      refusal_23 c.args.file.now,
      sym c.is_last_right.ensures ∙ not-false _ c.if-not-is_last_right.false-raw,
      le-ltb _ _ c.if-room-count.false,
    )
