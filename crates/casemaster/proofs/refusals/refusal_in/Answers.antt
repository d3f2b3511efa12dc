-- `refusals::refusal_in` meets its contract: the refusals are tested in the definition's order. Assumes nothing.
use mathlib.Core.Path.{sym, ◌∙◌}
use borrow.Author.Tests.{eq-eqb, ne_eqb, lt-ltb, le-ltb}
use Rattle.layout.proofs.LimitsLaws.{max_rows_lem}
use Rattle.casemaster.specs.Refusals.{refusal3}
use Rattle.casemaster.specs.Forms.{refusal_in}
use Rattle.casemaster.proofs.refusals.refusal_in.Goals as goal

pub returns-then-master-ne0 : goal.returns-then-master-ne0
unfolding refusal_in refusal3
returns-then-master-ne0 c = rw (ne_eqb _ _ c.if-master-ne0.true)

pub returns-then-master-rows : goal.returns-then-master-rows
unfolding refusal_in refusal3
returns-then-master-rows c = rw (eq-eqb _ _ c.if-master-ne0.false, lt-ltb _ _ c.if-master-rows.true)

pub returns-then-rows-gt-MAX_ROWS : goal.returns-then-rows-gt-MAX_ROWS
unfolding refusal_in refusal3
returns-then-rows-gt-MAX_ROWS c = rw (max_rows_lem, eq-eqb _ _ c.if-master-ne0.false, le-ltb _ _ c.if-master-rows.false, lt-ltb _ _ c.if-rows-gt-MAX_ROWS.true)

pub returns-then-are_sound_rows : goal.returns-then-are_sound_rows
unfolding refusal_in refusal3
returns-then-are_sound_rows c = rw (max_rows_lem, eq-eqb _ _ c.if-master-ne0.false, le-ltb _ _ c.if-master-rows.false, le-ltb _ _ c.if-rows-gt-MAX_ROWS.false, sym c.are_sound_rows.ensures ∙ c.if-are_sound_rows.true)

pub returns-else-are_sound_rows : goal.returns-else-are_sound_rows
unfolding refusal_in refusal3
returns-else-are_sound_rows c = rw (max_rows_lem, eq-eqb _ _ c.if-master-ne0.false, le-ltb _ _ c.if-master-rows.false, le-ltb _ _ c.if-rows-gt-MAX_ROWS.false, sym c.are_sound_rows.ensures ∙ c.if-are_sound_rows.false)
