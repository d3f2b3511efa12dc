-- `outcome::outcome_of`: what isn't refused is handed on as the files' bytes, and a master.bin that passes fits the 200 rows. Assumes nothing.
use mathlib.Core.Path.{◌≡◌, refl, sym, ◌∙◌}
use native.Mathlib.Omega.{arith}
use lib.ListN.{length}
use borrow.Author.Rules.{rules}
use Rattle.std.proofs.lemmas.Result.{err_from_is_err_and}
use Rattle.apply_files.specs.Run.{run_outcome}
use Rattle.apply_files.proofs.RunLaws.{in_space}
use Rattle.apply_files.proofs.outcome.outcome_of.Goals as goal

pub returns-then-are_refused : goal.returns-then-are_refused
unfolding run_outcome
returns-then-are_refused c = rw (sym c.are_refused.ensures ∙ c.if-are_refused.true) (record { outcome = refl; named = refl })

pub with_year_text-requires : goal.with_year_text-requires
with_year_text-requires c =
    let a = c.args in
    let n : length a.master.now ≡ 40001 = search rules in
    (omega (arith, c.length_of-4.ensures, in_space a.m a.b a.l a.y (sym c.are_refused.ensures ∙ c.if-are_refused.false)), omega arith)

pub returns-in_err-with_year_text : goal.returns-in_err-with_year_text
unfolding run_outcome
returns-in_err-with_year_text c =
    let p = err_from_is_err_and c.from_residual.result c.from_residual.ensures.1 in
    rw (
      p.1,
      p.2,
      sym c.are_refused.ensures ∙ c.if-are_refused.false,
      ← c.length_of.ensures,
      ← c.first-batch_bytes.ensures,
      ← c.length_of-2.ensures,
      ← c.first-locals_bytes.ensures,
      ← c.length_of-3.ensures,
      ← c.first-year_bytes.ensures,
      ← c.length_of-4.ensures,
    )
    (record { outcome = c.in_err-with_year_text.ensures; named = refl })

pub returns : goal.returns
unfolding run_outcome
returns c =
    rw (
      sym c.are_refused.ensures ∙ c.if-are_refused.false,
      ← c.length_of.ensures,
      ← c.first-batch_bytes.ensures,
      ← c.length_of-2.ensures,
      ← c.first-locals_bytes.ensures,
      ← c.length_of-3.ensures,
      ← c.first-year_bytes.ensures,
      ← c.length_of-4.ensures,
    )
    (record { outcome = c.in_ok-with_year_text.ensures; named = refl })
