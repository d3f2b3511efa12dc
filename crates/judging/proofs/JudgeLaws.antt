-- The codes of a record's errors and warnings rise, so that their number stands for them. Assumes nothing.
use Prim.Native.Nat.{ℕ}
use mathlib.Core.List.{List}
use mathlib.Core.Option.{Option}
use lib.Dec.{lit≤, lit<}
use Rattle.judging.specs.Errors.{error01, error02, error03, error04, error05, error06, error07, error08, error10, error11, error12, error13, error14, error15, error16, error18, if_known, holds09, holds17, errors}
use Rattle.judging.specs.Warnings.{warning51, warning52, warnings}
use Rattle.judging.proofs.CodeSums.{Rises, rising-code, rising-last}
use Rattle.judging.specs.Setting.{Setting}

module _ (setting : Setting) (row : Option (List ℕ)) (rec : List ℕ) where
  pub errors_rise : Rises 0 64 (errors setting row rec)
  unfolding errors
  errors_rise =
      rising-code (error01 setting.state rec) 0 64 1 (lit≤ tt) (lit< tt)
      (rising-code (error02 rec) 2 64 2 (lit≤ tt) (lit< tt)
      (rising-code (error03 rec) 3 64 3 (lit≤ tt) (lit< tt)
      (rising-code (error04 rec) 4 64 4 (lit≤ tt) (lit< tt)
      (rising-code (error05 rec) 5 64 5 (lit≤ tt) (lit< tt)
      (rising-code (if_known rec (error06 rec)) 6 64 6 (lit≤ tt) (lit< tt)
      (rising-code (if_known rec (error07 rec)) 7 64 7 (lit≤ tt) (lit< tt)
      (rising-code (if_known rec (error08 rec)) 8 64 8 (lit≤ tt) (lit< tt)
      (rising-code (holds09 setting row rec) 9 64 9 (lit≤ tt) (lit< tt)
      (rising-code (if_known rec (error10 setting.list rec)) 10 64 10 (lit≤ tt) (lit< tt)
      (rising-code (if_known rec (error11 rec)) 11 64 11 (lit≤ tt) (lit< tt)
      (rising-code (if_known rec (error12 rec)) 12 64 12 (lit≤ tt) (lit< tt)
      (rising-code (if_known rec (error13 setting.year rec)) 13 64 13 (lit≤ tt) (lit< tt)
      (rising-code (if_known rec (error14 rec)) 14 64 14 (lit≤ tt) (lit< tt)
      (rising-code (if_known rec (error15 rec)) 15 64 15 (lit≤ tt) (lit< tt)
      (rising-code (if_known rec (error16 rec)) 16 64 16 (lit≤ tt) (lit< tt)
      (rising-code (holds17 setting row rec) 17 64 17 (lit≤ tt) (lit< tt)
      (rising-last (error18 rec) 18 64 18 (lit≤ tt) (lit< tt))))))))))))))))))

  pub warnings_rise : Rises 0 64 (warnings setting.list row rec)
  unfolding warnings
  warnings_rise = rising-code (warning51 setting.list rec) 0 64 51 (lit≤ tt) (lit< tt) (rising-last (warning52 row rec) 52 64 52 (lit≤ tt) (lit< tt))
