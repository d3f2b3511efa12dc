-- For the contracts of inner functions; no rule of the papers stands here.
-- One key's details: what they are given, and the names that they give among themselves. Assumes nothing.
use Rattle.std.specs.Prelude.{ℕ, ◌-◌, ◌≤◌, ◌<◌, ◌≡◌, List, Bool, get_or}
use Rattle.judging.specs.Setting.{Setting, setting_of}
use Rattle.keyorder.specs.Tagged.{rank_part, flag_gives}
use Rattle.keyorder.specs.Runs.{any_from, SortedFrom}
use Rattle.namemarks.specs.Marks.{names_of, part}

-- the numbers at positions p up to e are those of one rank as they were sorted; gives says whether one of them gives its name
pub record KeyReady (state : List ℕ) (year : ℕ) (list batch numbers : List ℕ) (p e : ℕ) (gives : Bool) : Type 0 where
  pub later : p < e
  pub ready : SortedFrom state year list batch numbers p e
  pub same : (q : ℕ) → p ≤ q → q < e → rank_part (get_or numbers q 0) ≡ rank_part (get_or numbers p 0)
  pub gives_is : gives ≡ any_from flag_gives numbers p (e - p)

-- the setting in which they are judged: the names given are those that they give
abbrev pub run_setting : List ℕ → ℕ → List ℕ → List ℕ → List ℕ → ℕ → ℕ → Setting
run_setting state year list batch numbers p e = setting_of state year list (names_of state batch (part p e numbers))
