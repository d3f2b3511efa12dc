-- Document 02, item 3: what the machine reads beside the record, for every key of a batch. Assumes nothing.
use Rattle.std.specs.Prelude.{ℕ, List}
use Rattle.judging.specs.Setting.{Setting, setting_of}
use Rattle.judging.specs.Names.{names_given}
use Rattle.turns.specs.Under.{details_under}

-- the control record's state, the year and the list, the same for each key, and the names given under each
pub record Settings : Type 0 where
  pub state : List ℕ
  pub year : ℕ
  pub list : List ℕ
  pub names : List ℕ → List (List ℕ)

-- the setting under a key
abbrev pub setting_under : Settings → List ℕ → Setting
setting_under settings key = setting_of settings.state settings.year settings.list (settings.names key)

-- the settings of a batch: the names given under a key are those that its own details give, wherever they stand
abbrev pub settings_of : List ℕ → ℕ → List ℕ → List (List ℕ) → Settings
settings_of state year list details =
    record {
      state = state;
      year = year;
      list = list;
      names = λ key. names_given state (details_under key details);
    }
