-- For the contracts of inner functions; no rule of the papers stands here.
-- What the code writes of a journal, key by key. Assumes nothing.
use Rattle.std.specs.Prelude.{ℕ, ◌+◌, ◌≡◌, Bool, cond, List, [], length}
use Rattle.std.proofs.Math.Option.{Option, none, some}
use Rattle.text.specs.Blocks.{spliced}
use Rattle.journal.specs.Journal.{Entry, entry_of, entries_bytes}

-- bytes written over others from an index on, and the index behind them
pub record Wrote (before : List ℕ) (at : ℕ) (bytes after : List ℕ) (next : ℕ) : Type 0 where
  pub next_is : next ≡ at + length bytes
  pub bytes_are : after ≡ spliced before at bytes

-- the entry of a key whose row at the end, if it has one then, stands at a place
abbrev pub key_entries : ℕ → Option (List ℕ) → Option (List ℕ) → List Entry
key_entries place old none = []
key_entries place old (some row) = entry_of place old row

-- its bytes, where a journal is wanted
abbrev pub key_bytes : Bool → ℕ → Option (List ℕ) → Option (List ℕ) → List ℕ
key_bytes wanted place old new = cond wanted (entries_bytes (key_entries place old new)) []
