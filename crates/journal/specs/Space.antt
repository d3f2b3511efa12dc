-- Document 02, items 8 and 14: the bytes that a journal's buffer must have. Assumes nothing.
use Rattle.std.specs.Prelude.{ℕ, ◌+◌, ◌*◌}

-- 12 + 205 × (details), item 14's number in place of item 8's 204
abbrev pub journal_space : ℕ → ℕ
journal_space details = 12 + 205 * details
