-- `records::key_at` meets its contract: the slice handed on is the record of 245 bytes. Assumes nothing.
use mathlib.Core.Path.{◌≡◌, ap, ◌∙◌}
use Prim.Native.Nat.{ℕ, ◌+◌, ◌-◌, ◌*◌}
use native.Mathlib.Omega.{arith}
use lib.ListN.{take, drop}
use Rattle.layout.specs.Record.{record_key}
use Rattle.layout.proofs.records.key_at.Goals as goal

pub returns : goal.returns
returns c =
    let a = c.args in
    let w : a.i * 245 + 245 - a.i * 245 ≡ 245 = omega arith in
    c.record_key.ensures ∙ ap (λ (z : ℕ). record_key (take z (drop (a.i * 245) a.batch.now))) w
