-- `key::is_sound_behind_in` meets its contract: the SSN and the case type are parts of the key's two numbers. Assumes nothing.
use mathlib.Core.Path.{◌≡◌, sym, ◌∙◌}
use mathlib.Core.Bool.{true, false}
use Rattle.text.specs.Fields.{columns}
use Rattle.layout.specs.Ssn.{wrong_ssn}
use Rattle.layout.proofs.KeyNumberLaws.{parts_of}
use Rattle.layout.proofs.key.is_sound_behind_in.Goals as goal

pub returns-then-wrong_ssn_in : goal.returns-then-wrong_ssn_in
returns-then-wrong_ssn_in c = λ key w b e f.
    let p = parts_of key w b in
    let t : wrong_ssn (columns 3 11 key) ≡ true =
    sym (c.wrong_ssn_in.ensures (columns 3 11 key) p.ssn_wide p.bytes (rw (e, f) p.ssn) (rw f p.last)) ∙ c.if-wrong_ssn_in.true in
    rw t

pub returns : goal.returns
returns c = λ key w b e f.
    let p = parts_of key w b in
    let t : wrong_ssn (columns 3 11 key) ≡ false =
    sym (c.wrong_ssn_in.ensures (columns 3 11 key) p.ssn_wide p.bytes (rw (e, f) p.ssn) (rw f p.last)) ∙ c.if-wrong_ssn_in.false in
    rw (t, ← p.case_type, ← f) c.is_case_type.ensures
