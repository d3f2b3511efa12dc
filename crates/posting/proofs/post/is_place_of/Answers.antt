-- `post::is_place_of`: keys rise, so the row that has the key is at the key's place. Assumes nothing.
use mathlib.Core.Path.{◌≡◌, sym, ◌∙◌}
use Prim.Native.Nat.{ℕ}
use native.Mathlib.Omega.{arith}
use Rattle.posting.proofs.HintLaws.{place_near}
use Rattle.posting.proofs.post.is_place_of.Goals as goal

pub returns-then-n-p : goal.returns-then-n-p
returns-then-n-p c = λ t. absurd (let z : ◌≡◌ {A = ℕ} 0 1 = cc in omega arith)

pub returns : goal.returns
returns c = λ t.
    let a = c.args in
    rw c.line_key-key.ensures at (place_near a.n a.m.now c.line_key-key.result a.p c.requires.1 (omega (arith, c.if-n-p.false)) (sym c.same.ensures ∙ t))
