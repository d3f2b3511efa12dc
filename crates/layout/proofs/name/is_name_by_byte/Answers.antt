-- `name::is_name_by_byte` meets its contract: by the first byte that is no letter and no hyphen, if there is one. Assumes nothing.
use mathlib.Core.Path.{◌≡◌, sym, ◌∙◌, ap}
use Prim.Native.Nat.{◌-◌}
use native.Mathlib.Omega.{arith}
use lib.ListN.{length, take, drop, length-drop}
use lib.Seq.{take_all}
use borrow.Author.Rules.{rules}
use borrow.Author.Tests.{tests, eq-eqb}
use Rattle.text.specs.Fields.{is_blank}
use Rattle.std.proofs.lemmas.Iterator.{YieldsList-from_slice}
use Rattle.std.proofs.lemmas.Iterator.Search.{position_from_yields_List}
use Rattle.layout.proofs.NameLaws.{is_other, name_other, name_fails_at, name_whole}
use Rattle.layout.proofs.name.is_name_by_byte.Goals as goal

pub returns-then-i-ne0 : goal.returns-then-i-ne0
returns-then-i-ne0 c =
    let s = c.args.s.now in
    let i = c.in-Some.i in
    let p = sym c.in-Some.is ∙ position_from_yields_List is_other _ _ c.position.result c.position.ensures.ran (YieldsList-from_slice s cc) (λ b r q k. search (rules, tests)) in
    let w : take (length s - i) (drop i s) ≡ drop i s = take_all (length s - i) (drop i s) (omega (arith, length-drop i s)) in
    c.is_blank.ensures ∙ ap is_blank w ∙ sym (name_other s i p c.if-i-ne0.true)

pub returns-else-i-ne0 : goal.returns-else-i-ne0
returns-else-i-ne0 c =
    let s = c.args.s.now in
    let i = c.in-Some.i in
    let p = sym c.in-Some.is ∙ position_from_yields_List is_other _ _ c.position.result c.position.ensures.ran (YieldsList-from_slice s cc) (λ b r q k. search (rules, tests)) in
    rw (eq-eqb i 0 c.if-i-ne0.false) (sym (name_fails_at s i p c.if-i-ne0.false))

pub returns-in-None : goal.returns-in-None
returns-in-None c =
    let s = c.args.s.now in
    let p = sym c.in-None.is ∙ position_from_yields_List is_other _ _ c.position.result c.position.ensures.ran (YieldsList-from_slice s cc) (λ b r q k. search (rules, tests)) in
    rw c.is_empty.ensures (sym (name_whole s p))
