-- `holds_text`: the text is compared with each part as long; one of no bytes is contained wherever there is a place. Assumes nothing.
use Rattle.std.proofs.Common.{◌≡◌, eqb, false, not, ap, length, sym, ◌∙◌, ◌<◌, rules, arith, tests}
use borrow.Author.Tests.{eqb-true}
use Rattle.std.proofs.lemmas.Bool.Decides.{nat_tests}
use Rattle.std.proofs.lemmas.Iterator.Search.{any_from_yields_List}
use Rattle.text.specs.Fields.{same_bytes}
use Rattle.contactrecord.proofs.WordingLaws.{contains_any, contains_none, windows_yielded}
use Rattle.contactrecord.proofs.wording.holds_text.Goals as goal

pub returns-then-is_empty : goal.returns-then-is_empty
returns-then-is_empty c =
    let text = c.args.text.now in
    let none : length text ≡ 0 = eqb-true (length text) 0 (sym c.is_empty.ensures ∙ c.if-is_empty.true) in
    ap not c.is_empty-then-is_empty.ensures ∙ sym (contains_none text c.args.s.now none)

pub returns : goal.returns
returns c =
    let s = c.args.s.now in
    let text = c.args.text.now in
    let e : eqb (length text) 0 ≡ false = sym c.is_empty.ensures ∙ c.if-is_empty.false in
    let some : 0 < length text = grind (arith, nat_tests) in
    any_from_yields_List (λ w. same_bytes w text) _ _ _ c.any.ensures.ran
    (windows_yielded c.windows.result (length text) s some c.windows.ensures.size c.windows.ensures.rest) (λ x b q k. search (rules, tests))
    ∙ contains_any text s some
