-- `is_extension`: from the first byte on that is no digit all must be spaces; without one no byte is left. Assumes nothing.
use Rattle.std.proofs.Common.{◌≡◌, ℕ, ◌-◌, ◌≤◌, cond, not, ltb, Some, None, List, [], length, take, drop, sym, ap, ◌∙◌, rules, arith, tests}
use lib.ListN.{drop_of_length-le, length-drop}
use lib.Seq.{take_all}
use Rattle.std.specs.List.{position_or_len}
use Rattle.std.proofs.lemmas.Bool.Decides.{nat_tests}
use Rattle.std.proofs.lemmas.Option.{cond_some}
use Rattle.std.proofs.lemmas.Iterator.{YieldsList-from_slice}
use Rattle.std.proofs.lemmas.Iterator.Search.{position_from_yields_List}
use Rattle.text.specs.Characters.{is_digit}
use Rattle.text.specs.Fields.{is_blank}
use Rattle.contactrecord.proofs.WordingLaws.{extension_is}
use Rattle.contactrecord.proofs.contact.is_extension.Goals as goal

abbrev place : List ℕ → ℕ
place s = position_or_len (λ b. not (is_digit b)) s

none_left : (i : ℕ) (s : List ℕ) → cond (ltb i (length s)) (Some i) None ≡ None → drop i s ≡ []
none_left i s e = let l : length s ≤ i = grind (arith, nat_tests) in drop_of_length-le s l

pub returns-in-Some : goal.returns-in-Some
returns-in-Some c =
    let s = c.args.s.now in
    let i = c.in-Some.digits in
    let p = position_from_yields_List (λ b. not (is_digit b)) _ _ c.position.result c.position.ensures.ran (YieldsList-from_slice s cc) (λ x b q k. search (rules, tests)) in
    let e : place s ≡ i = (cond_some (ltb (place s) (length s)) (place s) i (sym p ∙ c.in-Some.is)).1 in
    let w : take (length s - i) (drop i s) ≡ drop i s = take_all (length s - i) (drop i s) (omega (arith, length-drop i s)) in
    c.is_blank.ensures ∙ ap is_blank w ∙ ap (λ (n : ℕ). is_blank (drop n s)) (sym e) ∙ sym (extension_is s)

pub returns-in-None : goal.returns-in-None
unfolding is_blank
returns-in-None c =
    let s = c.args.s.now in
    let p = position_from_yields_List (λ b. not (is_digit b)) _ _ c.position.result c.position.ensures.ran (YieldsList-from_slice s cc) (λ x b q k. search (rules, tests)) in
    sym (extension_is s ∙ ap is_blank (none_left (place s) s (sym p ∙ c.in-None.is)))
