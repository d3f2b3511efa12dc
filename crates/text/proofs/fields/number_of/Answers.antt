use mathlib.Core.Path.{◌≡◌, refl, sym, ◌∙◌}
use Prim.Native.Nat.{◌+◌, ◌-◌, ◌*◌, ◌^◌, ◌≤◌, ◌<◌}
use native.Mathlib.Omega.{arith}
use lib.ListN.{length, get_or}
use lib.Dec.{lit<}
use Rattle.text.specs.Characters.{is_digit}
use Rattle.text.specs.Fields.{all_digits, number}
use Rattle.text.proofs.FieldsLaws.{every_head, every_tail}
use Rattle.text.proofs.NumberLaws.{digit_bounds, digit_more, digits_fit, number_step, number_end}
use Rattle.text.proofs.fields.number_of.Goals as goal
use Rattle.text.proofs.fields.number_of.Goals.{In-loop-b}

-- the byte read in a turn is a digit
digit : (c : In-loop-b) → let b = get_or c.args.s.now c.loop-b.b-index 0 in (0xF0 ≤ b) × (b ≤ 0xF9)
digit c =
    let l = c.loop-b in
    digit_bounds _ (every_head is_digit c.args.s.now l.b-index c.loop-b-test.true l.invariant.digits)

-- and there is room for it
room : (c : In-loop-b) → c.loop-b.n * 10 + 9 < 10 ^ 18
room c = digits_fit c.loop-b.n c.loop-b.b-index c.loop-b.invariant.below (omega arith)

pub loop-b-init : goal.loop-b-init
unfolding all_digits
loop-b-init c = record { below = lit< tt; digits = c.requires.1; onto = refl }

pub overflow_sub-d : goal.overflow_sub-d
overflow_sub-d c = omega (arith, digit (goal.at.overflow_sub-d c).In-loop-b)

pub overflow_mul-n : goal.overflow_mul-n
overflow_mul-n c = omega (arith, room (goal.at.overflow_mul-n c).In-loop-b)

pub overflow_add-n : goal.overflow_add-n
overflow_add-n c = let w = (goal.at.overflow_add-n c).In-loop-b in omega (arith, room w, digit w)

pub loop-b-preserved : goal.loop-b-preserved
loop-b-preserved c =
    let s = c.args.s.now in
    let l = c.loop-b in
    let i = l.b-index in
    let t = c.loop-b-test.true in
    let d : get_or s i 0 - 0xF0 ≤ 9 = omega (arith, digit (goal.at.loop-b-preserved c).In-loop-b) in
    record {
      below = digit_more l.n (get_or s i 0 - 0xF0) i l.invariant.below d;
      digits = every_tail is_digit s i t l.invariant.digits;
      onto = l.invariant.onto ∙ number_step l.n s i t;
    }

pub returns : goal.returns
unfolding number
returns c =
    let s = c.args.s.now in
    let l = c.loop-b in
    let w : l.b-index ≡ length s = omega arith in
    (sym (l.invariant.onto ∙ number_end l.n s l.b-index (omega arith)), rw w at l.invariant.below)
