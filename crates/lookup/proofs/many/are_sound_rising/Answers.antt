use mathlib.Core.Path.{◌≡◌, refl, sym, ◌∙◌}
use mathlib.Core.Bool.{and-false}
use Prim.Native.Nat.{◌+◌, ◌*◌}
use native.Mathlib.Omega.{arith}
use Rattle.text.specs.Fields.{every}
use Rattle.text.specs.Blocks.{blocks}
use Rattle.text.specs.ByteOrder.{order_of, is_less}
use Rattle.text.proofs.ByteNumberLaws.{bytes_of}
use Rattle.layout.specs.Key.{is_sound_key}
use Rattle.layout.proofs.StatesLaws.{first_code}
use Rattle.lookup.proofs.KeysLaws.{AreNumbers, numbers_at, known_state, key_in_list, no_keys, key_fails, key_passes, last-passes, order_fails, order_passes}
use Rattle.lookup.proofs.many.are_sound_rising.Goals as goal
use Rattle.lookup.proofs.many.are_sound_rising.Goals.{After-is_sound_key_in, After-is_twelve_below_in}

-- what is said of the soundness of the key at i
sound : (c : After-is_sound_key_in)
    → c.is_sound_key_in.result ≡ is_sound_key (key_in_list c.args.keys.now c.loop-i.i)
sound c =
    let n = c.loop-i.invariant.3 in
    c.is_sound_key_in.ensures (key_in_list c.args.keys.now c.loop-i.i) n.wide n.bytes n.front_is n.back_is

-- the numbers of the next key
next : (c : After-is_twelve_below_in)
    → AreNumbers c.eight_number-next_front.result c.four_number-next_back.result (key_in_list c.args.keys.now (c.loop-i.i + 1))
next c =
    let s = c.args.keys.now in
    let b = bytes_of s (λ i h. omega (arith, c.type_inv.keys i)) in
    numbers_at s ((c.loop-i.i + 1) * 12) _ _ (omega arith) b c.eight_number-next_front.ensures c.four_number-next_back.ensures.0

-- what the comparison of the two keys says
below : (c : After-is_twelve_below_in)
    → c.is_twelve_below_in.result
    ≡ is_less (order_of (key_in_list c.args.keys.now c.loop-i.i) (key_in_list c.args.keys.now (c.loop-i.i + 1)))
below c =
    let s = c.args.keys.now in
    let i = c.loop-i.i in
    let n = c.loop-i.invariant.3 in
    let o = next c in
    c.is_twelve_below_in.ensures (key_in_list s i) (key_in_list s (i + 1)) n.wide o.wide n.bytes o.bytes n.front_is n.back_is
    o.front_is o.back_is

pub returns-then-n-lt1 : goal.returns-then-n-lt1
returns-then-n-lt1 c = let a = c.args in sym (no_keys a.n a.keys.now (omega arith))

pub loop-i-init : goal.loop-i-init
loop-i-init c =
    let s = c.args.keys.now in
    let b = bytes_of s (λ i h. omega (arith, c.type_inv.keys i)) in (
      omega arith,
      first_code,
      c.four_number-back.ensures.1,
      numbers_at s 0 _ _ (omega arith) b c.eight_number-front.ensures c.four_number-back.ensures.0,
      refl,
      refl,
    )

pub is_sound_key_in-requires : goal.is_sound_key_in-requires
is_sound_key_in-requires c = (c.loop-i.invariant.1, c.loop-i.invariant.2)

pub returns-then-not-is_sound_key_in : goal.returns-then-not-is_sound_key_in
returns-then-not-is_sound_key_in c =
    let l = c.loop-i in
    let a = c.args in
    let t = sym (sound (goal.at.returns-then-not-is_sound_key_in c).After-is_sound_key_in) ∙ c.if-not-is_sound_key_in.true in
    sym (rw (← l.invariant.4, key_fails a.n a.keys.now l.i l.invariant.0 t))

pub returns-then-i-n : goal.returns-then-i-n
returns-then-i-n c =
    let l = c.loop-i in
    let a = c.args in
    let t = sym (sound (goal.at.returns-then-i-n c).After-is_sound_key_in) ∙ c.if-not-is_sound_key_in.false in
    sym (rw (← l.invariant.4, ← l.invariant.5) (last-passes a.n a.keys.now l.i l.invariant.0 t c.if-i-n.true))

pub returns-then-not-is_twelve_below_in : goal.returns-then-not-is_twelve_below_in
returns-then-not-is_twelve_below_in c =
    let l = c.loop-i in
    let a = c.args in
    let b = c.is_twelve_below_in in
    let o = order_fails a.n a.keys.now l.i (omega arith) b.result (below (goal.at.returns-then-not-is_twelve_below_in c).After-is_twelve_below_in) c.if-not-is_twelve_below_in.true in
    sym (rw (← l.invariant.5, o) (and-false (every is_sound_key (blocks 12 a.n a.keys.now))))

pub loop-i-preserved : goal.loop-i-preserved
loop-i-preserved c =
    let l = c.loop-i in
    let a = c.args in
    let s = a.keys.now in
    let b = c.is_twelve_below_in in
    let t = sym (sound (goal.at.loop-i-preserved c).After-is_sound_key_in) ∙ c.if-not-is_sound_key_in.false in (
      omega arith,
      known_state l.front l.back _ (key_in_list s l.i) l.invariant.3 t c.state_in-known.ensures,
      c.four_number-next_back.ensures.1,
      next (goal.at.loop-i-preserved c).After-is_twelve_below_in,
      key_passes a.n s l.i l.invariant.0 t ∙ l.invariant.4,
      order_passes a.n s l.i (omega arith) b.result (below (goal.at.loop-i-preserved c).After-is_twelve_below_in) c.if-not-is_twelve_below_in.false ∙ l.invariant.5,
    )
