use mathlib.Core.Path.{◌≡◌, refl, sym, ap, ◌∙◌}
use mathlib.Core.Bool.{and-false}
use mathlib.Core.List.{List, []}
use Prim.Native.Nat.{ℕ, ◌+◌, ◌*◌, ◌≤◌, ◌<◌}
use native.Mathlib.Omega.{arith}
use lib.ListN.{drop, get_or, length, take, length-take, length-drop}
use Rattle.std.proofs.lemmas.List.{get_or-take}
use Rattle.text.specs.Fields.{every}
use Rattle.text.specs.ByteNumbers.{bytes_number}
use Rattle.text.proofs.ByteNumberLaws.{bytes_of, bytes_take, bytes_drop}
use Rattle.text.proofs.BlocksLaws.{every_block_end}
use Rattle.text.proofs.ByteOrderLaws.{pass_end}
use Rattle.layout.proofs.StatesLaws.{first_code}
use Rattle.casemaster.specs.Master.{rows_of, keys_of, row_in}
use Rattle.casemaster.specs.Forms.{is_sound_in, are_sound_in}
use Rattle.casemaster.proofs.PassLaws.{chunk_at, cut_front, cut_back, IsBelowNext, row_fails, row-passes, last-passes, order_fails, order_passes, row_state_lem}
use Rattle.casemaster.proofs.master.are_sound_rows.Goals as goal
use Rattle.casemaster.proofs.master.are_sound_rows.Goals.{After-as_chunks, After-is_sound_row_in, After-is_twelve_below_in}

-- the array at a place is the row
array : (c : After-as_chunks) (p : ℕ) → p < c.args.n → get_or c.as_chunks.result.0.now p [] ≡ row_in c.args.m.now p
array c p h =
    ap (λ (z : List (List ℕ)). get_or z p []) c.as_chunks.ensures.front ∙ chunk_at c.args.m.now p [] (omega (arith, c.requires))

-- the row at i
here : (c : After-as_chunks) (i : ℕ) → i < c.args.n → get_or (take c.args.n c.as_chunks.result.0.now) i [] ≡ row_in c.args.m.now i
here c i h = get_or-take c.args.n c.as_chunks.result.0.now i [] h ∙ array c i h

row_length : (m : List ℕ) (i : ℕ) → i * 200 + 200 ≤ length m → length (row_in m i) ≡ 200
row_length m i h = simp (length-take, length-drop) (omega arith)

pub returns-then-n-lt1 : goal.returns-then-n-lt1
unfolding are_sound_in keys_of
returns-then-n-lt1 c =
    let a = c.args in
    let m = a.m.now in
    sym (rw (every_block_end 200 (is_sound_in a.form) a.n m 0 (omega arith)) (pass_end 12 200 a.n m 0 (omega arith)))

pub loop-i-init : goal.loop-i-init
loop-i-init c =
    let f = array (goal.at.loop-i-init c).After-as_chunks 0 (omega arith) in (
      omega arith,
      first_code,
      c.four_number-back.ensures.1,
      c.eight_number-front.ensures ∙ ap (λ (r : List ℕ). bytes_number (take 8 r)) f,
      c.four_number-back.ensures.0 ∙ ap (λ (r : List ℕ). bytes_number (take 4 (drop 8 r))) f,
      refl,
      refl,
    )

pub is_sound_row_in-requires-clause-front_value : goal.is_sound_row_in-requires-clause-front_value
is_sound_row_in-requires-clause-front_value c =
    let l = c.loop-i in
    let e = sym (here (goal.at.is_sound_row_in-requires-clause-front_value c).After-as_chunks l.i l.invariant.0) in (
      l.invariant.3 ∙ ap (λ (r : List ℕ). bytes_number (take 8 r)) e,
      l.invariant.4 ∙ ap (λ (r : List ℕ). bytes_number (take 4 (drop 8 r))) e,
    )

pub returns-then-not-is_sound_row_in : goal.returns-then-not-is_sound_row_in
unfolding are_sound_in
returns-then-not-is_sound_row_in c =
    let l = c.loop-i in
    let a = c.args in
    let e = here (goal.at.returns-then-not-is_sound_row_in c).After-as_chunks l.i l.invariant.0 in
    let t = sym (c.if-not-is_sound_row_in.ensures ∙ ap (is_sound_in a.form) e) in
    sym (rw (← l.invariant.5, row_fails (is_sound_in a.form) a.n a.m.now l.i l.invariant.0 t))

pub returns-then-i-n : goal.returns-then-i-n
unfolding are_sound_in
returns-then-i-n c =
    let l = c.loop-i in
    let a = c.args in
    let e = here (goal.at.returns-then-i-n c).After-as_chunks l.i l.invariant.0 in
    let t = sym (c.if-not-is_sound_row_in.ensures ∙ ap (is_sound_in a.form) e) in
    sym
    (rw (← l.invariant.5, ← l.invariant.6) (last-passes (is_sound_in a.form) a.n a.m.now l.i l.invariant.0 t c.if-i-n.true))

-- what the comparison of the two keys says
below : (c : After-is_twelve_below_in) → get_or c.as_chunks.result.0.now (c.loop-i.i + 1) [] ≡ row_in c.args.m.now (c.loop-i.i + 1)
    → IsBelowNext c.loop-i.i c.args.m.now c.is_twelve_below_in.result
below c e =
    let l = c.loop-i in
    let m = c.args.m.now in
    let k = l.i * 200 in
    let p = bytes_of m (λ i h. omega (arith, c.type_inv.m i)) in
    let z : (l.i + 1) * 200 ≡ k + 200 = omega arith in
    let n = rw z at e in
    c.is_twelve_below_in.ensures (take 12 (drop k m)) (take 12 (drop (k + 200) m)) (simp (length-take, length-drop) (omega arith))
    (simp (length-take, length-drop) (omega arith)) (bytes_take 12 (drop k m) (bytes_drop k m p))
    (bytes_take 12 (drop (k + 200) m) (bytes_drop (k + 200) m p)) (l.invariant.3 ∙ ap bytes_number (cut_front k m))
    (l.invariant.4 ∙ ap bytes_number (cut_back k m))
    (c.eight_number-next_front.ensures ∙ ap (λ (r : List ℕ). bytes_number (take 8 r)) n ∙ ap bytes_number (cut_front (k + 200) m))
    (c.four_number-next_back.ensures.0 ∙ ap (λ (r : List ℕ). bytes_number (take 4 (drop 8 r))) n ∙ ap bytes_number (cut_back (k + 200) m))

pub returns-then-not-is_twelve_below_in : goal.returns-then-not-is_twelve_below_in
unfolding are_sound_in
returns-then-not-is_twelve_below_in c =
    let l = c.loop-i in
    let a = c.args in
    let b = c.is_twelve_below_in in
    let h : l.i + 1 < a.n = omega arith in
    let w = goal.at.returns-then-not-is_twelve_below_in c in
    let e = array w.After-as_chunks (l.i + 1) h in
    let o = order_fails a.n a.m.now l.i h b.result (below w.After-is_twelve_below_in e) c.if-not-is_twelve_below_in.true in
    sym (rw (← l.invariant.6, o) (and-false (every (is_sound_in a.form) (rows_of a.n a.m.now))))

pub loop-i-preserved : goal.loop-i-preserved
loop-i-preserved c =
    let l = c.loop-i in
    let a = c.args in
    let m = a.m.now in
    let b = c.is_twelve_below_in in
    let w = goal.at.loop-i-preserved c in
    let h : l.i + 1 < a.n = omega arith in
    let t = sym (c.if-not-is_sound_row_in.ensures ∙ ap (is_sound_in a.form) (here w.After-as_chunks l.i l.invariant.0)) in
    let n = array w.After-as_chunks (l.i + 1) h in
    let p = bytes_take 200 (drop (l.i * 200) m) (bytes_drop (l.i * 200) m (bytes_of m (λ i h. omega (arith, c.type_inv.m i)))) in (
      h,
      rw (c.state_in-known.ensures, l.invariant.3) (row_state_lem a.form (row_in m l.i) (row_length m l.i (omega arith)) p t),
      c.four_number-next_back.ensures.1,
      c.eight_number-next_front.ensures ∙ ap (λ (r : List ℕ). bytes_number (take 8 r)) n,
      c.four_number-next_back.ensures.0 ∙ ap (λ (r : List ℕ). bytes_number (take 4 (drop 8 r))) n,
      row-passes (is_sound_in a.form) a.n m l.i l.invariant.0 t ∙ l.invariant.5,
      order_passes a.n m l.i h b.result (below w.After-is_twelve_below_in n) c.if-not-is_twelve_below_in.false ∙ l.invariant.6,
    )
