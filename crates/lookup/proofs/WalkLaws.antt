-- Laws of the walk over rows and keys side by side: what has been answered and what is left make the whole. Assumes nothing.
use Prim.Native.Nat.{ℕ, suc, ◌+◌, ◌*◌, ◌≤◌, ◌<◌}
use mathlib.Core.Path.{◌≡◌, refl, sym, ap, ◌∙◌}
use mathlib.Core.List.{List, [], ◌∷◌, ◌++◌, append_assoc, append-nil}
use native.Mathlib.Nat.{zero-add}
use native.Mathlib.Numerals.{add-one}
use native.Mathlib.Omega.{arith}
use lib.ListN.{length, take, drop, set, length-set, drop_of_length-le}
use lib.Seq.{take-take, take-suc-set, drop-set-lt}
use Rattle.std.specs.declared.cmp.Ordering.{Ordering}
use Rattle.std.specs.declared.cmp.Ordering.TheVariants.{Less, Equal, Greater}
use Rattle.text.specs.Blocks.{blocks}
use Rattle.text.specs.ByteOrder.{order_in, order_of}
use Rattle.text.proofs.BlocksLaws.{length-blocks, blocks-next, kept_further}
use Rattle.casemaster.specs.Master.{rows_of}
use Rattle.lookup.specs.Many.{no_place, LookedUp, one_comparison, answered, by_row, walk}
use Rattle.lookup.specs.Steps.{HasWalked}

-- a walk behind what was done before it
abbrev pub behind : List ℕ → ℕ → LookedUp → LookedUp
behind done comparisons w = record { answers = done ++ w.answers; comparisons = comparisons + w.comparisons }

nothing_done : (w : LookedUp) → behind [] 0 w ≡ w
nothing_done w = ap (λ (z : ℕ). record { answers = w.answers; comparisons = z }) (zero-add w.comparisons)

behind_end : (done : List ℕ) (c : ℕ) → behind done c (record { answers = []; comparisons = 0 }) ≡ record { answers = done; comparisons = c }
behind_end done c =
    let e : c + 0 ≡ c = omega arith in
    ap (λ (z : List ℕ). record { answers = z; comparisons = c + 0 }) (append-nil done)
    ∙ ap (λ (z : ℕ). record { answers = done; comparisons = z }) e

behind_answer : (done : List ℕ) (answer c : ℕ) (w : LookedUp) → behind (done ++ answer ∷ []) c w ≡ behind done c (answered answer w)
behind_answer done answer c w =
    ap (λ (z : List ℕ). record { answers = z; comparisons = c + w.comparisons }) (append_assoc done (answer ∷ []) w.answers)

behind_compared : (done : List ℕ) (c : ℕ) (w : LookedUp) → behind done (c + 1) w ≡ behind done c (one_comparison w)
behind_compared done c w =
    let e : c + 1 + w.comparisons ≡ c + suc w.comparisons = omega arith in
    ap (λ (z : ℕ). record { answers = done ++ w.answers; comparisons = z }) e

-- p rows and i keys are passed
pub record Going (m : List ℕ) (n : ℕ) (keys : List ℕ) (k : ℕ) (places₀ places : List ℕ) (comparisons p i : ℕ) : Type 0 where
  pub keys_within : i ≤ k
  pub rows_within : p ≤ n
  pub few : comparisons ≤ p + i
  pub room : length places ≡ length places₀
  pub whole : behind (take i places) comparisons (walk (drop i (blocks 12 k keys)) p (drop p (rows_of n m))) ≡ walk (blocks 12 k keys) 0 (rows_of n m)
  pub rest_kept : drop i places ≡ drop i places₀

module _ (m : List ℕ) (n : ℕ) (keys : List ℕ) (k : ℕ) (places₀ : List ℕ) where
  abbrev rs : List (List ℕ)
  rs = rows_of n m

  abbrev ks : List (List ℕ)
  ks = blocks 12 k keys

  pub going_none : Going m n keys k places₀ places₀ 0 0 0
  going_none =
      record {
        keys_within = omega arith;
        rows_within = omega arith;
        few = omega arith;
        room = refl;
        whole = nothing_done (walk ks 0 rs);
        rest_kept = refl;
      }

  pub going_all : (places : List ℕ) (c p i : ℕ) → Going m n keys k places₀ places c p i → k ≤ i → HasWalked m n keys k places₀ places c
  unfolding walk
  going_all places c p i g l =
      let e : i ≡ k = omega (arith, g.keys_within) in
      let d : drop k ks ≡ [] = drop_of_length-le ks {i = k} (omega (arith, length-blocks 12 k keys)) in
      record {
        walked = sym (behind_end (take k places) c) ∙ (rw (e, d) at g.whole);
        rest_kept = rw e at g.rest_kept;
        same_length = g.room;
      }

  module _ (places : List ℕ) (c p i : ℕ) (g : Going m n keys k places₀ places c p i) (l : i < k) (h : k ≤ length places₀) where
    abbrev key : List ℕ
    key = take 12 (drop (i * 12) keys)

    abbrev left : LookedUp
    left = walk (drop (i + 1) ks) p (drop p rs)

    -- the present key is answered
    going_answer : (answer c' : ℕ) → c' ≤ p + (i + 1)
        → behind (take i places) c' (answered answer left) ≡ behind (take i places) c (walk (drop i ks) p (drop p rs))
        → Going m n keys k places₀ (set places i answer) c' p (i + 1)
    going_answer answer c' f e =
        let r : i < length places = omega (arith, g.room) in
        let t : take (i + 1) (set places i answer) ≡ take i places ++ answer ∷ [] = rw (add-one i) (take-suc-set places i answer r) in
        record {
          keys_within = omega arith;
          rows_within = g.rows_within;
          few = f;
          room = length-set places i answer ∙ g.room;
          whole = ap (λ (z : List ℕ). behind z c' left) t ∙ behind_answer (take i places) answer c' left ∙ e ∙ g.whole;
          rest_kept =
              drop-set-lt (i + 1) places i answer (omega arith) ∙ kept_further places places₀ i (i + 1) (omega arith) g.rest_kept;
        }

    -- no row is left
    at_end : p ≡ n → walk (drop i ks) p (drop p rs) ≡ answered no_place left
    unfolding walk
    at_end e =
        let d : drop p rs ≡ [] = drop_of_length-le rs {i = p} (omega (arith, length-blocks 200 n m)) in
        rw (blocks-next 12 k keys i l, d)

    pub going_end : p ≡ n → Going m n keys k places₀ (set places i no_place) c p (i + 1)
    going_end e = going_answer no_place c (omega (arith, g.few)) (ap (behind (take i places) c) (sym (at_end e)))

    module _ (b : p < n) (o : Ordering) (t : order_in o ≡ order_of (take 12 (drop (p * 200) m)) key) where
      -- the present key beside the present row
      at_row : walk (drop i ks) p (drop p rs)
          ≡ one_comparison (by_row (order_in o) (walk (drop i ks) (suc p) (drop (p + 1) rs)) (answered p left) (answered no_place left))
      unfolding walk
      at_row = rw (t, ← take-take 12 200 (drop (p * 200) m) (omega arith), blocks-next 12 k keys i l, blocks-next 200 n m p b)

      told : (x : Ordering) → o ≡ x → walk (drop i ks) p (drop p rs)
          ≡ one_comparison (by_row (order_in x) (walk (drop i ks) (suc p) (drop (p + 1) rs)) (answered p left) (answered no_place left))
      told x e =
          at_row
          ∙ ap (λ (z : Ordering). one_comparison (by_row (order_in z) (walk (drop i ks) (suc p) (drop (p + 1) rs)) (answered p left) (answered no_place left))) e

      -- a smaller row is passed
      pub going_less : o ≡ Less → Going m n keys k places₀ places (c + 1) (p + 1) i
      going_less e =
          record {
            keys_within = g.keys_within;
            rows_within = omega arith;
            few = omega (arith, g.few);
            room = g.room;
            whole =
                rw (add-one p)
                (behind_compared (take i places) c (walk (drop i ks) (suc p) (drop (suc p) rs))
                ∙ ap (behind (take i places) c) (sym (rw (add-one p) at (told Less e)))
                ∙ g.whole);
            rest_kept = g.rest_kept;
          }

      answer_told : (answer : ℕ) → walk (drop i ks) p (drop p rs) ≡ one_comparison (answered answer left)
          → Going m n keys k places₀ (set places i answer) (c + 1) p (i + 1)
      answer_told answer e =
          going_answer answer (c + 1) (omega (arith, g.few))
          (behind_compared (take i places) c (answered answer left) ∙ ap (behind (take i places) c) (sym e))

      -- an equal one gives its place
      pub going_equal : o ≡ Equal → Going m n keys k places₀ (set places i p) (c + 1) p (i + 1)
      going_equal e = answer_told p (told Equal e)

      -- a larger one gives none
      pub going_greater : o ≡ Greater → Going m n keys k places₀ (set places i no_place) (c + 1) p (i + 1)
      going_greater e = answer_told no_place (told Greater e)
