-- Laws of a detail's number: its parts are read again, its order is that of rank and index, and what it says of the machine. Assumes nothing.
use Prim.Native.Nat.{ℕ, ◌+◌, ◌-◌, ◌*◌, ◌/◌, ◌%◌, ◌^◌, ◌≤◌, ◌<◌}
use mathlib.Core.Path.{◌≡◌, refl, sym, ap, ◌∙◌}
use mathlib.Core.Bool.{Bool, true, false, not, cond, ◌&&◌, and-false, not-not}
use mathlib.Core.List.{List, ◌++◌}
use mathlib.Core.Logic.{◌⊎◌, inl, inr}
use mathlib.Core.Option.{none}
use native.Mathlib.Omega.{arith}
use native.Mathlib.Nat.{not-suc-le-zero}
use borrow.Author.Tests.{ltb-true, ltb-false, eqb-true}
use lib.Dec.{eqb, ltb}
use lib.ListN.{length, take, drop, get_or, set, length-append, length-drop, length-map, get_or-map}
use lib.Seq.{get_or-take, length-take-le, take_at, drop_at}
use Rattle.sorting.specs.Sorting.{sorted}
use Rattle.sorting.proofs.SortingLaws.{Different, length-sorted}
use Rattle.text.specs.Options.{is_some}
use Rattle.text.specs.Characters.{A, B, C, D, L, M, R, S, letter_t, Z}
use Rattle.layout.specs.Codes.{number_of_codes}
use Rattle.layout.specs.Record.{record_key, type_of}
use Rattle.judging.specs.Front.{front_errors}
use Rattle.judging.specs.Warnings.{warning51}
use Rattle.judging.specs.Setting.{setting_of}
use Rattle.judging.proofs.FrontLaws.{gives_front}
use Rattle.onecase.specs.Machine.{next}
use Rattle.onecase.proofs.KnownLaws.{front_makes}
use Rattle.keyorder.specs.Tagged.{rank_part, index_part, makes_from, kind_of, IsTag, Tagged, TaggedAll, index_parts, TaggedOrder, Known}
use Rattle.keyorder.specs.Order.{rank_of, rank_at, detail_at, Before}
use Rattle.keyorder.proofs.OrderLaws.{Arranged, sorted_arranged}
use Rattle.keyorder.proofs.NumbersLaws.{kept_next, each_next}

-- ---- the parts

bit_eq : (b : Bool) (x : ℕ) → x ≡ cond b 1 0 → eqb x 1 ≡ b
bit_eq true x e = rw e
bit_eq false x e = rw e

pub tag_parts : (rank i kind g l w : ℕ) (gives local wrong : Bool) → rank ≤ 2 ^ 31 → i < 2 ^ 24 → kind < 16 → g ≤ 1 → l ≤ 1 → w ≤ 1
    → g ≡ cond gives 1 0 → l ≡ cond local 1 0 → w ≡ cond wrong 1 0
    → IsTag rank i kind gives local wrong (rank * 2 ^ 32 + (i * 2 ^ 8 + (kind * 16 + (g * 8 + (l * 4 + w * 2)))))
tag_parts rank i kind g l w gives local wrong hr hi hk hg hl hw eg el ew =
    record {
      rank_is = omega arith;
      index_is = omega arith;
      kind_is = omega arith;
      gives_is = let e : (rank * 2 ^ 32 + (i * 2 ^ 8 + (kind * 16 + (g * 8 + (l * 4 + w * 2))))) / 2 ^ 3 % 2 ≡ g = omega arith in bit_eq gives _ (e ∙ eg);
      local_is = let e : (rank * 2 ^ 32 + (i * 2 ^ 8 + (kind * 16 + (g * 8 + (l * 4 + w * 2))))) / 2 ^ 2 % 2 ≡ l = omega arith in bit_eq local _ (e ∙ el);
      wrong_is = let e : (rank * 2 ^ 32 + (i * 2 ^ 8 + (kind * 16 + (g * 8 + (l * 4 + w * 2))))) / 2 % 2 ≡ w = omega arith in bit_eq wrong _ (e ∙ ew);
      unmarked = let e : (rank * 2 ^ 32 + (i * 2 ^ 8 + (kind * 16 + (g * 8 + (l * 4 + w * 2))))) % 2 ≡ 0 = omega arith in ap (λ (x : ℕ). eqb x 1) e;
    }

-- ---- their order

-- of two numbers with different indexes the lesser has the lesser rank, or within a rank the lesser index
pub by_parts : (x y : ℕ) → x < y → (index_part x ≡ index_part y → ⊥)
    → (rank_part x < rank_part y) ⊎ ((rank_part x ≡ rank_part y) × (index_part x < index_part y))
by_parts x y h n = go (ltb (rank_part x) (rank_part y)) refl
  where
    go : (b : Bool) → ltb (rank_part x) (rank_part y) ≡ b → (rank_part x < rank_part y) ⊎ ((rank_part x ≡ rank_part y) × (index_part x < index_part y))
    go true e = inl (ltb-true _ _ e)
    go false e =
        let k = ltb-false (rank_part x) (rank_part y) e in
        let r : rank_part x ≡ rank_part y = omega arith in
        let l : index_part x ≤ index_part y = omega arith in
        inr (r, less (index_part x) (index_part y) l n)
      where
        less : (a b : ℕ) → a ≤ b → (a ≡ b → ⊥) → a < b
        less a b m d = on (ltb a b) refl
          where
            on : (t : Bool) → ltb a b ≡ t → a < b
            on true f = ltb-true a b f
            on false f = let g = ltb-false a b f in absurd (d (omega arith))

-- ---- the kinds

kind_chain : (a b c d l m r s t z : Bool)
    → (eqb (cond a 0 (cond b 1 (cond c 2 (cond d 3 (cond l 4 (cond m 5 (cond r 6 (cond s 7 (cond t 8 (cond z 9 15)))))))))) 0 ≡ a)
    × (eqb (cond a 0 (cond b 1 (cond c 2 (cond d 3 (cond l 4 (cond m 5 (cond r 6 (cond s 7 (cond t 8 (cond z 9 15)))))))))) 1 ≡ (not a && b))
kind_chain true b c d l m r s t z = (refl, refl)
kind_chain false true c d l m r s t z = (refl, refl)
kind_chain false false true d l m r s t z = (refl, refl)
kind_chain false false false true l m r s t z = (refl, refl)
kind_chain false false false false true m r s t z = (refl, refl)
kind_chain false false false false false true r s t z = (refl, refl)
kind_chain false false false false false false true s t z = (refl, refl)
kind_chain false false false false false false false true t z = (refl, refl)
kind_chain false false false false false false false false true z = (refl, refl)
kind_chain false false false false false false false false false true = (refl, refl)
kind_chain false false false false false false false false false false = (refl, refl)

pub kind_add : (t : ℕ) → eqb (kind_of t) 0 ≡ eqb t A
unfolding kind_of
kind_add t = (kind_chain (eqb t A) (eqb t B) (eqb t C) (eqb t D) (eqb t L) (eqb t M) (eqb t R) (eqb t S) (eqb t letter_t) (eqb t Z)).0

pub kind_rename : (t : ℕ) → eqb (kind_of t) 1 ≡ (not (eqb t A) && eqb t B)
unfolding kind_of
kind_rename t = (kind_chain (eqb t A) (eqb t B) (eqb t C) (eqb t D) (eqb t L) (eqb t M) (eqb t R) (eqb t S) (eqb t letter_t) (eqb t Z)).1

b_only : (t : ℕ) → (not (eqb t A) && eqb t B) ≡ eqb t B
b_only t = go (eqb t B) refl
  where
    go : (x : Bool) → eqb t B ≡ x → (not (eqb t A) && x) ≡ x
    go true e = rw (eqb-true t B e)
    go false e = and-false (not (eqb t A))

-- ---- a detail's number

pub tagged_of : (state : List ℕ) (year : ℕ) (list : List ℕ) (i : ℕ) (rec : List ℕ) (rank kind set : ℕ) (local : Bool) (n : ℕ)
    → rank ≡ rank_of state (record_key rec) → kind ≡ kind_of (type_of rec) → set ≡ number_of_codes (front_errors state year list rec)
    → local ≡ warning51 list rec
    → IsTag rank i kind (eqb kind 1 && not (not (eqb set 0))) local (not (eqb set 0)) n
    → Tagged state year list i rec n
tagged_of state year list i rec rank kind set local n er ek es el t =
    record {
      rank_is = t.rank_is ∙ er;
      index_is = t.index_is;
      kind_is = t.kind_is ∙ ek;
      gives_is =
          t.gives_is
          ∙ rw (ek, es, not-not (eqb (number_of_codes (front_errors state year list rec)) 0), kind_rename (type_of rec), b_only (type_of rec))
          (sym (gives_front state year list rec));
      local_is = t.local_is ∙ el;
      wrong_is = t.wrong_is ∙ ap (λ (x : ℕ). not (eqb x 0)) es;
      unmarked = t.unmarked;
    }

module _ (state : List ℕ) (year : ℕ) (list : List ℕ) (i : ℕ) (rec : List ℕ) (n : ℕ) (t : Tagged state year list i rec n) where
  -- it says whether the detail makes a row from none, whatever names are given
  pub tagged_makes : (names : List (List ℕ)) → makes_from n ≡ is_some (next (setting_of state year list names) none rec)
  tagged_makes names =
      rw (t.kind_is, t.wrong_is, not-not (eqb (number_of_codes (front_errors state year list rec)) 0), kind_add (type_of rec))
      (sym (front_makes (setting_of state year list names) rec))

-- ---- numbers written

module _ (state : List ℕ) (year : ℕ) (list : List ℕ) (details : List (List ℕ)) (before : List ℕ) where
  pub tagged_none : TaggedAll state year list details 0 before before
  tagged_none = record { numbers = λ q l. absurd (not-suc-le-zero l); kept = refl }

  pub tagged_next : (i : ℕ) (s : List ℕ) (x : ℕ) → TaggedAll state year list details i before s → i < length s
      → Tagged state year list i (detail_at details i) x → TaggedAll state year list details (i + 1) before (set s i x)
  tagged_next i s x h l e = record {
    numbers = each_next (λ q y. Tagged state year list q (detail_at details q) y) i x s l h.numbers e;
    kept = kept_next i s before x h.kept;
  }

  -- at the loop's end
  pub tagged_all : (i d : ℕ) (s : List ℕ) → i ≤ d → d ≤ i → TaggedAll state year list details i before s → TaggedAll state year list details d before s
  tagged_all i d s l m h = let e : i ≡ d = omega arith in rw e at h

-- ---- the numbers sorted

tag_zero : 0 ≡ index_part 0
tag_zero = refl

-- the index in a number of the first d
pub tag_at : (d : ℕ) (s : List ℕ) (q : ℕ) → q < d → get_or (index_parts d s) q 0 ≡ index_part (get_or s q 0)
tag_at d s q l =
    ap (get_or (index_parts d s) q) tag_zero ∙ get_or-map index_part (take d s) q 0 ∙ ap index_part (get_or-take d s q 0 l)

-- the numbers of two details differ
tagged_differ : (state : List ℕ) (year : ℕ) (list : List ℕ) (details : List (List ℕ)) (d : ℕ) (before after : List ℕ) → d ≤ length after
    → TaggedAll state year list details d before after → Different (take d after)
tagged_differ state year list details d before after room n i j l m e =
    let w : j < d = rw (length-take-le d after room) at m in
    let u : i < d = omega arith in
    let x : get_or after i 0 ≡ get_or after j 0 = sym (get_or-take d after i 0 u) ∙ e ∙ get_or-take d after j 0 w in
    let y : i ≡ j = sym (n.numbers i u).index_is ∙ ap index_part x ∙ (n.numbers j w).index_is in
    omega arith

module _ (state : List ℕ) (year : ℕ) (list : List ℕ) (details : List (List ℕ)) (d : ℕ) (before first second : List ℕ)
    (many : length details ≡ d) (room : d ≤ length before)
    (n : TaggedAll state year list details d before first) (width-first : length first ≡ length before)
    (a : Arranged (take d first) (take d second)) (kept_second : drop d second ≡ drop d first) (width-second : length second ≡ length first)
  where
    abbrev order : List ℕ
    order = index_parts d second

    taken : length (take d first) ≡ d
    taken = length-take-le d first (omega arith)

    taken_second : length (take d second) ≡ d
    taken_second = length-take-le d second (omega arith)

    count : length order ≡ d
    count = length-map (take d second) index_part ∙ taken_second

    -- number q is that of the detail whose index it holds
    record Seat (q : ℕ) : Type 0 where
      pub inside : index_part (get_or second q 0) < d
      pub number : Tagged state year list (index_part (get_or second q 0)) (detail_at details (index_part (get_or second q 0))) (get_or second q 0)

    seat_from : (q i : ℕ) → i < d → get_or second q 0 ≡ get_or first i 0 → Seat q
    seat_from q i m e =
        let o : index_part (get_or second q 0) ≡ i = ap index_part e ∙ (n.numbers i m).index_is in
        record { inside = rw o m; number = rw (o, e) (n.numbers i m) }

    seat : (q : ℕ) → q < d → Seat q
    seat q l =
        let f = a.from q (rw taken_second l) in
        let m : f.0 < d = rw taken at f.1 in
        seat_from q f.0 m (sym (get_or-take d second q 0 l) ∙ f.2 ∙ get_or-take d first f.0 0 m)

    all : (i : ℕ) → i < d → (q : ℕ) × (q < d) × (get_or order q 0 ≡ i)
    all i m =
        let t = a.to i (rw taken m) in
        let l : t.0 < d = rw taken_second at t.1 in
        let e : get_or second t.0 0 ≡ get_or first i 0 = sym (get_or-take d second t.0 0 l) ∙ t.2 ∙ get_or-take d first i 0 m in
        (t.0, l, tag_at d second t.0 l ∙ ap index_part e ∙ (n.numbers i m).index_is)

    -- two numbers hold different indexes, since each is that of one place of the first list
    apart : (q p : ℕ) → q < p → p < d → index_part (get_or second q 0) ≡ index_part (get_or second p 0) → ⊥
    apart q p l h e =
        let m : q < d = omega arith in
        let f = a.from q (rw taken_second m) in
        let g = a.from p (rw taken_second h) in
        let mf : f.0 < d = rw taken at f.1 in
        let mg : g.0 < d = rw taken at g.1 in
        let ef : get_or second q 0 ≡ get_or first f.0 0 = sym (get_or-take d second q 0 m) ∙ f.2 ∙ get_or-take d first f.0 0 mf in
        let eg : get_or second p 0 ≡ get_or first g.0 0 = sym (get_or-take d second p 0 h) ∙ g.2 ∙ get_or-take d first g.0 0 mg in
        let i : f.0 ≡ g.0 = sym (n.numbers f.0 mf).index_is ∙ sym (ap index_part ef) ∙ e ∙ ap index_part eg ∙ (n.numbers g.0 mg).index_is in
        let x : get_or second q 0 ≡ get_or second p 0 = ef ∙ ap (λ (k : ℕ). get_or first k 0) i ∙ sym eg in
        let y = a.strict q p l (rw taken_second h) in
        let yq = get_or-take d second q 0 m in
        let yp = get_or-take d second p 0 h in
        omega arith

    in_turn : (q p : ℕ) → q < p → p < d → Before state details (get_or order q 0) (get_or order p 0)
    in_turn q p h l =
        let m : q < d = omega arith in
        let x = a.strict q p h (rw taken_second l) in
        let s : get_or second q 0 < get_or second p 0 = rw (get_or-take d second q 0 m, get_or-take d second p 0 l) at x in
        rw (tag_at d second q m, tag_at d second p l)
        (go (by_parts (get_or second q 0) (get_or second p 0) s (apart q p h l)) (seat q m).number.rank_is (seat p l).number.rank_is)
      where
        go : (rank_part (get_or second q 0) < rank_part (get_or second p 0))
            ⊎ ((rank_part (get_or second q 0) ≡ rank_part (get_or second p 0)) × (index_part (get_or second q 0) < index_part (get_or second p 0)))
            → rank_part (get_or second q 0) ≡ rank_at state details (index_part (get_or second q 0))
            → rank_part (get_or second p 0) ≡ rank_at state details (index_part (get_or second p 0))
            → Before state details (index_part (get_or second q 0)) (index_part (get_or second p 0))
        go (inl b) e f = inl (rw (← e, ← f) b)
        go (inr b) e f = inr (sym e ∙ b.0 ∙ f, b.1)

    pub tagged_ordered : TaggedOrder state year list details d before second
    tagged_ordered =
        record {
          in_order =
              record {
                count = count ∙ sym many;
                inside = λ q l. let m : q < d = rw count at l in rw (many, tag_at d second q m) (seat q m).inside;
                all = λ i l. let t = all i (rw many at l) in (t.0, rw count t.1, t.2);
                in_order = λ q p h l. in_turn q p h (rw count at l);
              };
          tags = λ q l. (seat q l).number;
          kept = kept_second ∙ n.kept;
          width = width-second ∙ width-first;
        }

-- the first d numbers sorted in their place, as the code cuts them out and puts them back
module _ (state : List ℕ) (year : ℕ) (list : List ℕ) (details : List (List ℕ)) (d : ℕ) (before first part : List ℕ)
    (many : length details ≡ d) (room : d ≤ length before)
    (n : TaggedAll state year list details d before first) (width-first : length first ≡ length before)
    (e : part ≡ sorted (take (d - 0) first))
  where
    abbrev whole_list : List ℕ
    whole_list = part ++ drop (d - 0) first

    whole : d - 0 ≡ d
    whole = omega arith

    part_is : part ≡ sorted (take d first)
    part_is = e ∙ ap (λ (z : ℕ). sorted (take z first)) whole

    part_width : length part ≡ d
    part_width = ap length part_is ∙ length-sorted (take d first) ∙ length-take-le d first (omega arith)

    front : take d whole_list ≡ sorted (take d first)
    front = take_at part (drop (d - 0) first) d part_width ∙ part_is

    back : drop d whole_list ≡ drop d first
    back = drop_at part (drop (d - 0) first) d part_width ∙ ap (λ (z : ℕ). drop z first) whole

    width : length whole_list ≡ length first
    width = simp (length-append, length-drop) (omega (arith, part_width))

    arranged : Arranged (take d first) (take d whole_list)
    arranged =
        rw front (sorted_arranged (take d first) (tagged_differ state year list details d before first (omega arith) n))

    pub tagged_sorted : TaggedOrder state year list details d before (part ++ drop (d - 0) first)
    tagged_sorted = tagged_ordered state year list details d before first whole_list many room n width-first arranged back width

-- what is in key order does not fall
pub tagged_rises : (state : List ℕ) (year : ℕ) (list : List ℕ) (details : List (List ℕ)) (d : ℕ) (before s : List ℕ)
    → TaggedOrder state year list details d before s → d ≤ length s → (q p : ℕ) → q < p → p < d → rank_part (get_or s q 0) ≤ rank_part (get_or s p 0)
tagged_rises state year list details d before s o room q p l h =
    let m : q < d = omega arith in
    let w : length (index_parts d s) ≡ d = length-map (take d s) index_part ∙ length-take-le d s room in
    go (rw (tag_at d s q m, tag_at d s p h) at (o.in_order.in_order q p l (rw w h))) (o.tags q m).rank_is (o.tags p h).rank_is
  where
    go : Before state details (index_part (get_or s q 0)) (index_part (get_or s p 0))
        → rank_part (get_or s q 0) ≡ rank_at state details (index_part (get_or s q 0))
        → rank_part (get_or s p 0) ≡ rank_at state details (index_part (get_or s p 0)) → rank_part (get_or s q 0) ≤ rank_part (get_or s p 0)
    go (inl b) e f = omega arith
    go (inr b) e f = omega (arith, b.0)

-- what a detail's number says of it
pub tagged_known : (state : List ℕ) (year : ℕ) (list : List ℕ) (i : ℕ) (rec : List ℕ) (n : ℕ) → Tagged state year list i rec n → Known state year list rec n
tagged_known state year list i rec n t = record { local_is = t.local_is; wrong_is = t.wrong_is }
