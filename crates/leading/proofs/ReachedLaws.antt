-- What C, L, R and M records without an error can make of a row, whatever they are and however many. Assumes nothing.
use Prim.Native.Nat.{ℕ, ◌+◌, ◌≤◌}
use mathlib.Core.Path.{◌≡◌, refl, ◌∙◌}
use mathlib.Core.List.{List, [], ◌∷◌}
use mathlib.Core.Bool.{Bool, true, false, not, cond, ◌&&◌, ◌||◌, false≢true}
use mathlib.Core.Option.{Option, none, some}
use mathlib.Core.Logic.{◌⊎◌, inl, inr}
use native.Mathlib.Omega.{arith}
use lib.Dec.{lit≤}
use lib.ListN.{length, get_or}
use lib.Seq.{take_all}
use Rattle.text.specs.Options.{is_none}
use Rattle.text.specs.Characters.{zero_digit, C, L, M, R}
use Rattle.text.specs.Fields.{columns, is_blank, is_zero}
use Rattle.text.proofs.FieldsLaws.{and_left, and_right}
use Rattle.text.proofs.ColumnsLaws.{Put, written, length-written, columns-written, is_free, columns_free, AllFit}
use Rattle.exclusionsets.specs.Exclusions.{exclusions_of}
use Rattle.layout.specs.ChartA1.{local_code, case_id, exclusions}
use Rattle.layout.specs.Locals.{zero_local_code}
use Rattle.layout.specs.Record.{is_type}
use Rattle.layout.proofs.RecordLaws.{length-sent}
use Rattle.judging.specs.Setting.{Setting}
use Rattle.judging.specs.Errors.{is_local_code}
use Rattle.onecase.specs.Changes.{exclusion_byte, reidentified, relocated, amended, excluded}
use Rattle.onecase.specs.Machine.{changed}
use Rattle.onecase.proofs.JudgementLaws.{NoError}
use Rattle.onecase.proofs.ChangesLaws
use Rattle.exclusionsets.specs.ExclusionText.{is_widened}
use Rattle.caserecords.specs.Differences.{is_zero_or_listed}
use Rattle.exclusionsets.proofs.ExclusionTextLaws.{read_widened}
use Rattle.onecase.proofs.CorrectionLaws.{changed_c, changed_l, changed_m, changed_r, id_there, code_right, set_named, code-stored, set-stored, byte_wide}

-- a field is as it was, or passes a test
abbrev KeptOr : (List ℕ → Bool) → List ℕ → List ℕ → Type 0
KeptOr test f g = (f ≡ g) ⊎ (test f ≡ true)

-- ---- tests of the fields

abbrev pub is_there : List ℕ → Bool
is_there id = not (is_blank id)

abbrev pub is_widened_byte : List ℕ → Bool
is_widened_byte f = is_widened (get_or f 0 0)

pub record Reached (list row r : List ℕ) : Type 0 where
  pub wide : length r ≡ 200
  pub key : columns 1 12 r ≡ columns 1 12 row
  pub names : columns 31 65 r ≡ columns 31 65 row
  pub middle : columns 74 194 r ≡ columns 74 194 row
  pub filler : columns 199 200 r ≡ columns 199 200 row
  pub local : KeptOr (is_zero_or_listed list) (columns 13 15 r) (columns 13 15 row)
  pub id : KeptOr is_there (columns 16 30 r) (columns 16 30 row)
  pub set : KeptOr is_widened_byte (columns 195 195 r) (columns 195 195 row)
  pub balance : ((columns 66 73 r ≡ columns 66 73 row) × (columns 197 198 r ≡ columns 197 198 row)) ⊎ (is_zero (columns 197 198 r) ≡ true)

pub reached_self : (list row : List ℕ) → length row ≡ 200 → Reached list row row
reached_self list row w =
    record {
      wide = w;
      key = refl;
      names = refl;
      middle = refl;
      filler = refl;
      local = inl refl;
      id = inl refl;
      set = inl refl;
      balance = inl (refl, refl);
    }

-- ---- what is written into such a row

-- columns that no field has
keep : (ps : List Put) (r : List ℕ) → AllFit 200 ps → length r ≡ 200 → (a z : ℕ) → 1 ≤ a → a ≤ z + 1 → is_free a z ps ≡ true
    → columns a z (written ps r) ≡ columns a z r
keep ps r f w a z l o t = columns_free 200 a z l o ps r t f w

-- the four runs of columns that stay
record Kept (new r : List ℕ) : Type 0 where
  wide : length new ≡ 200
  key : columns 1 12 new ≡ columns 1 12 r
  names : columns 31 65 new ≡ columns 31 65 r
  middle : columns 74 194 new ≡ columns 74 194 r
  filler : columns 199 200 new ≡ columns 199 200 r

abbrev leaves_them : List Put → Bool
leaves_them ps = is_free 1 12 ps && (is_free 31 65 ps && (is_free 74 194 ps && is_free 199 200 ps))

kept_by : (ps : List Put) (r : List ℕ) → AllFit 200 ps → length r ≡ 200 → leaves_them ps ≡ true → Kept (written ps r) r
kept_by ps r f w t1 =
    let t2 = and_right (is_free 1 12 ps) _ t1 in
    let t3 = and_right (is_free 31 65 ps) _ t2 in
    record {
      wide = length-written 200 ps r f w;
      key = keep ps r f w 1 12 (lit≤ tt) (lit≤ tt) (and_left (is_free 1 12 ps) _ t1);
      names = keep ps r f w 31 65 (lit≤ tt) (lit≤ tt) (and_left (is_free 31 65 ps) _ t2);
      middle = keep ps r f w 74 194 (lit≤ tt) (lit≤ tt) (and_left (is_free 74 194 ps) _ t3);
      filler = keep ps r f w 199 200 (lit≤ tt) (lit≤ tt) (and_right (is_free 74 194 ps) _ t3);
    }

-- 000 or listed, or blank becoming 000
stored-code : (list rec : List ℕ) → is_local_code list rec ≡ true
    → is_zero_or_listed list (cond (is_blank (local_code rec)) zero_local_code (local_code rec)) ≡ true
unfolding is_zero_or_listed
stored-code list rec t = code-stored list rec t

cond_width : (b : Bool) (x y : List ℕ) (n : ℕ) → length x ≡ n → length y ≡ n → length (cond b x y) ≡ n
cond_width true x y n e f = e
cond_width false x y n e f = f

-- the set that is stored
stored-set : (rec : List ℕ) (read : Option ℕ) → exclusions_of (exclusions rec) ≡ read → is_none read ≡ false → is_widened_byte (exclusion_byte rec) ≡ true
stored-set rec none e t = cc
stored-set rec (some set) e t = rw (set-stored rec set e) (read_widened (exclusions rec) set e)

module _ {setting : Setting} {held : Option (List ℕ)} {rec : List ℕ} (n : NoError setting held rec) (e : length rec ≡ 245)
    (row r : List ℕ) (h : Reached setting.list row r) where
  reached_c : is_type C rec ≡ true → Reached setting.list row (reidentified rec r)
  reached_c t =
      let ps = ChangesLaws.reidentified_puts rec in
      let f = ChangesLaws.reidentified_fit rec e in
      let k = kept_by ps r f h.wide refl in
      let i : columns 16 30 (written ps r) ≡ case_id rec =
      columns-written 200 16 30 (lit≤ tt) (lit≤ tt) ps r refl f h.wide
      ∙ take_all 15 (case_id rec) (omega (arith, length-sent rec e 15 29 (lit≤ tt) (lit≤ tt) (lit≤ tt))) in
      let kl = keep ps r f h.wide 13 15 (lit≤ tt) (lit≤ tt) refl in
      let ks = keep ps r f h.wide 195 195 (lit≤ tt) (lit≤ tt) refl in
      let ka = keep ps r f h.wide 66 73 (lit≤ tt) (lit≤ tt) refl in
      let kc = keep ps r f h.wide 197 198 (lit≤ tt) (lit≤ tt) refl in
      rw (ChangesLaws.reidentified_is rec r)
      record {
        wide = k.wide;
        key = k.key ∙ h.key;
        names = k.names ∙ h.names;
        middle = k.middle ∙ h.middle;
        filler = k.filler ∙ h.filler;
        local = rw kl h.local;
        id = inr (rw (i, id_there n t));
        set = rw ks h.set;
        balance = rw (ka, kc) h.balance;
      }

  reached_l : is_type L rec ≡ true → Reached setting.list row (relocated rec r)
  reached_l t =
      let ps = ChangesLaws.relocated_puts rec in
      let f = ChangesLaws.relocated_fit rec e in
      let k = kept_by ps r f h.wide refl in
      let code : List ℕ = cond (is_blank (local_code rec)) zero_local_code (local_code rec) in
      let w : length code ≡ 3 =
      cond_width (is_blank (local_code rec)) zero_local_code (local_code rec) 3 refl (length-sent rec e 3 5 (lit≤ tt) (lit≤ tt) (lit≤ tt)) in
      let i : columns 13 15 (written ps r) ≡ code =
      columns-written 200 13 15 (lit≤ tt) (lit≤ tt) ps r refl f h.wide ∙ take_all 3 code (omega arith) in
      let ki = keep ps r f h.wide 16 30 (lit≤ tt) (lit≤ tt) refl in
      let ks = keep ps r f h.wide 195 195 (lit≤ tt) (lit≤ tt) refl in
      let ka = keep ps r f h.wide 66 73 (lit≤ tt) (lit≤ tt) refl in
      let kc = keep ps r f h.wide 197 198 (lit≤ tt) (lit≤ tt) refl in
      rw (ChangesLaws.relocated_is rec r)
      record {
        wide = k.wide;
        key = k.key ∙ h.key;
        names = k.names ∙ h.names;
        middle = k.middle ∙ h.middle;
        filler = k.filler ∙ h.filler;
        local = inr (rw i (stored-code setting.list rec (code_right n t)));
        id = rw ki h.id;
        set = rw ks h.set;
        balance = rw (ka, kc) h.balance;
      }

  reached_r : is_type R rec ≡ true → Reached setting.list row (excluded rec r)
  reached_r t =
      let ps = ChangesLaws.excluded_puts rec in
      let f = ChangesLaws.excluded_fit rec e in
      let k = kept_by ps r f h.wide refl in
      let i : columns 195 195 (written ps r) ≡ exclusion_byte rec = columns-written 200 195 195 (lit≤ tt) (lit≤ tt) ps r refl f h.wide
      ∙ take_all 1 (exclusion_byte rec) (omega (arith, byte_wide rec)) in
      let kl = keep ps r f h.wide 13 15 (lit≤ tt) (lit≤ tt) refl in
      let ki = keep ps r f h.wide 16 30 (lit≤ tt) (lit≤ tt) refl in
      let ka = keep ps r f h.wide 66 73 (lit≤ tt) (lit≤ tt) refl in
      let kc = keep ps r f h.wide 197 198 (lit≤ tt) (lit≤ tt) refl in
      rw (ChangesLaws.excluded_is rec r)
      record {
        wide = k.wide;
        key = k.key ∙ h.key;
        names = k.names ∙ h.names;
        middle = k.middle ∙ h.middle;
        filler = k.filler ∙ h.filler;
        local = rw kl h.local;
        id = rw ki h.id;
        set = inr (rw i (stored-set rec (exclusions_of (exclusions rec)) refl (set_named n t)));
        balance = rw (ka, kc) h.balance;
      }

  reached_m : is_type M rec ≡ true → Reached setting.list row (amended rec r)
  unfolding is_zero
  reached_m t =
      let ps = ChangesLaws.amended_puts rec in
      let f = ChangesLaws.amended_fit rec e in
      let k = kept_by ps r f h.wide refl in
      let kl = keep ps r f h.wide 13 15 (lit≤ tt) (lit≤ tt) refl in
      let ki = keep ps r f h.wide 16 30 (lit≤ tt) (lit≤ tt) refl in
      let ks = keep ps r f h.wide 195 195 (lit≤ tt) (lit≤ tt) refl in
      let i : columns 197 198 (written ps r) ≡ zero_digit ∷ zero_digit ∷ [] =
      columns-written 200 197 198 (lit≤ tt) (lit≤ tt) ps r refl f h.wide in
      rw (ChangesLaws.amended_is rec r)
      record {
        wide = k.wide;
        key = k.key ∙ h.key;
        names = k.names ∙ h.names;
        middle = k.middle ∙ h.middle;
        filler = k.filler ∙ h.filler;
        local = rw kl h.local;
        id = rw ki h.id;
        set = rw ks h.set;
        balance = inr (rw i);
      }

  -- one record more
  pub reached_on : (is_type C rec || is_type L rec || is_type R rec || is_type M rec) ≡ true → Reached setting.list row (changed rec r)
  reached_on t = go (is_type C rec) (is_type L rec) (is_type R rec) (is_type M rec) refl refl refl refl t
    where
      go : (a b c d : Bool) → is_type C rec ≡ a → is_type L rec ≡ b → is_type R rec ≡ c → is_type M rec ≡ d → (a || b || c || d) ≡ true
          → Reached setting.list row (changed rec r)
      go true b c d p q u v t = rw (changed_c rec r p) (reached_c p)
      go false true c d p q u v t = rw (changed_l rec r q) (reached_l q)
      go false false true d p q u v t = rw (changed_r rec r u) (reached_r u)
      go false false false true p q u v t = rw (changed_m rec r v) (reached_m v)
      go false false false false p q u v t = absurd (false≢true t)
