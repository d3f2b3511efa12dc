-- Laws of tests joined by and, or and a choice. Assumes nothing.
use mathlib.Core.Path.{◌≡◌, refl}
use mathlib.Core.Bool.{Bool, true, false, cond, ◌&&◌, ◌||◌}

pub or_left : (a b : Bool) → (a || b) ≡ false → a ≡ false
or_left true b t = t
or_left false b t = refl

pub or_right : (a b : Bool) → (a || b) ≡ false → b ≡ false
or_right true b t = cc
or_right false b t = t

pub and_both : (a b : Bool) → a ≡ true → b ≡ true → (a && b) ≡ true
and_both a b e f = rw (e, f)

-- where the first holds, the second doesn't
pub and_second : (a b : Bool) → a ≡ true → (a && b) ≡ false → b ≡ false
and_second true b e t = t
and_second false b e t = cc

-- what holds of both holds of the one chosen
pub either : {A : Type 0} (P : A → Type 0) (b : Bool) (x y : A) → (b ≡ true → P x) → P y → P (cond b x y)
either P true x y f g = f refl
either P false x y f g = g
