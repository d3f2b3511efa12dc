-- For the contracts of inner functions; no rule of the papers stands here.
-- A list of local codes that is known to pass refusal 2. Assumes nothing.
use Rattle.std.specs.Prelude.{ℕ, ◌≡◌, List, Bool, true}
use Rattle.layout.specs.Locals.{is_local_list}

-- where it is said to be ordered, the list is made of three-digit codes, strictly rising
abbrev pub IsOrderedIf : Bool → List ℕ → Type 0
IsOrderedIf ordered list = ordered ≡ true → is_local_list list ≡ true
