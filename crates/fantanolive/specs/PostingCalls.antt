-- The exported C function of document 02, item 6, that posts: what it returns and what it leaves in every buffer lent, over the outcome of the call
-- beneath it. Assumes nothing.
use Rattle.std.specs.Prelude.{ℕ}
use Rattle.answers.specs.Answer.{Returned, returned}
use Rattle.posting.specs.Post.{PostCall, PostBuffers, post_outcome}

-- how many lines are listed, every byte of the master and every number of the list
unfoldable pub post_left : PostCall → ℕ → Returned ℕ PostBuffers
post_left c listed = returned (λ n. n) listed (post_outcome c)
