-- Document 02, item 13: two batches into one. Where both, applied one behind the other, and the merged one are carried out from the same
-- master with the same year and codes, and no key with a B record has records in both, the effect is the same. Over any limits and buffers.
-- Assumes nothing.
use Rattle.std.specs.Prelude.{ℕ, ◌≡◌, ◌⊎◌, List, [], ◌++◌, true}
use Rattle.answers.specs.Answer.{is_carried_out}
use Rattle.onecase.specs.Verdict.{Judgement}
use Rattle.turns.specs.Under.{details_under, verdicts_under, IsKey}
use Rattle.merging.specs.Merge.{MergeCall, MergeOutcome, IsMerge}
use Rattle.merging.specs.Theorem.{batch_written}
use Rattle.effects.specs.Several.{Sent, IsApplied, WasCarriedOut, SameYear, SameCodes, master_found, master_left, details_sent, verdicts_sent, any_b}

-- no key with a B has records in both
abbrev pub NoBInBoth : Sent → Sent → Type 0
NoBInBoth a b =
    (key : List ℕ) → IsKey key → any_b (details_under key (details_sent a ++ details_sent b)) ≡ true
    → (details_under key (details_sent a) ≡ []) ⊎ (details_under key (details_sent b) ≡ [])

-- the verdicts on the details of a key
abbrev pub sent_under : List ℕ → Sent → List Judgement
sent_under key s = verdicts_under key (details_sent s) (verdicts_sent s)

-- the master that the second leaves, row count and rows, is that which the merged one leaves; the verdicts are the same, in batch order the
-- first's and then the second's, and so they are under each key
pub record SameEffect (a b whole : Sent) : Type 0 where
  pub master : master_left b ≡ master_left whole
  pub verdicts : verdicts_sent a ++ verdicts_sent b ≡ verdicts_sent whole
  pub under : (key : List ℕ) → IsKey key → sent_under key a ++ sent_under key b ≡ sent_under key whole

-- over four whole calls: the merge, both batches one behind the other, and the batch that the merge wrote
abbrev pub TwoIntoOne : Type 0
TwoIntoOne =
    (c : MergeCall) (m : MergeOutcome) (a b whole : Sent)
    → IsMerge c m
    → IsApplied a
    → IsApplied b
    → IsApplied whole
    → is_carried_out m.answer ≡ true
    → WasCarriedOut a
    → WasCarriedOut b
    → WasCarriedOut whole
    → a.call.batch ≡ c.first
    → b.call.batch ≡ c.second
    → whole.call.batch ≡ batch_written m
    → master_found a ≡ master_found whole
    → master_found b ≡ master_left a
    → SameYear whole a
    → SameYear whole b
    → SameCodes whole a
    → SameCodes whole b
    → NoBInBoth a b
    → SameEffect a b whole
