-- For the contracts of inner functions; no rule of the papers stands here.
-- The counts as the code keeps them, and what one detail adds. Assumes nothing.
use Rattle.std.specs.Prelude.{ℕ, ◌+◌, ◌-◌, ◌≤◌, List, [], ◌∷◌, ◌≡◌, Bool, false, not, cond, ◌&&◌, ◌||◌}
use Rattle.text.specs.Characters.{A, N}
use Rattle.batchfile.specs.TotalsParts.{count_in}
use Rattle.rejectfile.specs.Counts.{Counts, is_tanf, is_non_tanf}
use Rattle.rejectfile.specs.declared.counts.Tally.{Tally}

abbrev pub counts_in : Tally → Counts
counts_in t =
    record {
      accepted_tanf = t.tanf_accepted;
      rejected_tanf = t.tanf_rejected;
      accepted_non_tanf = t.non_tanf_accepted;
      rejected_non_tanf = t.non_tanf_rejected;
      warned_tanf = t.tanf_warned;
      warned_non_tanf = t.non_tanf_warned;
      neither = t.neither;
    }

abbrev pub plus : Counts → Counts → Counts
plus a b =
    record {
      accepted_tanf = a.accepted_tanf + b.accepted_tanf;
      rejected_tanf = a.rejected_tanf + b.rejected_tanf;
      accepted_non_tanf = a.accepted_non_tanf + b.accepted_non_tanf;
      rejected_non_tanf = a.rejected_non_tanf + b.rejected_non_tanf;
      warned_tanf = a.warned_tanf + b.warned_tanf;
      warned_non_tanf = a.warned_non_tanf + b.warned_non_tanf;
      neither = a.neither + b.neither;
    }

-- what a detail adds, by whether it is rejected and whether it is warned
unfoldable pub one_detail : List ℕ → Bool → Bool → Counts
one_detail detail rejected warned =
    record {
      accepted_tanf = cond (is_tanf detail && not rejected) 1 0;
      rejected_tanf = cond (is_tanf detail && rejected) 1 0;
      accepted_non_tanf = cond (is_non_tanf detail && not rejected) 1 0;
      rejected_non_tanf = cond (is_non_tanf detail && rejected) 1 0;
      warned_tanf = cond (is_tanf detail && warned) 1 0;
      warned_non_tanf = cond (is_non_tanf detail && warned) 1 0;
      neither = cond (not (is_tanf detail || is_non_tanf detail)) 1 0;
    }

-- what a detail adds to counts in which it doesn't stand yet: one without a code is accepted, one with codes rejected, or accepted and warned
abbrev pub added_by : List ℕ → Bool → Bool → Counts
added_by detail accepted coded = cond coded (one_detail detail (not accepted) accepted) (one_detail detail false false)

abbrev pub no_counts : Counts
no_counts =
    record {
      accepted_tanf = 0;
      rejected_tanf = 0;
      accepted_non_tanf = 0;
      rejected_non_tanf = 0;
      warned_tanf = 0;
      warned_non_tanf = 0;
      neither = 0;
    }

-- the counts of details none of which has a code
unfoldable pub all_accepted : List (List ℕ) → Counts
all_accepted [] = no_counts
all_accepted (detail ∷ details) = plus (one_detail detail false false) (all_accepted details)

-- the counts that the work starts with: so many of each case type, all accepted, and what is left of all details under neither
abbrev pub start_tally : ℕ → ℕ → ℕ → Tally
start_tally tanf non_tanf details =
    record {
      tanf_accepted = tanf;
      tanf_rejected = 0;
      non_tanf_accepted = non_tanf;
      non_tanf_rejected = 0;
      tanf_warned = 0;
      non_tanf_warned = 0;
      neither = details - tanf - non_tanf;
    }

-- no more than n are rejected or warned
pub record CodedAtMost (n : ℕ) (t : Tally) : Type 0 where
  pub a : t.tanf_rejected ≤ n
  pub b : t.non_tanf_rejected ≤ n
  pub c : t.tanf_warned ≤ n
  pub d : t.non_tanf_warned ≤ n

-- a detail counted that stood among the accepted: its codes move it
pub record Counted (detail : List ℕ) (n : ℕ) (accepted coded : Bool) (t t' : Tally) : Type 0 where
  pub counts_are : plus (counts_in t') (one_detail detail false false) ≡ plus (counts_in t) (added_by detail accepted coded)
  pub coded_few : CodedAtMost (n + 1) t'
  pub tanf_low : t.tanf_accepted ≤ t'.tanf_accepted + count_in A detail
  pub tanf_high : t'.tanf_accepted ≤ t.tanf_accepted
  pub non_tanf_low : t.non_tanf_accepted ≤ t'.non_tanf_accepted + count_in N detail
  pub non_tanf_high : t'.non_tanf_accepted ≤ t.non_tanf_accepted
  pub neither_is : t'.neither ≡ t.neither

-- no count passes n
pub record AtMost (n : ℕ) (t : Tally) : Type 0 where
  pub a : t.tanf_accepted ≤ n
  pub b : t.tanf_rejected ≤ n
  pub c : t.non_tanf_accepted ≤ n
  pub d : t.non_tanf_rejected ≤ n
  pub e : t.tanf_warned ≤ n
  pub f : t.non_tanf_warned ≤ n
  pub g : t.neither ≤ n
