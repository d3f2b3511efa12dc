-- The most rows that a master may have take so few pages that the number of each fits its digits, as `EveryPrinting` asks. Assumes nothing.
use Prim.Native.Nat.{◌^◌, ◌<◌}
use lib.Dec.{lit≤}
use Rattle.layout.specs.Limits.{max_rows}
use Rattle.layout.proofs.LimitsLaws.{max_rows_lem}
use Rattle.pages.specs.Forms.{page_digits}
use Rattle.pages.specs.Pages.{page_count}

pub few_pages : page_count max_rows < 10 ^ page_digits
unfolding page_digits
few_pages = rw max_rows_lem (lit≤ tt)
