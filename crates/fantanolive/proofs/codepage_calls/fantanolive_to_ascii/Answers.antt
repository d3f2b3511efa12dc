-- `fantanolive_to_ascii` meets its contract: what the call leaves, with its answer as a number and a place. Assumes nothing.
use Rattle.fantanolive.proofs.CodepageCallsLaws.{conversion_left_lem}
use Rattle.fantanolive.proofs.codepage_calls.fantanolive_to_ascii.Goals as goal

pub returns : goal.returns
returns c =
    let done = c.to_ascii-answer in
    conversion_left_lem _ _ _ _ _ _ _ done.result done.ensures c.told.ensures
