-- `fantanolive_pages`: each answer of `pages` is written as the number and the count that its outcome stands for. Assumes nothing.
use Rattle.fantanolive.proofs.PagesCallsLaws.{pages_left_lem}
use Rattle.fantanolive.proofs.pages_calls.fantanolive_pages.Goals as goal

pub returns-in-Ok : goal.returns-in-Ok
returns-in-Ok c = pages_left_lem _ _ _ _ _ _ _ c.pages.ensures c.in-Ok.is

pub returns-in-Err : goal.returns-in-Err
returns-in-Err c = rw c.number.ensures (pages_left_lem _ _ _ _ _ _ _ c.pages.ensures c.in-Err.is)
