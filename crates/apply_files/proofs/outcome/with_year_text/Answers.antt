-- `outcome::with_year_text`: by what year.txt holds, as in the definition. Assumes nothing.
use Rattle.apply_files.proofs.outcome.with_year_text.Goals as goal

pub returns-in-None : goal.returns-in-None
returns-in-None c = rw (← c.year_of.ensures, c.in-None.is)

pub returns-in-Some : goal.returns-in-Some
returns-in-Some c = rw (← c.year_of.ensures, c.in-Some.is) c.with_year.ensures
