-- `codes::code`: name, bit 31 and rest are the three parts of the code. Assumes nothing.
use mathlib.Core.Path.{◌∙◌}
use Rattle.namemarks.proofs.CodesLaws.{code_is}
use Rattle.namemarks.proofs.codes.code.Goals as goal

pub returns : goal.returns
returns c =
    code_is c.args.state.now c.args.batch.now c.args.number _ _ _ c.flag_gives.result c.index_part-i.ensures.0 c.name_at-name.ensures.0 (c.flag_gives.ensures ∙ c.requires.1) c.giving_bit-giving.ensures.0
