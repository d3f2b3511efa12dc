use Rattle.codepage.specs.CodePage.{ebcdic_of}
use Rattle.codepage.proofs.AcceptedLaws.{every-next, every_end}
use Rattle.codepage.proofs.accepted.all_have_ebcdic.Goals as goal

pub loop-b-preserved : goal.loop-b-preserved
loop-b-preserved c =
    let l = c.loop-b in
    every-next ebcdic_of _ l.b-index l.ok c.has_ebcdic-ok.result c.loop-b-test.true l.invariant c.has_ebcdic-ok.ensures

pub returns : goal.returns
returns c =
    let l = c.loop-b in
    every_end ebcdic_of _ l.b-index l.ok c.loop-b-test.false l.invariant
