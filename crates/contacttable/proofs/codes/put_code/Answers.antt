-- `put_code` writes the code where it is wanted, and nothing where it isn't. Assumes nothing.
use Rattle.contacttable.proofs.CodesLaws.{one_not, one_is}
use Rattle.text.proofs.SplicedLaws.{spliced_none}
use mathlib.Core.Path.{sym, ap, ◌∙◌}
use native.Mathlib.Omega.{arith}
use Prim.Native.Nat.{◌*◌}
use lib.ListN.{length}
use Rattle.contacttable.proofs.codes.put_code.Goals as goal

pub returns-then-not-is_local_of : goal.returns-then-not-is_local_of
returns-then-not-is_local_of c =
    let a = c.args in
    let e = one_not a.state.now a.rec.now (sym c.is_local_of.ensures ∙ c.if-not-is_local_of.true) in
    (omega (arith, e.0), (rw e.1 (spliced_none a.out.now (a.k * 3))))

pub copy_in-requires : goal.copy_in-requires
copy_in-requires c =
    let a = c.args in
    let e = one_is a.state.now a.rec.now c.requires.0 (sym c.is_local_of.ensures ∙ c.if-not-is_local_of.false) in
    omega (arith, e.0, e.2, ap length c.field.ensures, c.requires.1)

pub returns : goal.returns
returns c =
    let a = c.args in
    let e = one_is a.state.now a.rec.now c.requires.0 (sym c.is_local_of.ensures ∙ c.if-not-is_local_of.false) in
    (omega (arith, e.0), (rw (e.1, ← c.field.ensures) c.copy_in.ensures))
