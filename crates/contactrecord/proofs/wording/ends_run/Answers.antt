-- `ends_run`: a run of another length is not the word. Assumes nothing.
use Rattle.std.proofs.Common.{◌≡◌, false, arith, rules, tests}
use Rattle.text.specs.Fields.{same_bytes}
use Rattle.text.proofs.SameLaws.{same_lengths}
use Rattle.contactrecord.proofs.wording.ends_run.Goals as goal

pub returns-else-run-word : goal.returns-else-run-word
returns-else-run-word c =
    let word = c.args.word.now in
    let run = c.args.run.now in
    let other : same_bytes word run ≡ false = same_lengths word run (λ e. omega (arith, e, c.if-run-word.false)) in
    rw other (search (rules, tests))
