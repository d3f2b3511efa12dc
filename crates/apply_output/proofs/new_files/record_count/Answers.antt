-- `new_files::record_count`: a record for each verdict with a code, and the control record. Assumes nothing.
use mathlib.Core.Path.{◌≡◌}
use borrow.Author.Rules.{rules}
use Rattle.std.specs.List.{count_by}
use Rattle.apply_output.proofs.NewFilesLaws.{has_code, records_are}
use Rattle.apply_output.proofs.new_files.record_count.Goals as goal

pub returns : goal.returns
returns c =
    let n : c.count.result ≡ count_by has_code c.args.verdicts.now = search rules in
    rw n (records_are c.args.verdicts.now)
