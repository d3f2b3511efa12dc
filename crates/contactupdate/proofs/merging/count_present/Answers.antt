-- `count_present`: what the keys count, summed, is how many have a record, which is at most how many there are. Assumes nothing.
use Rattle.std.proofs.Common.{◌∙◌, length, arith, rules, tests}
use Rattle.std.specs.List.{zip}
use Rattle.std.proofs.lemmas.Iterator.{YieldsList-from_slice, YieldsList-from_zip, YieldsList-from_map}
use Rattle.std.proofs.lemmas.Iterator.Consumers.{YieldsList-at, sum_by_from_yields_List, fits_by_from_yields_list}
use Rattle.contactupdate.proofs.MergingLaws.{present_number, present_sum, present_few}
use Rattle.contactupdate.proofs.merging.count_present.Goals as goal

pub sum-requires-clause-fits : goal.sum-requires-clause-fits
sum-requires-clause-fits c =
    let held = c.args.held.now in
    let lasts = c.args.lasts.now in
    let e = present_sum held lasts c.requires.0 in
    fits_by_from_yields_list present_number (zip held lasts) c.map.result _
    (YieldsList-from_map _ present_number (YieldsList-at c.map.ensures.source (YieldsList-from_zip (YieldsList-from_slice held cc) (YieldsList-from_slice lasts cc)))
    c.map.ensures.closure (λ x r q k. search (rules, tests)))
    (omega (arith, e, present_few held lasts (length held) 0 c.requires.1))

pub returns : goal.returns
returns c =
    let held = c.args.held.now in
    let lasts = c.args.lasts.now in
    sum_by_from_yields_List present_number (zip held lasts) c.map.result _ c.sum.ensures.ran
    (YieldsList-from_map _ present_number (YieldsList-at c.map.ensures.source (YieldsList-from_zip (YieldsList-from_slice held cc) (YieldsList-from_slice lasts cc)))
    c.map.ensures.closure (λ x r q k. search (rules, tests)))
    ∙ present_sum held lasts c.requires.0
