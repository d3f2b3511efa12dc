-- `records_to::put_records` meets its contract: each record stands behind those before it. Assumes nothing.
use native.Mathlib.Omega.{arith}
use Rattle.caserecords.proofs.RecordsToLaws.{put_count, all_held}
use Rattle.caserecords.proofs.records_to.put_records.Goals as goal

pub put_if-l-requires : goal.put_if-l-requires
put_if-l-requires c =
    let p = c.put_if-c in
    let r = put_count c.args.out.now 0 c.is_other_case_id.result c.case_id_record.result p.new.out p.result p.ensures in
    omega (arith, r, p.auto.out, c.requires.2)

pub put_if-r-requires : goal.put_if-r-requires
put_if-r-requires c =
    let p = c.put_if-c in
    let q = c.put_if-l in
    let r = put_count c.args.out.now 0 c.is_other_case_id.result c.case_id_record.result p.new.out p.result p.ensures in
    let s = put_count p.new.out p.result c.is_other_local_code.result c.local_code_record.result q.new.out q.result q.ensures in
    omega (arith, r, s, p.auto.out, q.auto.out, c.requires.2)

pub arrearage_record-requires : goal.arrearage_record-requires
arrearage_record-requires c =
    (c.requires.0, c.requires.1)

pub put_if-requires : goal.put_if-requires
put_if-requires c =
    let p = c.put_if-c in
    let q = c.put_if-l in
    let t = c.put_if-r in
    let r = put_count c.args.out.now 0 c.is_other_case_id.result c.case_id_record.result p.new.out p.result p.ensures in
    let s = put_count p.new.out p.result c.is_other_local_code.result c.local_code_record.result q.new.out q.result q.ensures in
    let u = put_count q.new.out q.result c.is_other_set.result c.exclusion_record.result t.new.out t.result t.ensures in
    omega (arith, r, s, u, p.auto.out, q.auto.out, t.auto.out, c.requires.2)

pub returns : goal.returns
returns c =
    let a = c.args in
    let p = c.put_if-c in
    let q = c.put_if-l in
    let t = c.put_if-r in
    let u = c.put_if in
    all_held a.row.now a.wanted.now a.out.now p.new.out q.new.out t.new.out u.new.out p.result q.result t.result u.result
    (rw (c.is_other_case_id.ensures, c.case_id_record.ensures) at p.ensures)
    (rw (c.is_other_local_code.ensures, c.local_code_record.ensures) at q.ensures)
    (rw (c.is_other_set.ensures, c.exclusion_record.ensures) at t.ensures)
    (rw (c.is_other_balance.ensures, c.arrearage_record.ensures) at u.ensures)
