use Rattle.std.proofs.Common.{◌≡◌, suc, take, drop, sym, ap, ◌∙◌, arith}
use Rattle.pl_model.specs.BuiltinRows.{unifying}
use Rattle.atom_parts.specs.Parts.{line_at, part_line, part_wanted, parts_of}
use Rattle.atom_parts.proofs.PartLaws.{lines_few, part_at_spot, part_terms}
use Rattle.atom_parts.proofs.SplitLaws.{follows, line_met}
use Rattle.atom_parts.proofs.parts.following_part.Goals as goal

pub next_part-requires-clause-from : goal.next_part-requires-clause-from
next_part-requires-clause-from c = c.spot_after.ensures.0

pub overflow_add-result : goal.overflow_add-result
overflow_add-result c =
    let w = c.args.parts in
    let q = c.in-Some.next in
    let is = c.in-Some.ensures.part in
    omega (arith, is.0.first, lines_few w.length 0 q.before c.requires.small, is.0.within is.1.0, is.1.0, c.requires.small)

pub returns-in-Some : goal.returns-in-Some
returns-in-Some c =
    let text = c.args.text.now in
    let w = c.args.parts in
    let q = c.in-Some.next in
    let is = c.in-Some.ensures.part in
    let within = c.requires.within in
    let whole = take w.length text in
    let ts = part_wanted text w in
    let xs = parts_of whole in
    let same : unifying ts (drop (line_at c.spot_after.result) xs) ≡ unifying ts (drop (suc (line_at c.args.spot)) xs) =
    ap (λ i. unifying ts (drop i xs)) c.spot_after.ensures.1 in
    follows ts xs (suc (line_at c.args.spot)) (line_at q) (part_line whole q.before q.count) (sym same ∙ c.in-Some.ensures.next)
    (line_met ts xs (line_at q) (part_line whole q.before q.count) (part_at_spot text w within q is.0 is.1.0)
    (sym (part_terms text w within q (is.0.within is.1.0)) ∙ is.1.1))

pub returns-in-None : goal.returns-in-None
returns-in-None c =
    let ts = part_wanted c.args.text.now c.args.parts in
    let xs = parts_of (take c.args.parts.length c.args.text.now) in
    ap (λ i. unifying ts (drop i xs)) (sym c.spot_after.ensures.1) ∙ c.in-None.ensures.next
