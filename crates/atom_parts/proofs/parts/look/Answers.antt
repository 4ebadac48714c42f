use Rattle.std.proofs.Common.{◌≡◌, ◌≤◌, true, false, take, drop, sym, ap, ◌∙◌, arith}
use Rattle.pl_model.specs.BuiltinRows.{unifying}
use Rattle.atom_parts.specs.Columns.{does_unify}
use Rattle.atom_parts.specs.Parts.{line_at, part_columns, part_line, part_wanted, parts_of}
use Rattle.atom_parts.proofs.PartLaws.{part_at_spot, part_terms}
use Rattle.atom_parts.proofs.SplitLaws.{line_met, line_passed}
use Rattle.atom_parts.proofs.parts.look.Goals as goal

pub returns-then-unifies : goal.returns-then-unifies
returns-then-unifies c =
    let text = c.args.text.now in
    let w = c.args.parts in
    let p = c.in-Some.found in
    let found = c.in-Some.ensures in
    let within = c.requires.within in
    let le : p.before ≤ w.length = omega (arith, found.1.0, c.requires.inside) in
    let whole = take w.length text in
    let met : does_unify text (part_columns w p) ≡ true =
    ap (does_unify text) (sym c.part_columns.ensures) ∙ sym c.unifies.ensures ∙ c.if-unifies.true in
    record {
      next =
          found.1.1.1
          ∙ line_met (part_wanted text w) (parts_of whole) (line_at p) (part_line whole p.before p.count) (part_at_spot text w within p found.0 le)
          (sym (part_terms text w within p (found.0.within le)) ∙ met);
      part = (found.0, (le, met));
    }

pub returns : goal.returns
returns c =
    let text = c.args.text.now in
    let w = c.args.parts in
    let p = c.in-Some.found in
    let found = c.in-Some.ensures in
    let within = c.requires.within in
    let le : p.before ≤ w.length = omega (arith, found.1.0, c.requires.inside) in
    let whole = take w.length text in
    let next = c.spot_after.ensures in
    let differs : does_unify text (part_columns w p) ≡ false =
    ap (does_unify text) (sym c.part_columns.ensures) ∙ sym c.unifies.ensures ∙ c.if-unifies.false in (
      next.0,
      (
        omega (arith, next.1, found.1.1.0),
        found.1.1.1
            ∙ line_passed (part_wanted text w) (parts_of whole) (line_at p) (part_line whole p.before p.count) (part_at_spot text w within p found.0 le)
            (sym (part_terms text w within p (found.0.within le)) ∙ differs)
            ∙ ap (λ i. unifying (part_wanted text w) (drop i (parts_of whole))) (sym next.1),
      ),
    )
