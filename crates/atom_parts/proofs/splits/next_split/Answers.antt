use Rattle.std.proofs.Common.{◌≡◌, ◌≤◌, ◌+◌, true, suc, take, drop, sym, ap, ◌∙◌, arith}
use Rattle.pl_model.specs.BuiltinRows.{unifying}
use Rattle.atom_parts.specs.Columns.{does_unify}
use Rattle.atom_parts.specs.Splits.{split_columns, split_line, split_wanted, splits_of}
use Rattle.atom_parts.proofs.SplitLaws.{line_columns, line_met, line_passed, no_more, split_at_place}
use Rattle.atom_parts.proofs.splits.next_split.Goals as goal

pub returns-then-unifies : goal.returns-then-unifies
returns-then-unifies c =
    let text = c.args.text.now in
    let w = c.args.splits in
    let k = c.loop-at.at in
    let within = c.requires.within in
    let le : k ≤ w.length = c.loop-at-test.true in
    let met : does_unify text (split_columns w k) ≡ true =
    ap (does_unify text) (sym c.split_columns.ensures) ∙ sym c.unifies.ensures ∙ c.if-unifies.true in
    record {
      next =
          c.loop-at.invariant
          ∙ line_met (split_wanted text w) (splits_of (take w.length text)) k (split_line (take w.length text) k) (split_at_place text w within k le)
          (sym (line_columns text w within k le) ∙ met);
      splits = (le, met);
    }

pub loop-at-preserved : goal.loop-at-preserved
loop-at-preserved c =
    let text = c.args.text.now in
    let w = c.args.splits in
    let k = c.loop-at.at in
    let within = c.requires.within in
    let le : k ≤ w.length = c.loop-at-test.true in
    let next : suc k ≡ k + 1 = omega arith in
    c.loop-at.invariant
    ∙ line_passed (split_wanted text w) (splits_of (take w.length text)) k (split_line (take w.length text) k) (split_at_place text w within k le)
    (sym (line_columns text w within k le) ∙ ap (does_unify text) (sym c.split_columns.ensures) ∙ sym c.unifies.ensures ∙ c.if-unifies.false)
    ∙ ap (λ j. unifying (split_wanted text w) (drop j (splits_of (take w.length text)))) next

pub returns : goal.returns
returns c =
    record {
      next = c.loop-at.invariant ∙ no_more c.args.text.now c.args.splits c.requires.within c.loop-at.at c.loop-at-test.false;
      splits = tt;
    }
