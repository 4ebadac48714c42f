use Rattle.std.proofs.Common.{◌≡◌, List, refl, ap, sym, subst, ◌∙◌}
use Rattle.std.specs.List.{list_any}
use Rattle.pl_term.specs.Tree.{Chars}
use Rattle.pl_model.specs.SharedState.{with_operators}
use Rattle.source_check.specs.Listings.{operators_of}
use Rattle.source_check.specs.declared.change.Change.{Change}
use Rattle.source_check.specs.GoalNodes.{after}
use Rattle.source_check.specs.Checkers.{Stands, effect_of, refuses}
use Rattle.source_check.proofs.Lines.{on_ok, put_stands, refused_stands}
use Rattle.source_check.proofs.checker.Checker.make.Goals as goal

pub returns-then-is_any_refused-clause-stands : goal.returns-then-is_any_refused-clause-stands
returns-then-is_any_refused-clause-stands c name d s =
    subst
    (λ (x : Change). Stands name c.args.self.now (after (effect_of x) d))
    (sym c.in-Operators.is)
    (refused_stands name c.args.self.now d c.in-Operators.priority c.in-Operators.kind c.in-Operators.names.items s
    (ap (λ (fs : List Chars). list_any (refuses c.args.self.now.operators c.in-Operators.priority c.in-Operators.kind) fs) (sym c.as_slice.ensures.value)
    ∙ (sym c.is_any_refused.ensures ∙ c.if-is_any_refused.true)))

pub returns-else-is_any_refused-clause-stands : goal.returns-else-is_any_refused-clause-stands
returns-else-is_any_refused-clause-stands c name d s =
    on_ok c.put_operators.result
    (λ e.
    subst
    (λ (x : Change). Stands name (record c.args.self.now { operators = c.put_operators.new.table }) (after (effect_of x) d))
    (sym c.in-Operators.is)
    (put_stands name c.args.self.now (record c.args.self.now { operators = c.put_operators.new.table }) d c.in-Operators.priority c.in-Operators.kind c.in-Operators.names.items s
    (ap (λ (fs : List Chars). list_any (refuses c.args.self.now.operators c.in-Operators.priority c.in-Operators.kind) fs) (sym c.as_slice.ensures.value)
    ∙ (sym c.is_any_refused.ensures ∙ c.if-is_any_refused.false))
    (subst (λ (fs : List Chars). c.put_operators.new.table ≡ with_operators (operators_of c.in-Operators.priority c.in-Operators.kind fs) c.args.self.now.operators) c.as_slice-in-Operators.ensures.value e)
    refl refl refl refl refl refl))
    c.put_operators.ensures
