use Rattle.std.proofs.Common.{◌≡◌, of_z, to_z, w64, Ok, Err, sym, ap, ap₂, subst, ◌∙◌, rules}
use Rattle.std.proofs.lemmas.Int.{to_z-of_z}
use Rattle.pl_model.specs.History.{proc}
use Rattle.pl_model.specs.Evaluables.{evaluated}
use Rattle.pl_model.specs.TermBuiltins.{compares_values, two, value_error}
use Rattle.world_builtins.specs.Spelling.{reads}
use Rattle.builtin_rows.specs.Given.{given}
use Rattle.builtin_rows.specs.Rows.{IsRow}
use Rattle.builtin_arithmetic.specs.Comparing.{holds_by, name_of}
use Rattle.builtin_arithmetic.specs.Values.{IsValueHeld, fault_of, value_of}
use Rattle.builtin_arithmetic.proofs.Answering.{both_known, error_row, right_fails}
use Rattle.builtin_arithmetic.proofs.comparing.compare_with.Goals as goal

pub returns-in_ok-row-in-Ok-clause-row : goal.returns-in_ok-row-in-Ok-clause-row
returns-in_ok-row-in-Ok-clause-row c m t texts known held next few =
    let s = c.args.store.now in
    let u = reads m s c.args.right in
    let p = proc (name_of c.args.comparison) 2 in
    let by = holds_by c.args.comparison in
    let x_same : to_z w64 (of_z w64 c.args.x) ≡ c.args.x = to_z-of_z w64 c.args.x c.ranges.x in
    let y_same : to_z w64 (of_z w64 c.in-Ok.y) ≡ c.in-Ok.y = search (rules, to_z-of_z) in
    let value : Ok c.in-Ok.y ≡ evaluated u = sym (ap (value_of m) c.in-Ok.is) ∙ c.in_ok-second.ensures.value m texts in
    subst (λ d. IsRow s next (two t u) (given p (two t u) next s.used s.budget d) m c.decided.new.store c.in_ok-row-in-Ok.row)
    (sym (both_known by t u c.args.x c.in-Ok.y c.holds.result known value (c.holds.ensures ∙ ap₂ by x_same y_same)))
    (c.in_ok-row-in-Ok.ensures.row m next p (two t u) few)

pub returns-in_ok-row-in-Err-clause-row : goal.returns-in_ok-row-in-Err-clause-row
returns-in_ok-row-in-Err-clause-row c m t texts known held next few =
    let s = c.args.store.now in
    let u = reads m s c.args.right in
    let f = fault_of m c.in-Err.fault in
    let by = holds_by c.args.comparison in
    let value : Err f ≡ evaluated u = sym (ap (value_of m) c.in-Err.is) ∙ c.in_ok-second.ensures.value m texts in
    error_row m s c.refused.new.store next (proc (name_of c.args.comparison) 2) (two t u) c.in_ok-row-in-Err.row (value_error f) (compares_values by t u)
    (right_fails by t u c.args.x f known value)
    (c.in_ok-row-in-Err.ensures.row m (name_of c.args.comparison) next (two t u) texts.stand
    (subst (IsValueHeld m) c.in-Err.is (c.in_ok-second.ensures.held m held)) c.predicate_name.ensures.name)
