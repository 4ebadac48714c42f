use Rattle.std.proofs.Common.{◌≡◌, of_z, to_z, w64, Ok, Err, sym, ap, subst, ◌∙◌, rules}
use Rattle.std.proofs.lemmas.Int.{to_z-of_z}
use Rattle.pl_model.specs.History.{proc}
use Rattle.pl_model.specs.Evaluables.{evaluated}
use Rattle.pl_model.specs.TermBuiltins.{compares_values, two, value_error}
use Rattle.world_builtins.specs.Spelling.{reads}
use Rattle.builtin_arithmetic.specs.Comparing.{holds_by, name_of}
use Rattle.builtin_arithmetic.specs.Values.{IsValueHeld, fault_of, value_of}
use Rattle.builtin_arithmetic.proofs.Answering.{error_row, left_fails}
use Rattle.builtin_arithmetic.proofs.comparing.compare_values.Goals as goal

pub returns-in_ok-row-in-Ok-clause-row : goal.returns-in_ok-row-in-Ok-clause-row
returns-in_ok-row-in-Ok-clause-row c m texts held held_too next few =
    let t = reads m c.args.store.now c.args.left in
    let same : to_z w64 (of_z w64 c.in-Ok.x) ≡ c.in-Ok.x = search (rules, to_z-of_z) in
    let value : Ok (to_z w64 (of_z w64 c.in-Ok.x)) ≡ evaluated t = ap Ok same ∙ sym (ap (value_of m) c.in-Ok.is) ∙ c.in_ok-first.ensures.value m texts in
    c.in_ok-row-in-Ok.ensures.row m t texts value held_too next few

pub returns-in_ok-row-in-Err-clause-row : goal.returns-in_ok-row-in-Err-clause-row
returns-in_ok-row-in-Err-clause-row c m texts held held_too next few =
    let s = c.args.store.now in
    let t = reads m s c.args.left in
    let u = reads m s c.args.right in
    let f = fault_of m c.in-Err.fault in
    let by = holds_by c.args.comparison in
    let value : Err f ≡ evaluated t = sym (ap (value_of m) c.in-Err.is) ∙ c.in_ok-first.ensures.value m texts in
    error_row m s c.refused.new.store next (proc (name_of c.args.comparison) 2) (two t u) c.in_ok-row-in-Err.row (value_error f) (compares_values by t u)
    (left_fails by t u f value)
    (c.in_ok-row-in-Err.ensures.row m (name_of c.args.comparison) next (two t u) texts.stand
    (subst (IsValueHeld m) c.in-Err.is (c.in_ok-first.ensures.held m held)) c.predicate_name.ensures.name)
