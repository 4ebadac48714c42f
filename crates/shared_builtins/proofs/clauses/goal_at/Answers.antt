use Rattle.std.proofs.Common.{codes, subst}
use Rattle.iso_search.specs.Conversions.{IsConverted}
use Rattle.shared_builtins.proofs.Checking.{for_term, is_fixed_name}
use Rattle.shared_builtins.proofs.FixedNames.{callable_is, type_error_is}
use Rattle.shared_builtins.proofs.HeldTexts.{goal_held}
use Rattle.shared_builtins.proofs.OverAtoms.{marked_over}
use Rattle.shared_builtins.proofs.Reading.{converted_read, never_converted, view_is, view_of}
use Rattle.shared_builtins.proofs.clauses.goal_at.Goals as goal

pub returns-in-Some-clause-goal : goal.returns-in-Some-clause-goal
returns-in-Some-clause-goal c m tells held =
    let s = c.args.store.now in
    let t = c.converted_at.new.store in
    let p = c.args.body in
    let q = c.in-Some.goal in
    let is = converted_read m s t p q (subst (IsConverted (view_of m) s p t) c.in-Some.is (c.in_ok-converted.ensures.converted (view_of m) (view_is m tells))) in (
      is,
      goal_held m tells.apart tells.naming.stands s t p q (marked_over s c.mark-whole.result p c.mark-whole.ensures.mark c.mark-whole.ensures.here c.requires) held is,
    )

pub returns-in-None-clause-goal : goal.returns-in-None-clause-goal
returns-in-None-clause-goal c m tells held =
    let s = c.args.store.now in
    let t = c.converted_at.new.store in
    let p = c.args.body in (
      never_converted m s t p (subst (IsConverted (view_of m) s p t) c.in-None.is (c.in_ok-converted.ensures.converted (view_of m) (view_is m tells))),
      (
        for_term m s p 177 54 (codes "type_error") (codes "callable") type_error_is callable_is,
        ((is_fixed_name 177 (codes "type_error") type_error_is, (is_fixed_name 54 (codes "callable") callable_is, c.requires)), held),
      ),
    )
