use Rattle.std.proofs.Common.{Some, codes, sym, subst, arith}
use Rattle.pl_model.specs.Terms.{arguments}
use Rattle.builtin_rows.proofs.Listing.{arguments_long}
use Rattle.term_store.specs.Contents.{arguments_at}
use Rattle.world_builtins.specs.Spelling.{reads}
use Rattle.shared_builtins.specs.declared.faults.Fault.TheVariants.{For}
use Rattle.shared_builtins.specs.Following.{first_of, kind_by}
use Rattle.shared_builtins.specs.Replies.{IsFaultNamed}
use Rattle.shared_builtins.proofs.Checking.{is_fixed_name}
use Rattle.shared_builtins.proofs.FixedNames.{existence_error_is}
use Rattle.shared_builtins.proofs.GoalTerms.{arity_some, held_in}
use Rattle.shared_builtins.proofs.ReplyRows.{compound_named, goal_first, named_text, variable_named}
use Rattle.shared_builtins.proofs.refusals.fault_named.Goals as goal

pub returns-in-Compound : goal.returns-in-Compound
returns-in-Compound c m n held =
    let s = c.args.store.now in
    let x = c.args.goal.now in
    let is = c.requires in
    let p = c.argument-first.result in
    let a = c.in-Compound in
    let k = named_text (kind_by x.pred) c.in-Some.kind c.in-Some.ensures in
    let f = For 84 c.in-Some.kind p in
    subst (λ o. IsFaultNamed m s o (first_of (arguments (reads m s x.place))) (Some f)) (sym k.1)
    (subst (λ t. IsFaultNamed m s (Some k.0) t (Some f)) (sym (goal_first m n.stands s x is p c.argument-first.ensures.stands)) (
      compound_named m s p c.in-Some.kind a.field-0 (arguments_at s a.field-1) k.0 k.2 a.ensures.0 (omega (arith, arguments_long s a.field-1 a.ensures.1.0, a.ensures.1.1)),
      (
        (is_fixed_name 84 (codes "existence_error") existence_error_is, (is_fixed_name c.in-Some.kind k.0 k.2, c.argument-first.ensures.holds)),
        held_in m n.stands s x is held 0 p (arity_some x.pred) c.argument-first.ensures.stands,
      ),
    ))

pub returns-in-Variable : goal.returns-in-Variable
returns-in-Variable c m n held =
    let s = c.args.store.now in
    let x = c.args.goal.now in
    let is = c.requires in
    let p = c.argument-first.result in
    let k = named_text (kind_by x.pred) c.in-Some.kind c.in-Some.ensures in
    let f = For 84 c.in-Some.kind p in
    subst (λ o. IsFaultNamed m s o (first_of (arguments (reads m s x.place))) (Some f)) (sym k.1)
    (subst (λ t. IsFaultNamed m s (Some k.0) t (Some f)) (sym (goal_first m n.stands s x is p c.argument-first.ensures.stands)) (
      variable_named m s p c.in-Some.kind _ k.0 k.2 c.in-Variable.ensures,
      (
        (is_fixed_name 84 (codes "existence_error") existence_error_is, (is_fixed_name c.in-Some.kind k.0 k.2, c.argument-first.ensures.holds)),
        held_in m n.stands s x is held 0 p (arity_some x.pred) c.argument-first.ensures.stands,
      ),
    ))
