use Rattle.std.proofs.Common.{◌<◌, List, map, Ok, sym, ap, subst, ◌∙◌, arith}
use Rattle.std.specs.List.{All}
use Rattle.pl_model.specs.Checks.{elements}
use Rattle.pl_model.specs.Terms.{arguments}
use Rattle.term_store.specs.declared.words.Place.{Place}
use Rattle.term_store.specs.Contents.{Holds}
use Rattle.world_builtins.specs.Naming.{IsHeldAt}
use Rattle.world_builtins.specs.Spelling.{reads}
use Rattle.shared_builtins.specs.declared.preds.StateThree.TheVariants.{CreateThread}
use Rattle.shared_builtins.specs.Following.{third_of}
use Rattle.shared_builtins.specs.Goals.{arity_of}
use Rattle.shared_builtins.specs.Names.{AreListed, AreListedIn}
use Rattle.shared_builtins.proofs.Creating.{fault_told, goal_third, no_list}
use Rattle.shared_builtins.proofs.GoalTerms.{held_in}
use Rattle.shared_builtins.proofs.refusals.option_fault.Goals as goal

pub options_at-requires : goal.options_at-requires
options_at-requires c =
    let s = c.args.store.now in
    let inside = subst (AreListedIn s) c.in-Terms.is c.in_ok-listed.ensures.inside in subst (All (Holds s)) (sym c.as_slice.ensures.value) inside

pub returns-in_ok-options-in-Terms-clause-error : goal.returns-in_ok-options-in-Terms-clause-error
returns-in_ok-options-in-Terms-clause-error c m n held =
    let s = c.args.store.now in
    let x = c.args.goal.now in
    let is = c.requires.goal in
    let p = c.argument-list.result in
    let at = c.argument-list.ensures.stands in
    let two : 2 < arity_of x.pred = subst (λ a. 2 < arity_of a) (sym c.requires.creates) (omega arith) in
    let hp = held_in m n.stands s x is held 2 p two at in
    let listed = subst (AreListed m s (elements (reads m s p))) c.in-Terms.is (c.in_ok-listed.ensures.listed m n hp) in
    let ps = c.as_slice.result.now in
    let same = sym c.as_slice.ensures.value in
    let read = listed.0 ∙ ap (λ (qs : List Place). Ok (map (reads m s) qs)) same in
    fault_told m s (third_of (arguments (reads m s x.place))) (reads m s p) ps c.in_ok-options-in-Terms.options (goal_third m n.stands s x is CreateThread p c.requires.creates at) read
    (c.in_ok-options-in-Terms.ensures.options m n (subst (All (IsHeldAt m s)) same listed.1))

pub returns-in-Refused-clause-error : goal.returns-in-Refused-clause-error
returns-in-Refused-clause-error c m n held =
    let s = c.args.store.now in
    let x = c.args.goal.now in
    let is = c.requires.goal in
    let p = c.argument-list.result in
    let at = c.argument-list.ensures.stands in
    let two : 2 < arity_of x.pred = subst (λ a. 2 < arity_of a) (sym c.requires.creates) (omega arith) in
    let hp = held_in m n.stands s x is held 2 p two at in
    let listed = subst (AreListed m s (elements (reads m s p))) c.in-Refused.is (c.in_ok-listed.ensures.listed m n hp) in
    no_list m s (third_of (arguments (reads m s x.place))) (reads m s p) _ (goal_third m n.stands s x is CreateThread p c.requires.creates at) listed.0
