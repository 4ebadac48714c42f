use Rattle.std.proofs.Common.{◌≡◌, map, sym, ap, subst, ◌∙◌}
use Rattle.std.specs.List.{All}
use Rattle.pl_model.specs.SharedBuiltins.{creates_with, on_ok, options_of}
use Rattle.world_builtins.specs.Naming.{IsHeldAt}
use Rattle.world_builtins.specs.Spelling.{reads}
use Rattle.shared_builtins.specs.Names.{AreListed}
use Rattle.shared_builtins.specs.Options.{options_read}
use Rattle.shared_builtins.specs.Shared.{ComesTo}
use Rattle.shared_builtins.proofs.three.creates_listed.Goals as goal

pub returns-in_ok-shared-in-Terms-clause-comes : goal.returns-in_ok-shared-in-Terms-clause-comes
returns-in_ok-shared-in-Terms-clause-comes c m x terms ts n held listed =
    let s = c.args.store.now in
    let g = reads m s c.args.goal in
    let l = subst (AreListed m s x) c.in-Terms.is listed in
    let e = c.as_slice.ensures.value in
    let given = c.in_ok-options-in-Terms.options in
    let o = c.in_ok-options-in-Terms.ensures.options m n (subst (All (IsHeldAt m s)) (sym e) l.1) in
    let read : options_of (map (reads m s) c.in-Terms.terms.items) ≡ options_read m s given =
    subst (λ ps. options_of (map (reads m s) ps) ≡ options_read m s given) e o.options in
    subst (λ d. ComesTo m s ts d c.in_ok-shared-in-Terms.shared)
    (sym (ap (λ y. on_ok y (λ os. creates_with g terms (options_of os))) l.0 ∙ ap (creates_with g terms) read))
    (c.in_ok-shared-in-Terms.ensures.comes m terms ts n held (o.held, o.fault_held))

pub returns-in-Refused-clause-comes : goal.returns-in-Refused-clause-comes
returns-in-Refused-clause-comes c m x terms ts n held listed =
    let s = c.args.store.now in
    let l = subst (AreListed m s x) c.in-Refused.is listed in
    (ap (λ y. on_ok y (λ os. creates_with (reads m s c.args.goal) terms (options_of os))) l.0, l.1)
