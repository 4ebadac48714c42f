use Rattle.std.proofs.Common.{[], ◌∷◌}
use Rattle.std.specs.List.{All}
use Rattle.std.proofs.lemmas.List.Elements.{All-cons, All-nil}
use Rattle.pl_term.specs.Tree.{more, none}
use Rattle.pl_model.specs.Checks.{elements}
use Rattle.world_builtins.specs.Spelling.{reads}
use Rattle.shared_builtins.specs.declared.checks.Check.TheVariants.{Bound, Callable, Unbound}
use Rattle.shared_builtins.specs.Checks.{IsCheckHeld}
use Rattle.shared_builtins.specs.Faults.{fault_term}
use Rattle.shared_builtins.proofs.SharingThree.{options_passed, options_refused}
use Rattle.shared_builtins.proofs.three.creates_with_options.Goals as goal

pub returns-in-Some-clause-comes : goal.returns-in-Some-clause-comes
returns-in-Some-clause-comes c m n hp hq hr =
    let s = c.args.store.now in
    let p = c.args.first in
    let q = c.args.second in
    let P = IsCheckHeld m s in
    let all : All (IsCheckHeld m s) (Bound p ∷ (Callable p ∷ (Unbound q ∷ []))) =
    All-cons P (Bound p) (Callable p ∷ (Unbound q ∷ [])) hp (All-cons P (Callable p) (Unbound q ∷ []) hp (All-cons P (Unbound q) [] hq (All-nil P))) in (
      options_refused m n s p q c.args.third (fault_term m s c.in-Some.fault) (c.in-Some.ensures.error m n all),
      (c.in-Some.ensures.inside, c.in-Some.ensures.held m all),
    )

pub returns-in_ok-shared-in-None-clause-comes : goal.returns-in_ok-shared-in-None-clause-comes
returns-in_ok-shared-in-None-clause-comes c m n hp hq hr =
    let s = c.args.store.now in
    let p = c.args.first in
    let q = c.args.second in
    let r = c.args.third in
    let P = IsCheckHeld m s in
    let all : All (IsCheckHeld m s) (Bound p ∷ (Callable p ∷ (Unbound q ∷ []))) =
    All-cons P (Bound p) (Callable p ∷ (Unbound q ∷ [])) hp (All-cons P (Callable p) (Unbound q ∷ []) hp (All-cons P (Unbound q) [] hq (All-nil P))) in
    options_passed m n s p q r c.in_ok-shared-in-None.shared (c.in-None.ensures.error m n all)
    (c.in_ok-shared-in-None.ensures.comes m (elements (reads m s r)) (λ t. more (reads m s p) (more t (more (reads m s r) none)))
    (more (reads m s p) (more (reads m s q) (more (reads m s r) none))) n hp (c.in_ok-listed-in-None.ensures.listed m n hr))
