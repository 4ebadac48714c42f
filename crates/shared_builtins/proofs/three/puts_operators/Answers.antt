use Rattle.std.proofs.Common.{◌≤◌, [], ◌∷◌, arith}
use Rattle.std.specs.List.{All}
use Rattle.std.proofs.lemmas.List.Elements.{All-cons, All-nil}
use Rattle.term_store.specs.Contents.{term_at}
use Rattle.shared_builtins.specs.declared.checks.Check.TheVariants.{Atom, Bound, Integer, Priority, Specifier}
use Rattle.shared_builtins.specs.Checks.{IsCheckHeld}
use Rattle.shared_builtins.specs.Faults.{fault_term}
use Rattle.shared_builtins.proofs.Indicating.{atom_passed, name_held}
use Rattle.shared_builtins.proofs.SharingThree.{op_refused, operators_put, priority_natural, priority_small, specifier_some}
use Rattle.shared_builtins.proofs.three.puts_operators.Goals as goal

pub atom_at-specifier-requires-clause-is_atom : goal.atom_at-specifier-requires-clause-is_atom
atom_at-specifier-requires-clause-is_atom c =
    let all = c.in-None.ensures.passed in atom_passed _ (all 1 (Bound c.args.first) (omega arith)) (all 5 (Bound c.args.first) (omega arith))

pub natural_at-number-requires-clause-is_natural : goal.natural_at-number-requires-clause-is_natural
natural_at-number-requires-clause-is_natural c =
    let all = c.in-None.ensures.passed in
    priority_natural _ (all 0 (Bound c.args.first) (omega arith)) (all 3 (Bound c.args.first) (omega arith)) (all 4 (Bound c.args.first) (omega arith))

pub overflow_cast-priority : goal.overflow_cast-priority
overflow_cast-priority c =
    let all = c.in-None.ensures.passed in
    let k = c.natural_at-number.result in
    let small : k ≤ 1200 = priority_small (term_at c.args.store.now c.args.first) k c.natural_at-number.ensures (all 4 (Bound c.args.first) (omega arith)) in
    omega (arith, small)

pub returns-in-Some : goal.returns-in-Some
returns-in-Some c m n hp hq hr =
    let s = c.args.store.now in
    let p = c.args.first in
    let q = c.args.second in
    let r = c.args.third in
    let P = IsCheckHeld m s in
    let all : All (IsCheckHeld m s) (Bound p ∷ (Bound q ∷ (Bound r ∷ (Integer p ∷ (Priority p ∷ (Atom q ∷ (Specifier q ∷ []))))))) =
    All-cons P (Bound p) (Bound q ∷ (Bound r ∷ (Integer p ∷ (Priority p ∷ (Atom q ∷ (Specifier q ∷ [])))))) hp
    (All-cons P (Bound q) (Bound r ∷ (Integer p ∷ (Priority p ∷ (Atom q ∷ (Specifier q ∷ []))))) hq
    (All-cons P (Bound r) (Integer p ∷ (Priority p ∷ (Atom q ∷ (Specifier q ∷ [])))) hr
    (All-cons P (Integer p) (Priority p ∷ (Atom q ∷ (Specifier q ∷ []))) hp
    (All-cons P (Priority p) (Atom q ∷ (Specifier q ∷ [])) hp (All-cons P (Atom q) (Specifier q ∷ []) hq (All-cons P (Specifier q) [] hq (All-nil P))))))) in (
      op_refused m n s p q r (fault_term m s c.in-Some.fault) (c.in-Some.ensures.error m n all),
      (c.in-Some.ensures.inside, c.in-Some.ensures.held m all),
    )

pub returns-in_ok-names-in-None : goal.returns-in_ok-names-in-None
returns-in_ok-names-in-None c m n hp hq hr =
    let s = c.args.store.now in
    let p = c.args.first in
    let q = c.args.second in
    let r = c.args.third in
    let a = c.atom_at-specifier.result in
    let k = c.natural_at-number.result in
    let P = IsCheckHeld m s in
    let passed = c.in-None.ensures.passed in
    let all : All (IsCheckHeld m s) (Bound p ∷ (Bound q ∷ (Bound r ∷ (Integer p ∷ (Priority p ∷ (Atom q ∷ (Specifier q ∷ []))))))) =
    All-cons P (Bound p) (Bound q ∷ (Bound r ∷ (Integer p ∷ (Priority p ∷ (Atom q ∷ (Specifier q ∷ [])))))) hp
    (All-cons P (Bound q) (Bound r ∷ (Integer p ∷ (Priority p ∷ (Atom q ∷ (Specifier q ∷ []))))) hq
    (All-cons P (Bound r) (Integer p ∷ (Priority p ∷ (Atom q ∷ (Specifier q ∷ [])))) hr
    (All-cons P (Integer p) (Priority p ∷ (Atom q ∷ (Specifier q ∷ []))) hp
    (All-cons P (Priority p) (Atom q ∷ (Specifier q ∷ [])) hp (All-cons P (Atom q) (Specifier q ∷ []) hq (All-cons P (Specifier q) [] hq (All-nil P))))))) in
    operators_put m n s p q r a k c.in_ok-names-in-None.names c.puts_named.result c.puts_named.ensures c.natural_at-number.ensures c.atom_at-specifier.ensures
    (name_held m s q a c.atom_at-specifier.ensures hq) (specifier_some (term_at s q) a c.atom_at-specifier.ensures (passed 6 (Bound p) (omega arith)))
    (c.in-None.ensures.error m n all) (c.in_ok-names-in-None.ensures m n hr)
