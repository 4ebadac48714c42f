use Rattle.std.proofs.Common.{[], ◌∷◌, arith}
use Rattle.std.specs.List.{All}
use Rattle.std.proofs.lemmas.List.Elements.{All-cons, All-nil}
use Rattle.shared_builtins.specs.declared.checks.Check.TheVariants.{Atom, Bound}
use Rattle.shared_builtins.specs.Checks.{IsCheckHeld}
use Rattle.shared_builtins.proofs.Indicating.{atom_passed, name_held}
use Rattle.shared_builtins.proofs.Naming.{name_told}
use Rattle.shared_builtins.proofs.names.name_at.Goals as goal

pub atom_at-name-requires-clause-is_atom : goal.atom_at-name-requires-clause-is_atom
atom_at-name-requires-clause-is_atom c =
    let all = c.in-None.ensures.passed in atom_passed _ (all 0 (Bound c.args.place) (omega arith)) (all 1 (Bound c.args.place) (omega arith))

pub returns-in-Some : goal.returns-in-Some
returns-in-Some c m n held =
    let P = IsCheckHeld m c.args.store.now in
    let p = c.args.place in
    let all : All (IsCheckHeld m c.args.store.now) (Bound p ∷ (Atom p ∷ [])) = All-cons P (Bound p) (Atom p ∷ []) held (All-cons P (Atom p) [] held (All-nil P)) in
    (c.in-Some.ensures.error m n all, (c.in-Some.ensures.inside, c.in-Some.ensures.held m all))

pub returns-in-None : goal.returns-in-None
returns-in-None c m n held =
    let s = c.args.store.now in (
      name_told m s c.args.place c.atom_at-name.result c.atom_at-name.ensures,
      name_held m s c.args.place c.atom_at-name.result c.atom_at-name.ensures held,
    )
