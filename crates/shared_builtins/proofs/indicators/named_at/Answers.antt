use Rattle.std.proofs.Common.{[], ◌∷◌, arith}
use Rattle.std.specs.List.{All}
use Rattle.std.proofs.lemmas.List.Elements.{All-cons, All-nil}
use Rattle.world_builtins.specs.Spelling.{reads}
use Rattle.world_api.specs.declared.visit.Procedure.{Procedure}
use Rattle.shared_builtins.specs.declared.checks.Check.TheVariants.{Atom, Bound, Integer, Natural}
use Rattle.shared_builtins.specs.Checks.{IsCheckHeld}
use Rattle.shared_builtins.specs.Faults.{fault_term}
use Rattle.shared_builtins.proofs.Indicating.{atom_passed, name_held, named_refused, named_told, natural_passed}
use Rattle.shared_builtins.proofs.indicators.named_at.Goals as goal

pub atom_at-name-requires-clause-is_atom : goal.atom_at-name-requires-clause-is_atom
atom_at-name-requires-clause-is_atom c =
    let all = c.in-None.ensures.passed in
    atom_passed _ (all 0 (Bound c.args.name) (omega arith)) (all 2 (Bound c.args.name) (omega arith))

pub natural_at-arity-requires-clause-is_natural : goal.natural_at-arity-requires-clause-is_natural
natural_at-arity-requires-clause-is_natural c =
    let all = c.in-None.ensures.passed in
    natural_passed _ (all 1 (Bound c.args.name) (omega arith)) (all 3 (Bound c.args.name) (omega arith)) (all 4 (Bound c.args.name) (omega arith))

pub returns-in-Some : goal.returns-in-Some
returns-in-Some c m n hf hn =
    let s = c.args.store.now in
    let f = c.args.name in
    let k = c.args.arity in
    let P = IsCheckHeld m s in
    let all : All (IsCheckHeld m s) (Bound f ∷ (Bound k ∷ (Atom f ∷ (Integer k ∷ (Natural k ∷ []))))) =
    All-cons P (Bound f) (Bound k ∷ (Atom f ∷ (Integer k ∷ (Natural k ∷ [])))) hf
    (All-cons P (Bound k) (Atom f ∷ (Integer k ∷ (Natural k ∷ []))) hn
    (All-cons P (Atom f) (Integer k ∷ (Natural k ∷ [])) hf (All-cons P (Integer k) (Natural k ∷ []) hn (All-cons P (Natural k) [] hn (All-nil P))))) in (
      named_refused (reads m s f) (reads m s k) (fault_term m s c.in-Some.fault) (c.in-Some.ensures.error m n all),
      (c.in-Some.ensures.inside, c.in-Some.ensures.held m all),
    )

pub returns-in-None : goal.returns-in-None
returns-in-None c m n hf hn =
    let s = c.args.store.now in
    let q : Procedure = record { name = c.atom_at-name.result; arity = c.natural_at-arity.result } in
    (named_told m s c.args.name c.args.arity q c.atom_at-name.ensures c.natural_at-arity.ensures, name_held m s c.args.name c.atom_at-name.result c.atom_at-name.ensures hf)
