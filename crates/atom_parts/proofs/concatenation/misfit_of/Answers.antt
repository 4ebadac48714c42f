use Rattle.std.proofs.Common.{[], ◌∷◌}
use Rattle.std.proofs.lemmas.List.Elements.{All-cons, All-nil}
use Rattle.world_builtins.specs.Naming.{IsHeldAt}
use Rattle.atom_parts.specs.declared.misfits.Check.{Check}
use Rattle.atom_parts.specs.declared.misfits.Check.TheVariants.{Atom, Bound}
use Rattle.atom_parts.specs.Misfits.{place_of}
use Rattle.atom_parts.proofs.concatenation.misfit_of.Goals as goal

pub returns-in-Some-clause-held : goal.returns-in-Some-clause-held
returns-in-Some-clause-held c m hf hs hw =
    let P : Check → Type 0 = λ k. IsHeldAt m c.args.store.now (place_of k) in
    c.in-Some.ensures.held m
    (All-cons P (Bound c.args.first) (Bound c.args.second ∷ []) hf (All-cons P (Bound c.args.second) [] hs (All-nil P)))

pub returns-clause-held : goal.returns-clause-held
returns-clause-held c m hf hs hw =
    let P : Check → Type 0 = λ k. IsHeldAt m c.args.store.now (place_of k) in
    c.first_misfit.ensures.held m
    (All-cons P (Atom c.args.first) (Atom c.args.second ∷ (Atom c.args.whole ∷ [])) hf
    (All-cons P (Atom c.args.second) (Atom c.args.whole ∷ []) hs (All-cons P (Atom c.args.whole) [] hw (All-nil P))))
