use Rattle.std.proofs.Common.{[], ◌∷◌}
use Rattle.std.proofs.lemmas.List.Elements.{All-cons, All-nil}
use Rattle.world_builtins.specs.Naming.{IsHeldAt}
use Rattle.atom_parts.specs.declared.misfits.Check.{Check}
use Rattle.atom_parts.specs.declared.misfits.Check.TheVariants.{Atom, Bound, Count}
use Rattle.atom_parts.specs.Misfits.{place_of}
use Rattle.atom_parts.proofs.sub_atoms.misfit_of.Goals as goal

pub returns-clause-held : goal.returns-clause-held
returns-clause-held c m hw hb hc ha hp =
    let P : Check → Type 0 = λ k. IsHeldAt m c.args.store.now (place_of k) in
    let a = c.args in
    c.first_misfit.ensures.held m
    (All-cons P (Bound a.whole) (Atom a.whole ∷ (Count a.before ∷ (Count a.count ∷ (Count a.after ∷ (Atom a.part ∷ []))))) hw
    (All-cons P (Atom a.whole) (Count a.before ∷ (Count a.count ∷ (Count a.after ∷ (Atom a.part ∷ [])))) hw
    (All-cons P (Count a.before) (Count a.count ∷ (Count a.after ∷ (Atom a.part ∷ []))) hb
    (All-cons P (Count a.count) (Count a.after ∷ (Atom a.part ∷ [])) hc
    (All-cons P (Count a.after) (Atom a.part ∷ []) ha (All-cons P (Atom a.part) [] hp (All-nil P)))))))
