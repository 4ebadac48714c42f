use Rattle.std.proofs.Common.{◌≡◌, rules, sym, ap, ◌∙◌, w64}
use Rattle.std.proofs.lemmas.Int.{to_z-of_z}
use mir.Val.{of_z, to_z}
use Rattle.pl_term.specs.Tree.{int}
use Rattle.iso_search.specs.Spelling.{spelled, text_of}
use Rattle.iso_search.specs.Told.{constant_term}
use Rattle.iso_engine.proofs.rows.told.constant_place.Goals as goal

pub returns-in-Int : goal.returns-in-Int
returns-in-Int c s =
    let same : to_z w64 (of_z w64 c.in-Int.i) ≡ c.in-Int.i = search (rules, to_z-of_z) in (
      (c.integer.ensures s).0,
      λ v. ap (spelled (text_of v.names)) (c.integer.ensures s).1 ∙ ap int same ∙ ap (constant_term v.names) (sym c.in-Int.is),
    )

pub returns-in-Atom : goal.returns-in-Atom
returns-in-Atom c s = (
  (c.atom.ensures s).0,
  λ v. ap (spelled (text_of v.names)) (c.atom.ensures s).1 ∙ ap (constant_term v.names) (sym c.in-Atom.is),
)
