use Rattle.std.proofs.Common.{◌≡◌, IfSome, sym, ap, subst, ◌∙◌, rules, w64}
use Rattle.std.proofs.lemmas.Int.{to_z-of_z}
use mir.Val.{of_z, to_z}
use Rattle.pl_term.specs.Tree.{int}
use Rattle.term_store.specs.Contents.{Views}
use Rattle.iso_search.specs.Parts.{StandsFor}
use Rattle.iso_search.proofs.transfers.Copies.place_of.Goals as goal

pub returns-in-Variable : goal.returns-in-Variable
returns-in-Variable c s t term copies views =
    subst (λ x. IfSome c.variable.result (StandsFor t x)) (sym (subst (Views s term) c.in-Variable.is views)) (c.variable.ensures s t copies)

pub returns-in-Integer : goal.returns-in-Integer
returns-in-Integer c s t term copies views =
    let same : to_z w64 (of_z w64 c.in-Integer.i) ≡ c.in-Integer.i = search (rules, to_z-of_z) in
    record { holds = (c.integer.ensures t).0; means = (c.integer.ensures t).1 ∙ ap int same ∙ sym (subst (Views s term) c.in-Integer.is views) }

pub returns-in-Atom : goal.returns-in-Atom
returns-in-Atom c s t term copies views =
    record { holds = (c.atom.ensures t).0; means = (c.atom.ensures t).1 ∙ sym (subst (Views s term) c.in-Atom.is views) }
