use Rattle.std.proofs.Common.{IfOk, map, refl, sym, ap, subst, ◌∙◌}
use Rattle.pl_term.specs.Tree.{compound}
use Rattle.term_store.specs.Heap.{Heap, atom_name}
use Rattle.term_store.specs.Cells.{heap_of}
use Rattle.term_store.specs.Contents.{Adds, Contents, Makes, term_at}
use Rattle.term_store.proofs.Storing.{adds_of, adds_none, makes_compound}
use Rattle.term_store.proofs.store.Store.make_compound.Goals.{in-Ok, in-Err}
use Rattle.term_store.proofs.store.Store.make_compound.Goals as goal

pub returns-clause-made : goal.returns-clause-made
returns-clause-made c =
    let before : Contents = record { heap = heap_of c.self.inside.cells; used = c.self.inside.used; budget = c.self.inside.budget } in
    let after : Contents = record { heap = heap_of c.make_compound.new.cells; used = c.self.inside.used; budget = c.self.inside.budget } in
    let term = compound (atom_name c.args.name) (map (term_at c.args.self.now) c.args.arguments.now) in
    elim c.match-make_compound.branch [
      | in-Ok w ↦
          subst (λ r. IfOk r (Makes c.args.self.now term after)) (sym w.result-is)
          (subst (λ n. Makes c.args.self.now (compound (atom_name n) (map (term_at c.args.self.now) c.args.arguments.now)) after (record { word = w.in-Ok.word })) c.slot.ensures
          (makes_compound c.args.self.now before after c.slot.result c.args.arguments.now (record { word = w.in-Ok.word }) c.self.view_is refl refl w.in-Ok.ensures.made))
      | in-Err w ↦ subst (λ r. IfOk r (Makes c.args.self.now term after)) (sym w.result-is) tt
    ]

pub returns-clause-adds : goal.returns-clause-adds
returns-clause-adds c =
    let before : Contents = record { heap = heap_of c.self.inside.cells; used = c.self.inside.used; budget = c.self.inside.budget } in
    let after : Contents = record { heap = heap_of c.make_compound.new.cells; used = c.self.inside.used; budget = c.self.inside.budget } in
    let kept : Heap → Contents = λ h. record { heap = h; used = c.self.inside.used; budget = c.self.inside.budget } in
    elim c.match-make_compound.branch as (λ _. Adds c.args.self.now after) [
      | in-Ok w ↦ adds_of c.args.self.now before after c.self.view_is w.in-Ok.ensures.made.longer refl refl
      | in-Err w ↦ adds_none c.args.self.now after (ap kept w.in-Err.ensures.kept ∙ c.self.view_is)
    ]
