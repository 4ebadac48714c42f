use Rattle.std.proofs.Common.{IfOk, [], ◌∷◌, refl, sym, ap, subst, ◌∙◌}
use Rattle.pl_term.specs.Tree.{var}
use Rattle.term_store.specs.Cells.{heap_of}
use Rattle.term_store.specs.Heap.{Heap}
use Rattle.term_store.specs.Contents.{Adds, Contents, Makes}
use Rattle.term_store.proofs.Loading.{longer_numbers}
use Rattle.term_store.proofs.Storing.{adds_of, adds_none, makes_variable}
use Rattle.term_store.proofs.store.Store.make_variable.Goals.{in-Ok, in-Err}
use Rattle.term_store.proofs.store.Store.make_variable.Goals as goal

pub returns-clause-made : goal.returns-clause-made
returns-clause-made c =
    let before : Contents = record { heap = heap_of c.self.inside.cells; used = c.self.inside.used; budget = c.self.inside.budget } in
    let after : Contents = record { heap = heap_of c.make_variable.new.cells; used = c.self.inside.used; budget = c.self.inside.budget } in
    elim c.match-make_variable.branch [
      | in-Ok w ↦
          subst (λ r. IfOk r (Makes c.args.self.now (var c.args.number) after)) (sym w.result-is)
          (makes_variable c.args.self.now before after c.args.number _ c.self.view_is refl refl c.self.invariant.0.fit c.make_variable.ensures.fit.fit w.in-Ok.ensures.made
          w.in-Ok.ensures.slot)
      | in-Err w ↦ subst (λ r. IfOk r (Makes c.args.self.now (var c.args.number) after)) (sym w.result-is) tt
    ]

pub returns-clause-adds : goal.returns-clause-adds
returns-clause-adds c =
    let before : Contents = record { heap = heap_of c.self.inside.cells; used = c.self.inside.used; budget = c.self.inside.budget } in
    let after : Contents = record { heap = heap_of c.make_variable.new.cells; used = c.self.inside.used; budget = c.self.inside.budget } in
    let kept : Heap → Contents = λ h. record { heap = h; used = c.self.inside.used; budget = c.self.inside.budget } in
    elim c.match-make_variable.branch as (λ _. Adds c.args.self.now after) [
      | in-Ok w ↦
          adds_of c.args.self.now before after c.self.view_is
          (longer_numbers (heap_of c.self.inside.cells) (heap_of c.make_variable.new.cells) (c.args.number ∷ []) w.in-Ok.ensures.made) refl refl
      | in-Err w ↦ adds_none c.args.self.now after (ap kept w.in-Err.ensures.kept ∙ c.self.view_is)
    ]
