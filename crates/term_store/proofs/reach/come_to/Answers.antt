use Rattle.std.proofs.Common.{[], ◌∷◌, get_or, inl, sym, ap, subst, ◌∙◌}
use Rattle.std.proofs.lemmas.List.Elements.{Contains-push}
use Rattle.term_store.specs.Cells.{heap_of}
use Rattle.term_store.specs.Fit.{no_head}
use Rattle.term_store.specs.Live.{Gathers}
use Rattle.term_store.specs.Reaches.{IsDone}
use Rattle.term_store.proofs.Reaching.{atom_told, gathering_leaf, gathering_open}
use Rattle.term_store.proofs.reach.come_to.Goals as goal

pub returns-in-Var : goal.returns-in-Var
returns-in-Var c root next before means g =
    gathering_leaf (heap_of c.args.cells.now) root before c.args.walk.now.items next c.args.at c.args.seen.now.list.items c.args.live.now c.args.live.now means
    c.requires.free c.requires.inside (subst (IsDone c.args.seen.now.list.items c.args.live.now) (sym c.in-Var.is) tt) (λ a k. k) (λ a k. inl k) g

pub returns-in-Int : goal.returns-in-Int
returns-in-Int c root next before means g =
    gathering_leaf (heap_of c.args.cells.now) root before c.args.walk.now.items next c.args.at c.args.seen.now.list.items c.args.live.now c.args.live.now means
    c.requires.free c.requires.inside (subst (IsDone c.args.seen.now.list.items c.args.live.now) (sym c.in-Int.is) tt) (λ a k. k) (λ a k. inl k) g

pub returns-in_ok-insert-in-Atom : goal.returns-in_ok-insert-in-Atom
returns-in_ok-insert-in-Atom c root next before means g =
    let seen = c.args.seen.now.list.items in
    let put : Gathers (c.in-Atom.a ∷ []) c.args.live.now c.insert.new.self =
    subst (λ a. Gathers (a ∷ []) c.args.live.now c.insert.new.self) c.at.ensures c.in_ok-insert-in-Atom.ensures in
    gathering_leaf (heap_of c.args.cells.now) root before c.args.walk.now.items next c.args.at seen c.args.live.now c.insert.new.self means
    c.requires.free c.requires.inside
    (subst (IsDone seen c.insert.new.self) (sym c.in-Atom.is) (put.all c.in-Atom.a (Contains-push [] c.in-Atom.a))) put.kept
    (atom_told (heap_of c.args.cells.now) c.args.at c.in-Atom.a c.args.live.now c.insert.new.self c.in-Atom.is put) g

pub returns-then-holds : goal.returns-then-holds
returns-then-holds c root next before means g =
    gathering_leaf (heap_of c.args.cells.now) root before c.args.walk.now.items next c.args.at c.args.seen.now.list.items c.args.live.now c.args.live.now means
    c.requires.free c.requires.inside (subst (IsDone c.args.seen.now.list.items c.args.live.now) (sym c.in-Comp.is) (c.holds.ensures c.if-holds.true))
    (λ a k. k) (λ a k. inl k) g

pub returns-in_ok-push_words-in-Comp : goal.returns-in_ok-push_words-in-Comp
returns-in_ok-push_words-in-Comp c root next before means g =
    let h = heap_of c.args.cells.now in
    let put : Gathers ((get_or h.heads c.in-Comp.k no_head).name ∷ []) c.args.live.now c.insert-in-Comp.new.self =
    subst (λ a. Gathers (a ∷ []) c.args.live.now c.insert-in-Comp.new.self) (c.at-in-Comp.ensures ∙ ap (λ f. f.name) c.head_at.ensures) c.in_ok-insert-in-Comp.ensures in
    gathering_open h root before c.args.walk.now.items c.push_words.new.walk.items next c.args.at c.in-Comp.k
    c.args.seen.now.list.items c.args.live.now c.add.new.self.list.items c.insert-in-Comp.new.self c.requires.fit.fit c.in-Comp.is means c.requires.free
    c.requires.inside c.in_ok-push_words-in-Comp.ensures c.in_ok-add-in-Comp.ensures put g
