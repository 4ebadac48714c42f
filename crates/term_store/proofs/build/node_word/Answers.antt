use Rattle.std.proofs.Common.{◌≡◌, ◌+◌, ◌-◌, ◌<◌, length, sym, ap, subst, ◌∙◌, arith, rules}
use Rattle.term_store.specs.Cells.{heap_of}
use Rattle.term_store.specs.declared.words.Word.TheVariants as words
use Rattle.pl_term.specs.Tree.{more}
use Rattle.term_store.specs.Heap.{meaning, numbered}
use mir.Val.{of_z, to_z}
use mir.Syntax.{w64}
use Rattle.std.proofs.lemmas.Int.{to_z-of_z}
use Rattle.term_store.specs.Nodes.{IsNodeBelow, IsNodeReady, placed, standing}
use Rattle.term_store.proofs.Stacking.{gains_none, var_placed, int_placed, atom_placed, joined_gains, joined_words, joined_placed}
use Rattle.term_store.proofs.build.node_word.Goals as goal

pub returns-in-Var-clause-gains : goal.returns-in-Var-clause-gains
returns-in-Var-clause-gains c = gains_none (heap_of c.args.cells.now)

pub returns-in-Int-clause-gains : goal.returns-in-Int-clause-gains
returns-in-Int-clause-gains c = gains_none (heap_of c.args.cells.now)

pub returns-in-Atom-clause-gains : goal.returns-in-Atom-clause-gains
returns-in-Atom-clause-gains c = gains_none (heap_of c.args.cells.now)

pub returns-in-Var-clause-placed : goal.returns-in-Var-clause-placed
returns-in-Var-clause-placed c =
    let h = heap_of c.args.cells.now in
    let below : c.in-Var.x < length h.numbers - c.args.base = subst (IsNodeBelow (length h.numbers - c.args.base)) c.in-Var.is c.requires.below in
    let lt : c.args.base + c.in-Var.x < length h.numbers = omega arith in
    var_placed h c.args.stack.now.items c.args.base c.in-Var.x (λ x. x) c.requires.fit.fit lt c.requires.fresh
    ∙ ap (λ n. placed (λ x. numbered h (c.args.base + x)) n (standing h c.args.stack.now.items)) (sym c.in-Var.is)

pub returns-in-Int-clause-placed : goal.returns-in-Int-clause-placed
returns-in-Int-clause-placed c =
    let h = heap_of c.args.cells.now in
    let same : to_z w64 (of_z w64 c.in-Int.i) ≡ c.in-Int.i = search (rules, to_z-of_z) in
    ap (λ n. more (meaning h (words.Int n)) (standing h c.args.stack.now.items)) same ∙ int_placed h c.args.stack.now.items c.in-Int.i ∙ ap (λ n. placed (λ x. numbered h (c.args.base + x)) n (standing h c.args.stack.now.items)) (sym c.in-Int.is)

pub returns-in-Atom-clause-placed : goal.returns-in-Atom-clause-placed
returns-in-Atom-clause-placed c =
    let h = heap_of c.args.cells.now in
    atom_placed h c.args.stack.now.items c.in-Atom.a ∙ ap (λ n. placed (λ x. numbered h (c.args.base + x)) n (standing h c.args.stack.now.items)) (sym c.in-Atom.is)

pub returns-in-Comp-clause-gains : goal.returns-in-Comp-clause-gains
returns-in-Comp-clause-gains c =
    joined_gains (heap_of c.args.cells.now) (heap_of c.join_words.new.cells) c.in-Comp.name c.in-Comp.count c.args.stack.now.items c.join_words.new.stack.items
    c.join_words.result c.join_words.ensures.joined c.join_words.ensures.kept

pub returns-in-Comp-clause-words : goal.returns-in-Comp-clause-words
returns-in-Comp-clause-words c =
    joined_words (heap_of c.args.cells.now) (heap_of c.join_words.new.cells) c.in-Comp.name c.in-Comp.count c.args.stack.now.items c.join_words.new.stack.items
    c.join_words.result c.join_words.ensures.joined c.requires.words

pub returns-in-Comp-clause-placed : goal.returns-in-Comp-clause-placed
returns-in-Comp-clause-placed c =
    let h = heap_of c.args.cells.now in
    let ready = subst (IsNodeReady (length c.args.stack.now.items)) c.in-Comp.is c.requires.ready in
    joined_placed h (heap_of c.join_words.new.cells) c.in-Comp.name c.in-Comp.count c.args.stack.now.items c.join_words.new.stack.items
    c.join_words.result c.join_words.ensures.joined ready.0 c.requires.words (λ x. numbered h (c.args.base + x)) c.args.node.now c.in-Comp.is
