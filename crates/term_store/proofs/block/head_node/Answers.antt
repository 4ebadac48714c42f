use Rattle.std.proofs.Common.{◌≡◌, ◌<◌, ◌∙◌, get_or, length, sym, ap, subst, rules}
use Rattle.std.proofs.lemmas.Int.{to_z-of_z}
use Rattle.pl_term.specs.declared.node.Node.TheVariants as terms
use Rattle.pl_term.specs.Nodes.{nodes}
use mir.Val.{of_z, to_z}
use mir.Syntax.{w64}
use Rattle.term_store.specs.declared.words.Head.{Head}
use Rattle.term_store.specs.Blocks.{block_heap, part_of}
use Rattle.term_store.specs.Fit.{IsIn}
use Rattle.term_store.specs.Heap.{atom_name, bindings}
use Rattle.term_store.proofs.Copying.{part_inside, part_variable}
use Rattle.term_store.proofs.Equations.{bound-int, bound-atom}
use Rattle.term_store.proofs.Fronting.{part_front}
use Rattle.term_store.proofs.block.head_node.Goals as goal

pub returns-in-Comp : goal.returns-in-Comp
returns-in-Comp c d =
    let b = c.args.block.now in
    let k = c.in-Comp.field-0 in
    let inside : k < length b.heads.items = subst (IsIn (block_heap b)) c.in-Comp.is c.requires.inside in
    ap (λ (g : Head). terms.Comp (atom_name g.name) g.count) (c.requires.first k c.in-Comp.is) ∙ sym (part_front b c.requires.block k inside d)
    ∙ sym (ap (λ w. get_or (nodes (part_of b w)) 0 d) c.in-Comp.is)

pub returns-in-Atom : goal.returns-in-Atom
returns-in-Atom c d =
    let b = c.args.block.now in
    sym (ap (λ w. get_or (nodes (part_of b w)) 0 d) c.in-Atom.is
    ∙ ap (λ t. get_or (nodes t) 0 d) (bound-atom (bindings (block_heap b)) (atom_name c.in-Atom.a)))

pub returns-in-Int : goal.returns-in-Int
returns-in-Int c d =
    let b = c.args.block.now in
    let same : to_z w64 (of_z w64 c.in-Int.i) ≡ c.in-Int.i = search (rules, to_z-of_z) in
    ap terms.Int same
    ∙ sym (ap (λ w. get_or (nodes (part_of b w)) 0 d) c.in-Int.is ∙ ap (λ t. get_or (nodes t) 0 d) (bound-int (bindings (block_heap b)) c.in-Int.i))

pub returns-in-Var : goal.returns-in-Var
returns-in-Var c d =
    let b = c.args.block.now in
    let x = c.in-Var.x in
    sym (ap (λ w. get_or (nodes (part_of b w)) 0 d) c.in-Var.is
    ∙ ap (λ t. get_or (nodes t) 0 d) (part_variable b x (part_inside b x (subst (IsIn (block_heap b)) c.in-Var.is c.requires.inside))))
