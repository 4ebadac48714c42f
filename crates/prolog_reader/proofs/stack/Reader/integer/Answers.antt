use Rattle.std.proofs.Common.{◌<◌, ◌^◌, ◌∷◌, [], ℤ, IfOk, pos, refl, subst, arith, w64}
use Rattle.std.proofs.lemmas.Int.{to_z_pos}
use Rattle.pl_term.specs.Tree.{int}
use Rattle.pl_term.specs.declared.node.Node.TheVariants.{Int}
use Rattle.pl_model.specs.declared.syntax.SyntaxKind.TheVariants.{IntegerTooLarge}
use Rattle.prolog_reader.specs.Stack.{PutsNodes, reading}
use Rattle.prolog_reader.proofs.Turns.{going-fault, leaf-result}
use Rattle.prolog_reader.proofs.Primaries.{integer-large, integer-small}
use Rattle.prolog_reader.proofs.stack.Reader.integer.Goals as goal

pub returns-then-value : goal.returns-then-value
returns-then-value c =
    λ ops quotes.
    rw c.refused.ensures
    (going-fault c.args.text.now ops quotes c.args.self.now c.args.max _ (record { kind = IntegerTooLarge; at = c.args.start })
    (integer-large c.args.text.now ops quotes (reading c.args.self.now) c.args.value c.args.start c.args.end (omega arith)))

pub returns : goal.returns
returns c =
    λ ops quotes.
    let text = c.args.text.now in
    let old = c.args.self.now in
    let small : c.args.value < 2 ^ 63 = omega arith in
    let puts = subst (λ (z : ℤ). IfOk c.leaf.result (λ m. PutsNodes text old c.leaf.new.self (Int z ∷ []) c.args.end)) (to_z_pos w64 c.args.value small) c.leaf.ensures.puts in
    leaf-result text ops quotes old c.leaf.new.self old.names c.args.max (Int (pos c.args.value) ∷ []) (int (pos c.args.value))
    c.args.end _ c.leaf.result puts c.leaf.ensures.mode c.leaf.ensures.stop c.requires.holds refl c.requires.forward c.requires.within
    (omega (arith, c.requires.numbered, c.requires.forward)) (integer-small text ops quotes (reading old) c.args.value c.args.start c.args.end small)
