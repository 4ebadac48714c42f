use Rattle.std.proofs.Common.{◌∷◌, [], Ok, refl, ap, arith}
use Rattle.pl_term.specs.Tree.{var}
use Rattle.pl_term.specs.declared.node.Node.TheVariants.{Var}
use Rattle.pl_model.specs.Grammar.{Part}
use Rattle.prolog_reader.proofs.Turns.{leaf-result}
use Rattle.prolog_reader.proofs.stack.Reader.variable.Goals as goal

pub returns : goal.returns
returns c =
    λ ops quotes.
    let text = c.args.text.now in
    let old = c.args.self.now in
    leaf-result text ops quotes old c.leaf.new.self c.number.new.self c.args.max (Var c.in_ok-number.number ∷ []) (var c.in_ok-number.number)
    c.args.end _ c.leaf.result c.leaf.ensures.puts c.leaf.ensures.mode c.leaf.ensures.stop c.requires.holds refl c.requires.forward c.requires.within
    (omega (arith, c.requires.numbered, c.requires.forward, c.in_ok-number.ensures.next))
    (ap (λ (p : Part). Ok p) (c.in_ok-number.ensures.numbers old.at c.args.end))
