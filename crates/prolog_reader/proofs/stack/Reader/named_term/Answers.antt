use Rattle.std.proofs.Common.{◌∷◌, [], Some, None, ◌∙◌, refl, sym, arith}
use Rattle.pl_term.specs.Tree.{atom}
use Rattle.pl_term.specs.declared.node.Node.TheVariants.{Atom}
use Rattle.pl_model.specs.OperatorTable.{operator_at}
use Rattle.pl_model.specs.declared.syntax.SyntaxKind.TheVariants.{AtomTooLong}
use Rattle.pl_model.proofs.TermDepth.{whole, sequence}
use Rattle.prolog_reader.specs.Stack.{reading}
use Rattle.prolog_reader.proofs.Turns.{turns-by, going-fault, leaf-result}
use Rattle.prolog_reader.proofs.Primaries.{name-long, name-compound, name-operator}
use Rattle.prolog_reader.proofs.stack.Reader.named_term.Goals as goal

pub returns-then-size-gt-LONGEST_ATOM : goal.returns-then-size-gt-LONGEST_ATOM
returns-then-size-gt-LONGEST_ATOM c =
    λ quotes.
    let text = c.args.text.now in
    let ops = operator_at c.args.ops.now in
    let old = c.args.self.now in
    rw c.refused.ensures
    (going-fault text ops quotes old c.args.max _ (record { kind = AtomTooLong; at = c.args.start })
    (name-long text ops quotes (whole text ops quotes) (sequence text ops quotes) c.args.max (reading old) c.args.name c.args.start c.args.end
    (omega (arith, c.size.ensures))))

pub returns-then-is_functor : goal.returns-then-is_functor
returns-then-is_functor c =
    λ quotes.
    let text = c.args.text.now in
    let ops = operator_at c.args.ops.now in
    let old = c.args.self.now in
    turns-by text ops quotes old c.args.max _ _ c.functional.new.self c.functional.result
    (name-compound text ops quotes (whole text ops quotes) (sequence text ops quotes) c.args.max (reading old) c.args.name c.args.start c.args.end
    (omega (arith, c.size.ensures)) (sym c.is_functor.ensures.value ∙ c.if-is_functor.true))
    (c.functional.ensures ops quotes)

pub returns-in-Some : goal.returns-in-Some
returns-in-Some c =
    λ quotes.
    let text = c.args.text.now in
    let ops = operator_at c.args.ops.now in
    let old = c.args.self.now in
    turns-by text ops quotes old c.args.max _ _ c.prefix-in-Some.new.self c.prefix-in-Some.result
    (name-operator text ops quotes (whole text ops quotes) (sequence text ops quotes) c.args.max (reading old) c.args.name c.args.start c.args.end
    (Some (c.in-Some.own, c.in-Some.kind)) (omega (arith, c.size.ensures)) (sym c.is_functor.ensures.value ∙ c.if-is_functor.false) c.in-Some.ensures.entry)
    (c.prefix-in-Some.ensures quotes)

pub returns-in-None : goal.returns-in-None
returns-in-None c =
    λ quotes.
    let text = c.args.text.now in
    let ops = operator_at c.args.ops.now in
    let old = c.args.self.now in
    leaf-result text ops quotes old c.leaf.new.self old.names c.args.max (Atom c.args.name ∷ []) (atom c.args.name) c.args.end _ c.leaf.result
    c.leaf.ensures.puts c.leaf.ensures.mode c.leaf.ensures.stop c.requires.holds refl c.requires.forward c.requires.within
    (omega (arith, c.requires.numbered, c.requires.forward))
    (sym (name-operator text ops quotes (whole text ops quotes) (sequence text ops quotes) c.args.max (reading old) c.args.name c.args.start c.args.end
    None (omega (arith, c.size.ensures)) (sym c.is_functor.ensures.value ∙ c.if-is_functor.false) c.in-None.ensures.entry))
