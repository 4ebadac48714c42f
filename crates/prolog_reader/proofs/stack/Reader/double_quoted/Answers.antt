use Rattle.std.proofs.Common.{◌∷◌, [], ◌∙◌, refl, ap, arith}
use Rattle.pl_term.specs.Tree.{atom}
use Rattle.pl_term.specs.declared.node.Node.TheVariants.{Atom}
use Rattle.pl_model.specs.declared.syntax.SyntaxKind.TheVariants.{AtomTooLong}
use Rattle.pl_model.specs.TermGrammar.{codes_of, characters_of, double_quoted}
use Rattle.prolog_reader.specs.Stack.{reading}
use Rattle.prolog_reader.proofs.Turns.{going-fault, leaf-result}
use Rattle.prolog_reader.proofs.Primaries.{quoted-long, quoted-atom}
use Rattle.prolog_reader.proofs.stack.Reader.double_quoted.Goals as goal

pub returns-in_ok-nodes-in-Codes : goal.returns-in_ok-nodes-in-Codes
returns-in_ok-nodes-in-Codes c =
    λ ops.
    let old = c.args.self.now in
    leaf-result c.args.text.now ops c.args.quotes old c.term.new.self old.names c.args.max c.in_ok-nodes-in-Codes.nodes.items (codes_of c.args.spelled)
    c.args.end _ c.term.result c.term.ensures.puts c.term.ensures.mode c.term.ensures.stop c.requires.holds c.in_ok-nodes-in-Codes.ensures c.requires.forward
    c.requires.within (omega (arith, c.requires.numbered, c.requires.forward))
    (ap (double_quoted c.args.text.now ops c.args.quotes (reading old) c.args.spelled c.args.start c.args.end) c.in-Codes.is)

pub returns-in_ok-nodes-in-Chars : goal.returns-in_ok-nodes-in-Chars
returns-in_ok-nodes-in-Chars c =
    λ ops.
    let old = c.args.self.now in
    leaf-result c.args.text.now ops c.args.quotes old c.term-in-Chars.new.self old.names c.args.max c.in_ok-nodes-in-Chars.nodes.items (characters_of c.args.spelled)
    c.args.end _ c.term-in-Chars.result c.term-in-Chars.ensures.puts c.term-in-Chars.ensures.mode c.term-in-Chars.ensures.stop c.requires.holds
    c.in_ok-nodes-in-Chars.ensures c.requires.forward c.requires.within (omega (arith, c.requires.numbered, c.requires.forward))
    (ap (double_quoted c.args.text.now ops c.args.quotes (reading old) c.args.spelled c.args.start c.args.end) c.in-Chars.is)

pub returns-then-size-gt-LONGEST_ATOM : goal.returns-then-size-gt-LONGEST_ATOM
returns-then-size-gt-LONGEST_ATOM c =
    λ ops.
    let old = c.args.self.now in
    rw c.refused.ensures
    (going-fault c.args.text.now ops c.args.quotes old c.args.max _ (record { kind = AtomTooLong; at = c.args.start })
    (ap (double_quoted c.args.text.now ops c.args.quotes (reading old) c.args.spelled c.args.start c.args.end) c.in-Atom.is
    ∙ quoted-long c.args.text.now ops c.args.quotes (reading old) c.args.spelled c.args.start c.args.end (omega (arith, c.size.ensures))))

pub returns-else-size-gt-LONGEST_ATOM : goal.returns-else-size-gt-LONGEST_ATOM
returns-else-size-gt-LONGEST_ATOM c =
    λ ops.
    let old = c.args.self.now in
    leaf-result c.args.text.now ops c.args.quotes old c.leaf.new.self old.names c.args.max (Atom c.args.spelled ∷ []) (atom c.args.spelled)
    c.args.end _ c.leaf.result c.leaf.ensures.puts c.leaf.ensures.mode c.leaf.ensures.stop c.requires.holds refl c.requires.forward
    c.requires.within (omega (arith, c.requires.numbered, c.requires.forward))
    (ap (double_quoted c.args.text.now ops c.args.quotes (reading old) c.args.spelled c.args.start c.args.end) c.in-Atom.is
    ∙ quoted-atom c.args.text.now ops c.args.quotes (reading old) c.args.spelled c.args.start c.args.end (omega (arith, c.size.ensures)))
