use Rattle.std.proofs.Common.{ℤ, Ok, IfOk, ◌∷◌, [], ◌∙◌, refl, sym, ap, subst, rules, w64}
use Rattle.std.proofs.lemmas.Int.{to_z-of_z}
use mir.Val.{SFits}
use Rattle.pl_term.specs.Tree.{Tree, int}
use Rattle.pl_term.specs.declared.node.Node.TheVariants.{Int}
use Rattle.pl_model.specs.declared.lexical.TokenKind.TheVariants.{Integer}
use Rattle.pl_model.specs.Grammar.{Part, Outcome}
use Rattle.pl_model.specs.TermGrammar.{negative}
use Rattle.prolog_reader.specs.Ahead.{fault_of}
use Rattle.prolog_reader.specs.Names.{reading_at}
use Rattle.prolog_reader.specs.Stack.{PutsNodes, reading}
use Rattle.prolog_reader.proofs.Turns.{going-fault}
use Rattle.prolog_reader.proofs.Primaries.{integer-token, negative-none}
use Rattle.prolog_reader.proofs.Advances.{advanced-ahead, advanced-leaf, token-follows}
use Rattle.prolog_reader.proofs.IntegerBounds.{integer-bound}
use Rattle.prolog_reader.proofs.stack.Reader.negative.Goals as goal

pub negated-requires : goal.negated-requires
negated-requires c =
    let text = c.args.text.now in
    let ahead = advanced-ahead text c.args.self.now c.advance.new.self c.args.end c.in_ok-advance.ensures in
    let token = integer-token c.advance.new.self.ahead c.in-Some.value c.in-Some.behind c.in-Some.ensures in
    integer-bound text c.args.end c.in-Some.value token.0 c.in-Some.behind (sym ahead ∙ token.1)

pub returns-in_default : goal.returns-in_default
returns-in_default c =
    λ ops quotes.
    let text = c.args.text.now in
    let old = c.args.self.now in
    let mid = c.advance.new.self in
    let ahead = advanced-ahead text old mid c.args.end c.in_ok-advance.ensures in
    rw c.unexpected.ensures
    (going-fault text ops quotes old c.args.max _ (fault_of text mid.ahead)
    (ap (negative text ops quotes (reading old)) (sym ahead) ∙ negative-none text ops quotes (reading old) mid.ahead c.in_default.ensures))

pub returns : goal.returns
returns c =
    λ ops quotes.
    let text = c.args.text.now in
    let old = c.args.self.now in
    let mid = c.advance.new.self in
    let z = c.negated.result in
    let behind = c.in-Some.behind in
    let fits : SFits w64 z = search rules in
    let given : Tree → Outcome Part = λ t. Ok (record { term = t; priority = 0; reading = reading_at old.names behind }) in
    let ahead = advanced-ahead text old mid c.args.end c.in_ok-advance.ensures in
    let token = integer-token mid.ahead c.in-Some.value behind c.in-Some.ensures in
    let found = token-follows text c.args.end (Integer c.in-Some.value) token.0 behind (sym ahead ∙ token.1) in
    let puts = subst (λ (y : ℤ). IfOk c.leaf.result (λ m. PutsNodes text mid c.leaf.new.self (Int y ∷ []) behind)) (to_z-of_z w64 z fits) c.leaf.ensures.puts in
    advanced-leaf text ops quotes old mid c.leaf.new.self c.args.max (Int z ∷ []) (int z) c.args.end behind _ c.leaf.result c.requires
    c.in_ok-advance.ensures puts c.leaf.ensures.mode c.leaf.ensures.stop refl found.0 found.1
    (ap (negative text ops quotes (reading old)) (sym ahead ∙ token.1)
    ∙ ap (λ (y : ℤ). given (int y)) (sym c.negated.ensures))
