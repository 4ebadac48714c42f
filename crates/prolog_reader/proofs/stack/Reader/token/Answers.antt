use Rattle.std.proofs.Common.{Ok, ◌∙◌, sym, ap, arith}
use Rattle.std.proofs.lemmas.Bool.{cond-true, cond-false}
use Rattle.pl_model.specs.OperatorTable.{operator_at}
use Rattle.pl_model.specs.declared.lexical.Lexeme.TheVariants.{Token}
use Rattle.pl_model.specs.declared.lexical.TokenKind.{TokenKind}
use Rattle.pl_model.specs.declared.syntax.SyntaxKind.TheVariants.{UnexpectedToken}
use Rattle.pl_model.specs.LexicalTokens.{token_at}
use Rattle.pl_model.specs.Grammar.{Part, Outcome}
use Rattle.pl_model.specs.TermGrammar.{primary, codes_of, negative, named_term}
use Rattle.pl_model.proofs.TermDepth.{whole, sequence}
use Rattle.prolog_reader.specs.Stack.{reading}
use Rattle.prolog_reader.proofs.Turns.{turns-by, going-fault, leaf-result}
use Rattle.prolog_reader.proofs.stack.Reader.token.Goals as goal

pub returns-then-is_minus : goal.returns-then-is_minus
returns-then-is_minus c =
    let text = c.args.text.now in
    let ops = operator_at c.args.ops.now in
    let quotes = c.args.quotes in
    let old = c.args.self.now in
    let at : TokenKind → Outcome Part
    = λ k. primary text ops quotes (whole text ops quotes) (sequence text ops quotes) c.args.max (reading old) (Ok (Token k c.args.start c.args.end)) in
    let inner = negative text ops quotes (reading old) (token_at text c.args.end) in
    let name = named_term text ops quotes (whole text ops quotes) (sequence text ops quotes) c.args.max (reading old) c.in-Name.name c.args.start c.args.end in
    turns-by text ops quotes old c.args.max inner _ c.negative.new.self c.negative.result
    (sym (cond-true _ inner name (sym c.is_minus.ensures ∙ c.if-is_minus.true)) ∙ ap at (sym c.in-Name.is))
    (c.negative.ensures ops quotes)

pub returns-else-is_minus : goal.returns-else-is_minus
returns-else-is_minus c =
    let text = c.args.text.now in
    let ops = operator_at c.args.ops.now in
    let quotes = c.args.quotes in
    let old = c.args.self.now in
    let at : TokenKind → Outcome Part
    = λ k. primary text ops quotes (whole text ops quotes) (sequence text ops quotes) c.args.max (reading old) (Ok (Token k c.args.start c.args.end)) in
    let inner = negative text ops quotes (reading old) (token_at text c.args.end) in
    let name = named_term text ops quotes (whole text ops quotes) (sequence text ops quotes) c.args.max (reading old) c.in-Name.name c.args.start c.args.end in
    turns-by text ops quotes old c.args.max name _ c.named_term.new.self c.named_term.result
    (sym (cond-false _ inner name (sym c.is_minus.ensures ∙ c.if-is_minus.false)) ∙ ap at (sym c.in-Name.is))
    (c.named_term.ensures quotes)

pub returns-in-Quoted : goal.returns-in-Quoted
returns-in-Quoted c =
    let text = c.args.text.now in
    let ops = operator_at c.args.ops.now in
    let quotes = c.args.quotes in
    let old = c.args.self.now in
    let at : TokenKind → Outcome Part
    = λ k. primary text ops quotes (whole text ops quotes) (sequence text ops quotes) c.args.max (reading old) (Ok (Token k c.args.start c.args.end)) in
    turns-by text ops quotes old c.args.max _ _ c.named_term-in-Quoted.new.self c.named_term-in-Quoted.result (ap at (sym c.in-Quoted.is)) (c.named_term-in-Quoted.ensures quotes)

pub returns-in-Variable : goal.returns-in-Variable
returns-in-Variable c =
    let text = c.args.text.now in
    let ops = operator_at c.args.ops.now in
    let quotes = c.args.quotes in
    let old = c.args.self.now in
    let at : TokenKind → Outcome Part
    = λ k. primary text ops quotes (whole text ops quotes) (sequence text ops quotes) c.args.max (reading old) (Ok (Token k c.args.start c.args.end)) in
    turns-by text ops quotes old c.args.max _ _ c.variable.new.self c.variable.result (ap at (sym c.in-Variable.is)) (c.variable.ensures ops quotes)

pub returns-in-Integer : goal.returns-in-Integer
returns-in-Integer c =
    let text = c.args.text.now in
    let ops = operator_at c.args.ops.now in
    let quotes = c.args.quotes in
    let old = c.args.self.now in
    let at : TokenKind → Outcome Part
    = λ k. primary text ops quotes (whole text ops quotes) (sequence text ops quotes) c.args.max (reading old) (Ok (Token k c.args.start c.args.end)) in
    turns-by text ops quotes old c.args.max _ _ c.integer.new.self c.integer.result (ap at (sym c.in-Integer.is)) (c.integer.ensures ops quotes)

pub returns-in-DoubleQuoted : goal.returns-in-DoubleQuoted
returns-in-DoubleQuoted c =
    let text = c.args.text.now in
    let ops = operator_at c.args.ops.now in
    let quotes = c.args.quotes in
    let old = c.args.self.now in
    let at : TokenKind → Outcome Part
    = λ k. primary text ops quotes (whole text ops quotes) (sequence text ops quotes) c.args.max (reading old) (Ok (Token k c.args.start c.args.end)) in
    turns-by text ops quotes old c.args.max _ _ c.double_quoted.new.self c.double_quoted.result (ap at (sym c.in-DoubleQuoted.is)) (c.double_quoted.ensures ops)

pub returns-in-Punctuation : goal.returns-in-Punctuation
returns-in-Punctuation c =
    let text = c.args.text.now in
    let ops = operator_at c.args.ops.now in
    let quotes = c.args.quotes in
    let old = c.args.self.now in
    let at : TokenKind → Outcome Part
    = λ k. primary text ops quotes (whole text ops quotes) (sequence text ops quotes) c.args.max (reading old) (Ok (Token k c.args.start c.args.end)) in
    turns-by text ops quotes old c.args.max _ _ c.enclosed.new.self c.enclosed.result (ap at (sym c.in-Punctuation.is)) (c.enclosed.ensures ops quotes)

pub returns-in_ok-nodes-in-BackQuoted : goal.returns-in_ok-nodes-in-BackQuoted
returns-in_ok-nodes-in-BackQuoted c =
    let text = c.args.text.now in
    let ops = operator_at c.args.ops.now in
    let quotes = c.args.quotes in
    let old = c.args.self.now in
    let at : TokenKind → Outcome Part
    = λ k. primary text ops quotes (whole text ops quotes) (sequence text ops quotes) c.args.max (reading old) (Ok (Token k c.args.start c.args.end)) in
    leaf-result text ops quotes old c.term.new.self old.names c.args.max c.in_ok-nodes-in-BackQuoted.nodes.items (codes_of c.in-BackQuoted.t)
    c.args.end _ c.term.result c.term.ensures.puts c.term.ensures.mode c.term.ensures.stop c.requires.holds c.in_ok-nodes-in-BackQuoted.ensures c.requires.forward
    c.requires.within (omega (arith, c.requires.numbered, c.requires.forward)) (ap at c.in-BackQuoted.is)

pub returns-in-EndToken : goal.returns-in-EndToken
returns-in-EndToken c =
    let text = c.args.text.now in
    let ops = operator_at c.args.ops.now in
    let quotes = c.args.quotes in
    let old = c.args.self.now in
    let at : TokenKind → Outcome Part
    = λ k. primary text ops quotes (whole text ops quotes) (sequence text ops quotes) c.args.max (reading old) (Ok (Token k c.args.start c.args.end)) in
    rw c.refused.ensures (going-fault text ops quotes old c.args.max _ (record { kind = UnexpectedToken; at = c.args.start }) (ap at c.in-EndToken.is))
