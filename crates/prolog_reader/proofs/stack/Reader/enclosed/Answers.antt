use Rattle.std.proofs.Common.{Ok, sym, ap}
use Rattle.pl_model.specs.declared.lexical.Mark.{Mark}
use Rattle.pl_model.specs.declared.lexical.Lexeme.TheVariants.{Token}
use Rattle.pl_model.specs.declared.lexical.TokenKind.TheVariants.{Punctuation}
use Rattle.pl_model.specs.declared.syntax.SyntaxKind.TheVariants.{UnexpectedToken}
use Rattle.pl_model.specs.TermGrammar.{enclosed}
use Rattle.pl_model.proofs.TermDepth.{whole, sequence}
use Rattle.prolog_reader.specs.Stack.{reading}
use Rattle.prolog_reader.proofs.Turns.{turns-by, going-fault}
use Rattle.prolog_reader.proofs.Primaries.{enclosed-other}
use Rattle.prolog_reader.proofs.stack.Reader.enclosed.Goals as goal

pub returns-in-Open : goal.returns-in-Open
returns-in-Open c =
    λ ops quotes.
    let text = c.args.text.now in
    let old = c.args.self.now in
    turns-by text ops quotes old c.args.max _ _ c.parenthesis.new.self c.parenthesis.result
    (ap (λ (m : Mark). enclosed text ops quotes (whole text ops quotes) (sequence text ops quotes) (reading old) m c.args.end
    (Ok (Token (Punctuation m) c.args.start c.args.end))) (sym c.in-Open.is))
    (c.parenthesis.ensures ops quotes)

pub returns-in-OpenCt : goal.returns-in-OpenCt
returns-in-OpenCt c =
    λ ops quotes.
    let text = c.args.text.now in
    let old = c.args.self.now in
    turns-by text ops quotes old c.args.max _ _ c.parenthesis-in-OpenCt.new.self c.parenthesis-in-OpenCt.result
    (ap (λ (m : Mark). enclosed text ops quotes (whole text ops quotes) (sequence text ops quotes) (reading old) m c.args.end
    (Ok (Token (Punctuation m) c.args.start c.args.end))) (sym c.in-OpenCt.is))
    (c.parenthesis-in-OpenCt.ensures ops quotes)

pub returns-in-OpenList : goal.returns-in-OpenList
returns-in-OpenList c =
    λ ops quotes.
    let text = c.args.text.now in
    let old = c.args.self.now in
    turns-by text ops quotes old c.args.max _ _ c.list.new.self c.list.result
    (ap (λ (m : Mark). enclosed text ops quotes (whole text ops quotes) (sequence text ops quotes) (reading old) m c.args.end
    (Ok (Token (Punctuation m) c.args.start c.args.end))) (sym c.in-OpenList.is))
    (c.list.ensures ops quotes)

pub returns-in-OpenCurly : goal.returns-in-OpenCurly
returns-in-OpenCurly c =
    λ ops quotes.
    let text = c.args.text.now in
    let old = c.args.self.now in
    turns-by text ops quotes old c.args.max _ _ c.curly.new.self c.curly.result
    (ap (λ (m : Mark). enclosed text ops quotes (whole text ops quotes) (sequence text ops quotes) (reading old) m c.args.end
    (Ok (Token (Punctuation m) c.args.start c.args.end))) (sym c.in-OpenCurly.is))
    (c.curly.ensures ops quotes)

pub returns-in_default : goal.returns-in_default
returns-in_default c =
    λ ops quotes.
    let text = c.args.text.now in
    let old = c.args.self.now in
    rw c.refused.ensures
    (going-fault text ops quotes old c.args.max _ (record { kind = UnexpectedToken; at = c.args.start })
    (enclosed-other text ops quotes (whole text ops quotes) (sequence text ops quotes) (reading old) c.args.mark c.args.start c.args.end
    c.in_default.not-Open c.in_default.not-OpenCt c.in_default.not-OpenList c.in_default.not-OpenCurly))
