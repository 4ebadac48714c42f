use Rattle.std.proofs.Common.{◌≡◌, IfOk, ◌∙◌, sym, subst, rules}
use Rattle.pl_term.specs.Tree.{Chars}
use Rattle.pl_model.specs.OperatorTable.{operator_at}
use Rattle.pl_model.specs.declared.lexical.Lexeme.{Lexeme}
use Rattle.pl_model.specs.declared.lexical.Lexeme.TheVariants.{Token}
use Rattle.pl_model.specs.declared.lexical.TokenKind.TheVariants.{Punctuation}
use Rattle.pl_model.specs.declared.lexical.Mark.TheVariants.{Comma}
use Rattle.prolog_reader.specs.Operations.{joining_ahead, joining_named, operation_of}
use Rattle.prolog_reader.proofs.NameTexts.{chars-comma}
use Rattle.prolog_reader.proofs.operations.joining_ahead.Goals as goal

pub returns-in_ok-comma-in-Punctuation-Comma : goal.returns-in_ok-comma-in-Punctuation-Comma
returns-in_ok-comma-in-Punctuation-Comma c =
    let ops = operator_at c.args.ops.now in
    let result = c.joining_named-in-Punctuation-Comma.result in
    let token : c.args.ahead.now ≡ Token (Punctuation Comma) c.in-Token.start c.in-Token.end = search rules in
    subst (λ (l : Lexeme). IfOk result (λ j. j ≡ joining_ahead ops l c.args.max c.args.priority)) (sym token)
    (subst (λ (f : Chars). IfOk result (λ j. j ≡ joining_named f c.in-Token.end (operation_of ops f c.args.max c.args.priority)))
    (c.in_ok-comma-in-Punctuation-Comma.ensures ∙ chars-comma) c.joining_named-in-Punctuation-Comma.ensures)
