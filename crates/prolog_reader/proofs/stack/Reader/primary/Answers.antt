use Rattle.std.proofs.Common.{Ok, Err, ◌∙◌, length, refl, sym, ap}
use Rattle.pl_model.specs.OperatorTable.{operator_at}
use Rattle.pl_model.specs.declared.lexical.Lexeme.{Lexeme}
use Rattle.pl_model.specs.declared.lexical.Lexeme.TheVariants.{Token, End}
use Rattle.pl_model.specs.declared.syntax.SyntaxKind.TheVariants.{UnexpectedEnd}
use Rattle.prolog_reader.proofs.Starts.{taken-begins, primary-turns, primary-fault}
use Rattle.prolog_reader.proofs.stack.Reader.primary.Goals as goal

pub token-requires : goal.token-requires
token-requires c =
    let t = c.in-Ok-Token in
    taken-begins c.args.text.now c.args.self.now c.take.new.self c.args.max t.kind t.start t.end c.take.ensures.new c.requires
    (sym c.take.ensures.result ∙ t.is ∙ ap (λ (l : Lexeme). Ok l) t.field-0-is)

pub returns-in-Ok-Token : goal.returns-in-Ok-Token
returns-in-Ok-Token c =
    let t = c.in-Ok-Token in
    primary-turns c.args.text.now (operator_at c.args.ops.now) c.args.quotes c.args.self.now c.take.new.self c.token.new.self c.args.max (Ok (Token t.kind t.start t.end))
    c.token.result c.take.ensures.new c.requires (sym c.take.ensures.result ∙ t.is ∙ ap (λ (l : Lexeme). Ok l) t.field-0-is) c.token.ensures

pub returns-in-Ok-End : goal.returns-in-Ok-End
returns-in-Ok-End c =
    rw c.refused.ensures
    (primary-fault c.args.text.now (operator_at c.args.ops.now) c.args.quotes c.args.self.now c.args.max (Ok End) (record { kind = UnexpectedEnd; at = length c.args.text.now })
    c.requires (sym c.take.ensures.result ∙ c.in-Ok-End.is ∙ ap (λ (l : Lexeme). Ok l) c.in-Ok-End.field-0-is) refl)

pub returns-in-Err : goal.returns-in-Err
returns-in-Err c =
    primary-fault c.args.text.now (operator_at c.args.ops.now) c.args.quotes c.args.self.now c.args.max (Err c.in-Err.fault) c.in-Err.fault
    c.requires (sym c.take.ensures.result ∙ c.in-Err.is) refl
