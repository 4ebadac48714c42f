use Rattle.std.proofs.Common.{◌∙◌, ◌==◌, sym, arith}
use Rattle.pl_model.specs.declared.lexical.Reading.TheVariants.{Token, Fault, Nothing}
use Rattle.pl_model.proofs.LexicalPlaces.{token_at-fault}
use Rattle.lex_core.proofs.LexTokens.{token-lies, fault-lies, token_at-read}
use Rattle.lex_core.proofs.tokens.next.Goals as goal

pub returns-in-Err : goal.returns-in-Err
returns-in-Err c = token_at-fault c.args.text.now c.args.at c.in-Err.fault c.in-Err.ensures

pub overflow_add-result : goal.overflow_add-result
overflow_add-result c =
    omega (
      arith,
      token-lies (c.in-Ok.start == c.args.at) c.args.text.now c.in-Ok.start c.in-Token.kind c.in-Token.size c.behind.result.now
          (sym c.in-Token.is ∙ c.in_ok-kind.ensures) c.behind.ensures,
    )

pub overflow_add-result-in-Fault : goal.overflow_add-result-in-Fault
overflow_add-result-in-Fault c =
    omega (
      arith,
      fault-lies (c.in-Ok.start == c.args.at) c.args.text.now c.in-Ok.start c.in-Fault.kind c.in-Fault.n c.behind.result.now
          (sym c.in-Fault.is ∙ c.in_ok-kind.ensures) c.behind.ensures,
    )

pub returns-in-Token : goal.returns-in-Token
returns-in-Token c =
    token_at-read c.args.text.now c.args.at c.in-Ok.start (Token c.in-Token.kind c.in-Token.size) c.behind.result.now c.in-Ok.ensures
    (sym c.in-Token.is ∙ c.in_ok-kind.ensures) c.behind.ensures

pub returns-in-Fault : goal.returns-in-Fault
returns-in-Fault c =
    token_at-read c.args.text.now c.args.at c.in-Ok.start (Fault c.in-Fault.kind c.in-Fault.n) c.behind.result.now c.in-Ok.ensures
    (sym c.in-Fault.is ∙ c.in_ok-kind.ensures) c.behind.ensures

pub returns-in-Nothing : goal.returns-in-Nothing
returns-in-Nothing c =
    token_at-read c.args.text.now c.args.at c.in-Ok.start Nothing c.behind.result.now c.in-Ok.ensures
    (sym c.in-Nothing.is ∙ c.in_ok-kind.ensures) c.behind.ensures
