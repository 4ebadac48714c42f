use Rattle.std.proofs.Common.{◌≡◌, Ok, Err, sym, ap, subst, ◌∙◌}
use Rattle.pl_model.specs.OperatorTable.{operator_at}
use Rattle.pl_model.specs.declared.lexical.Lexeme.{Lexeme}
use Rattle.pl_model.specs.declared.lexical.Lexeme.TheVariants.{Token, End}
use Rattle.pl_model.specs.LexicalTokens.{token_at}
use Rattle.pl_model.specs.Grammar.{Item}
use Rattle.prolog_reader.specs.Items.{Reads}
use Rattle.prolog_reader.proofs.Clauses.{item-token, place-inside}
use Rattle.prolog_reader.proofs.read.read_term.Goals as goal

pub read_from-requires : goal.read_from-requires
read_from-requires c =
    let t = c.in-Ok-Ok-Token in
    let token : Ok (Token t.field-0-0-0 t.start t.field-0-0-2) ≡ token_at c.args.text.now c.args.at
    = sym (t.field-0-is ∙ ap (λ (l : Lexeme). Ok l) t.field-0-0-is) ∙ t.ensures in
    place-inside c.args.text.now c.args.at t.field-0-0-0 t.start t.field-0-0-2 token

pub returns-in-Ok-Ok-Token : goal.returns-in-Ok-Ok-Token
returns-in-Ok-Ok-Token c =
    let t = c.in-Ok-Ok-Token in
    let token : Ok (Token t.field-0-0-0 t.start t.field-0-0-2) ≡ token_at c.args.text.now c.args.at
    = sym (t.field-0-is ∙ ap (λ (l : Lexeme). Ok l) t.field-0-0-is) ∙ t.ensures in
    subst (λ (i : Item). Reads c.read_from.result i)
    (item-token c.args.text.now (operator_at c.args.ops.now) c.args.quotes c.args.at (Ok (Token t.field-0-0-0 t.start t.field-0-0-2)) token) c.read_from.ensures

pub returns-in-Ok-Ok-End : goal.returns-in-Ok-Ok-End
returns-in-Ok-Ok-End c =
    let token : Ok End ≡ token_at c.args.text.now c.args.at
    = sym (c.in-Ok-Ok-End.field-0-is ∙ ap (λ (l : Lexeme). Ok l) c.in-Ok-Ok-End.field-0-0-is) ∙ c.in-Ok-Ok-End.ensures in
    sym (item-token c.args.text.now (operator_at c.args.ops.now) c.args.quotes c.args.at (Ok End) token)

pub returns-in-Ok-Err : goal.returns-in-Ok-Err
returns-in-Ok-Err c =
    let token : Err c.in-Ok-Err.fault ≡ token_at c.args.text.now c.args.at = sym c.in-Ok-Err.field-0-is ∙ c.in-Ok-Err.ensures in
    sym (item-token c.args.text.now (operator_at c.args.ops.now) c.args.quotes c.args.at (Err c.in-Ok-Err.fault) token)
