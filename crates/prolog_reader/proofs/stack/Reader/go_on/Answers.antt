use Rattle.std.proofs.Common.{Ok, Some, None, ◌∙◌, refl, sym, ap, arith}
use Rattle.pl_model.specs.OperatorTable.{operator_at}
use Rattle.pl_model.specs.declared.lexical.Lexeme.{Lexeme}
use Rattle.prolog_reader.specs.declared.stack.Mode.TheVariants.{Ended}
use Rattle.prolog_reader.proofs.Joins.{joining-token, part-fault, part-joined, joins-none}
use Rattle.prolog_reader.proofs.Turns.{ahead-follows}
use Rattle.prolog_reader.proofs.stack.Reader.go_on.Goals as goal

pub returns-in-Err : goal.returns-in-Err
returns-in-Err c =
    λ quotes.
    part-fault c.args.text.now (operator_at c.args.ops.now) quotes c.args.self.now c.args.max c.args.priority c.args.start c.in-Err.fault c.requires.place c.in-Err.is

pub join-requires-clause-forward : goal.join-requires-clause-forward
join-requires-clause-forward c =
    let token = joining-token (operator_at c.args.ops.now) c.in-Ok.lexeme c.args.max c.args.priority c.in-Some.joining (sym c.in-Some.is ∙ c.in_ok-joining-in-Ok.ensures) in
    let found = ahead-follows c.args.text.now c.args.self.now token.0 token.1 c.in-Some.joining.end c.requires.place
    (c.in-Ok.is ∙ ap (λ (l : Lexeme). Ok l) token.2) in
    omega (arith, found.begins, found.ends)

pub join-requires-clause-within : goal.join-requires-clause-within
join-requires-clause-within c =
    let token = joining-token (operator_at c.args.ops.now) c.in-Ok.lexeme c.args.max c.args.priority c.in-Some.joining (sym c.in-Some.is ∙ c.in_ok-joining-in-Ok.ensures) in
    let found = ahead-follows c.args.text.now c.args.self.now token.0 token.1 c.in-Some.joining.end c.requires.place
    (c.in-Ok.is ∙ ap (λ (l : Lexeme). Ok l) token.2) in
    found.within

pub returns-in-Some : goal.returns-in-Some
returns-in-Some c =
    λ quotes.
    part-joined c.args.text.now (operator_at c.args.ops.now) quotes c.args.self.now c.join.new.self c.args.max c.args.priority c.args.start c.in-Ok.lexeme
    (Some c.in-Some.joining) c.join.result c.requires.place c.in-Ok.is (sym c.in-Some.is ∙ c.in_ok-joining-in-Ok.ensures)
    (c.join.ensures (operator_at c.args.ops.now) quotes)

pub returns-in-None : goal.returns-in-None
returns-in-None c =
    λ quotes.
    part-joined c.args.text.now (operator_at c.args.ops.now) quotes c.args.self.now c.args.self.now c.args.max c.args.priority c.args.start c.in-Ok.lexeme
    None (Ok (Ended c.args.priority c.args.start)) c.requires.place c.in-Ok.is (sym c.in-None.is ∙ c.in_ok-joining-in-Ok.ensures)
    (joins-none c.args.text.now (operator_at c.args.ops.now) quotes c.args.self.now c.args.max c.args.priority c.args.start _ c.requires refl)
