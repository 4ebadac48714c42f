use Rattle.std.proofs.Common.{◌≡◌, length, subst, rules}
use Rattle.pl_model.specs.declared.lexical.Mark.TheVariants.{Close}
use Rattle.prolog_reader.specs.Stack.{Pushes}
use Rattle.prolog_reader.specs.declared.stack.Frame.TheVariants.{Closing}
use Rattle.prolog_reader.proofs.Primaries.{parenthesis-turns}
use Rattle.prolog_reader.proofs.stack.Reader.parenthesis.Goals as goal

pub returns : goal.returns
returns c =
    λ ops quotes.
    let start : c.len-start.result ≡ length c.args.self.now.pieces.items = search rules in
    parenthesis-turns c.args.text.now ops quotes c.args.self.now c.push.new.self c.args.max c.args.end c.requires
    (subst (λ n. Pushes c.args.text.now c.args.self.now c.push.new.self (Closing c.args.max Close n) c.args.end) start c.in_ok-push.ensures.pushes)
