use Rattle.std.proofs.Common.{◌≡◌, length, subst, rules}
use Rattle.prolog_reader.specs.Stack.{Pushes}
use Rattle.prolog_reader.specs.declared.stack.Frame.TheVariants.{Arguments}
use Rattle.prolog_reader.proofs.Primaries.{functional-turns}
use Rattle.prolog_reader.proofs.stack.Reader.functional.Goals as goal

pub returns : goal.returns
returns c =
    λ ops quotes.
    let start : c.len-start.result ≡ length c.args.self.now.pieces.items = search rules in
    functional-turns c.args.text.now ops quotes c.args.self.now c.push.new.self c.args.max c.args.name c.args.end c.requires
    (subst (λ n. Pushes c.args.text.now c.args.self.now c.push.new.self (Arguments c.args.max c.args.name 0 n) c.args.end) start c.in_ok-push.ensures.pushes)
