use Rattle.prolog_reader.proofs.Ends.{argument-fault, argument-closes, argument-goes_on}
use Rattle.prolog_reader.proofs.stack.Reader.argument.Goals as goal

pub returns-in-Some : goal.returns-in-Some
returns-in-Some c =
    λ ops quotes.
    argument-goes_on c.args.text.now ops quotes c.args.self.now c.push.new.self c.args.max c.args.name c.args.count c.args.start c.args.priority c.args.last
    c.in-Some.end c.requires.place c.requires.built c.in-Some.ensures c.in_ok-push.ensures.pushes

pub returns-in_default-behind_mark : goal.returns-in_default-behind_mark
returns-in_default-behind_mark c =
    λ ops quotes.
    rw c.unexpected.ensures
    (argument-fault c.args.text.now ops quotes c.args.self.now c.args.max c.args.name c.args.count c.args.start c.args.priority c.args.last c.requires.place
    c.in_default.ensures c.in_default-behind_mark.ensures)

pub returns : goal.returns
returns c =
    λ ops quotes.
    argument-closes c.args.text.now ops quotes c.args.self.now c.advance.new.self c.put_front.new.pieces c.args.max c.args.name c.args.count c.args.start
    c.args.priority c.args.last c.in-Some-behind_mark.end c.requires.place c.requires.built c.in_default.ensures c.in-Some-behind_mark.ensures
    (record { front = c.in_ok-put_front.ensures.front; node_is = c.in_ok-put_front.ensures.node; size = c.in_ok-put_front.ensures.len })
    c.in_ok-advance.ensures
