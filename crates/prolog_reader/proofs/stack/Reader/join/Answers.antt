use Rattle.std.proofs.Common.{ap}
use Rattle.prolog_reader.specs.Stack.{joined_by, part_at}
use Rattle.prolog_reader.proofs.Joins.{joins-infix}
use Rattle.prolog_reader.proofs.stack.Reader.join.Goals as goal

pub returns-in_ok-push-in-Infix : goal.returns-in_ok-push-in-Infix
returns-in_ok-push-in-Infix c =
    λ ops quotes.
    let text = c.args.text.now in
    let old = c.args.self.now in
    joins-infix text ops quotes old c.push.new.self c.put_front.new.pieces c.args.max c.args.priority c.args.start c.args.joining.name c.in-Infix.own c.in-Infix.right
    c.args.joining.end _ c.requires.sound c.requires.forward c.requires.within
    (record { front = c.in_ok-put_front-in-Infix.ensures.front; node_is = c.in_ok-put_front-in-Infix.ensures.node; size = c.in_ok-put_front-in-Infix.ensures.len })
    c.in_ok-push-in-Infix.ensures.pushes
    (ap (joined_by text ops quotes c.args.max (part_at old c.args.priority c.args.start) c.args.joining.name c.args.joining.end) c.in-Infix.is)
