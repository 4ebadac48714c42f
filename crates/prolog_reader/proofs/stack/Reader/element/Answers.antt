use Rattle.std.proofs.Common.{◌∷◌, ◌∙◌, codes, drop, ap}
use Rattle.pl_term.specs.declared.node.Node.{Node}
use Rattle.pl_term.specs.declared.node.Node.TheVariants.{Comp}
use Rattle.prolog_reader.specs.Pieces.{spelled}
use Rattle.prolog_reader.proofs.NameTexts.{chars-list}
use Rattle.prolog_reader.proofs.Joins.{PutsFront}
use Rattle.prolog_reader.proofs.ListElements.{element-fault, element-tail, element-closes, element-goes_on}
use Rattle.prolog_reader.proofs.stack.Reader.element.Goals as goal

pub returns-in-Some : goal.returns-in-Some
returns-in-Some c =
    λ ops quotes.
    let text = c.args.text.now in
    let old = c.args.self.now in
    let pieces = c.put_front.new.pieces in
    let puts : PutsFront old pieces c.args.last (Comp (codes ".") 2) = record {
      front = c.in_ok-put_front.ensures.front;
      node_is = c.in_ok-put_front.ensures.node ∙ ap (λ (n : Node). n ∷ spelled (drop c.args.last old.pieces.items)) c.in_ok-cell.ensures;
      size = c.in_ok-put_front.ensures.len;
    } in
    element-goes_on text ops quotes old c.push.new.self pieces c.args.max c.args.start c.args.priority c.args.last c.in-Some.end c.requires.place c.requires.built
    puts c.in-Some.ensures c.in_ok-push.ensures.pushes

pub returns-in-Some-behind_mark : goal.returns-in-Some-behind_mark
returns-in-Some-behind_mark c =
    λ ops quotes.
    let text = c.args.text.now in
    let old = c.args.self.now in
    let pieces = c.put_front.new.pieces in
    let puts : PutsFront old pieces c.args.last (Comp (codes ".") 2) = record {
      front = c.in_ok-put_front.ensures.front;
      node_is = c.in_ok-put_front.ensures.node ∙ ap (λ (n : Node). n ∷ spelled (drop c.args.last old.pieces.items)) c.in_ok-cell.ensures;
      size = c.in_ok-put_front.ensures.len;
    } in
    element-tail text ops quotes old c.push-in-Some-behind_mark.new.self pieces c.args.max c.args.start c.args.priority c.args.last c.in-Some-behind_mark.end c.requires.place
    c.requires.built puts c.in_default.ensures c.in-Some-behind_mark.ensures c.in_ok-push-2.ensures.pushes

pub returns-in_default-behind_mark-2 : goal.returns-in_default-behind_mark-2
returns-in_default-behind_mark-2 c =
    λ ops quotes.
    rw c.unexpected.ensures
    (element-fault c.args.text.now ops quotes c.args.self.now c.args.max c.args.start c.args.priority c.args.last c.requires.place c.in_default.ensures
    c.in_default-behind_mark.ensures c.in_default-behind_mark-2.ensures)

pub returns : goal.returns
returns c =
    λ ops quotes.
    let text = c.args.text.now in
    let old = c.args.self.now in
    let pieces = c.put_front.new.pieces in
    let puts : PutsFront old pieces c.args.last (Comp (codes ".") 2) = record {
      front = c.in_ok-put_front.ensures.front;
      node_is = c.in_ok-put_front.ensures.node ∙ ap (λ (n : Node). n ∷ spelled (drop c.args.last old.pieces.items)) c.in_ok-cell.ensures;
      size = c.in_ok-put_front.ensures.len;
    } in
    element-closes text ops quotes old c.advance.new.self pieces c.put_leaf.new.pieces c.args.max c.args.start c.args.priority c.args.last
    c.in-Some-behind_mark-2.end c.in_ok-from_str.field-0 c.requires.place c.requires.built puts c.in_default.ensures c.in_default-behind_mark.ensures
    c.in-Some-behind_mark-2.ensures (c.in_ok-from_str.ensures ∙ chars-list) c.in_ok-put_leaf.ensures.front c.in_ok-put_leaf.ensures.leaf
    c.in_ok-put_leaf.ensures.len c.in_ok-advance.ensures
