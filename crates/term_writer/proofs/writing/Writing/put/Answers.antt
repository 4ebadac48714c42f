use Rattle.std.proofs.Common.{reverse}
use Rattle.term_writer.specs.Styles.{lookup_of, manner_of}
use Rattle.term_writer.proofs.Wanted.{fits_trees, then_same, then_wanted}
use Rattle.term_writer.proofs.writing.Writing.put.Goals as goal

pub put_node-requires : goal.put_node-requires
put_node-requires c = fits_trees c.args.node.now (reverse c.args.self.now.stack.items) c.requires.0 c.requires.1 c.requires.2 c.requires.3

pub returns : goal.returns
returns c =
    let w = c.args.self.now in
    let m = manner_of w.style in
    let ops = lookup_of w.style.operators in
    let vs = reverse w.stack.items in
    let ws = reverse c.put_node.new.stack.items in
    let s = c.in_ok-put_node.ensures.steps in
    record {
      wanted = λ ts us e enough. then_wanted m ops c.args.node.now vs ws w.page c.put_node.new.page s ts us e enough;
      same = λ ts us e enough. then_same m ops c.args.node.now vs ws w.page c.put_node.new.page s ts us e enough;
    }
