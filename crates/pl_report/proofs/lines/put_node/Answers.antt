use Rattle.pl_report.proofs.WrittenLaws.{is_wanted, one_written}
use Rattle.pl_report.proofs.lines.put_node.Goals as goal

pub put-requires : goal.put-requires
put-requires c =
    is_wanted c.args.term.now c.requires.begun.0 c.args.at c.in_ok-node.node c.args.writing.now c.requires.inside c.in_ok-node.ensures c.requires.begun.1

pub returns : goal.returns
returns c w h =
    one_written c.args.term.now w c.args.at c.in_ok-node.node c.args.writing.now c.requires.inside c.in_ok-node.ensures h c.put.new.self c.in_ok-put.ensures
