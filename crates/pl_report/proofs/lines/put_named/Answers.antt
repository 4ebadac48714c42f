use Rattle.std.proofs.Common.{◌≤◌, ◌++◌, length, ap, ◌∙◌, arith}
use Rattle.std.specs.Prelude.{encode_utf8_all}
use Rattle.pl_term.specs.Nodes.{nodes}
use Rattle.pl_model.specs.TermWriting.{writeq}
use Rattle.pl_report.proofs.WrittenLaws.{all_written, none_written}
use Rattle.pl_report.proofs.lines.put_named.Goals as goal

pub loop-i-init : goal.loop-i-init
loop-i-init c = none_written c.args.term.now c.in_ok-writing.writing c.in_ok-writing.ensures.one

pub put_node-requires : goal.put_node-requires
put_node-requires c = record { inside = omega (arith, c.loop-i-test.true, c.len-i-end.ensures); begun = (c.in_ok-writing.writing, c.loop-i.invariant) }

pub loop-i-preserved : goal.loop-i-preserved
loop-i-preserved c = c.in_ok-put_node.ensures c.in_ok-writing.writing c.loop-i.invariant

pub end-requires : goal.end-requires
end-requires c =
    let past : length (nodes c.args.term.now) ≤ c.loop-i.i = omega (arith, c.loop-i-test.false, c.len-i-end.ensures) in
    (all_written c.args.term.now c.in_ok-writing.writing c.loop-i.i c.loop-i.writing past c.loop-i.invariant).0

pub returns : goal.returns
returns c =
    let t = c.args.term.now in
    let past : length (nodes t) ≤ c.loop-i.i = omega (arith, c.loop-i-test.false, c.len-i-end.ensures) in
    record {
      added =
          c.in_ok-out.ensures ∙ (all_written t c.in_ok-writing.writing c.loop-i.i c.loop-i.writing past c.loop-i.invariant).1 ∙ c.in_ok-writing.ensures.text_is t
          ∙ ap (λ v. v.items ++ encode_utf8_all (writeq c.args.ops.now 1200 t)) c.replace-bytes.ensures.value;
    }
