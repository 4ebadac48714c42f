use Rattle.std.proofs.Common.{ap}
use Rattle.term_writer.specs.Styles.{lookup_of, manner_of}
use Rattle.term_writer.proofs.Whole.{whole_text}
use Rattle.term_writer.proofs.writer.write_text.Goals as goal

pub returns-clause-written : goal.returns-clause-written
returns-clause-written c =
    whole_text c.write_nodes-written.result (manner_of c.args.style) (lookup_of c.args.style.operators) _ _ _ _ c.args.max _ c.args.t.now c.write_nodes-written.ensures.shows (ap (λ v. v.items) c.replace.ensures.value) c.nodes.ensures
