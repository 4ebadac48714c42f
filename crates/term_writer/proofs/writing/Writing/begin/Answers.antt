use Rattle.term_writer.specs.Styles.{lookup_of, manner_of}
use Rattle.term_writer.proofs.Wanted.{begun_shows, begun_wants}
use Rattle.term_writer.proofs.writing.Writing.begin.Goals as goal

pub returns : goal.returns
returns c =
    let only = c.in_ok-stack.ensures.items in
    record {
      one = begun_wants c.args.max _ only;
      text_is = λ t. begun_shows (manner_of c.args.style) (lookup_of c.args.style.operators) c.args.max _ c.args.bytes.items t only;
    }
