use Rattle.prolog_reader.proofs.Ends.{close-fault, close-turns}
use Rattle.prolog_reader.proofs.stack.Reader.close.Goals as goal

pub returns-in_default : goal.returns-in_default
returns-in_default c =
    λ ops quotes.
    rw c.unexpected.ensures
    (close-fault c.args.text.now ops quotes c.args.self.now c.args.max c.args.mark c.args.start c.args.priority c.args.last c.requires.place c.in_default.ensures)

pub returns : goal.returns
returns c =
    λ ops quotes.
    close-turns c.args.text.now ops quotes c.args.self.now c.advance.new.self c.args.max c.args.mark c.args.start c.args.priority c.args.last c.in-Some.end
    c.requires.place c.requires.built c.in-Some.ensures c.in_ok-advance.ensures
