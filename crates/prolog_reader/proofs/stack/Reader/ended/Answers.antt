use Rattle.std.proofs.Common.{◌≡◌, Ok, ◌++◌, ◌∷◌, [], arith, rules}
use Rattle.std.proofs.lemmas.List.{nil_from_length}
use Rattle.prolog_reader.specs.declared.stack.Frame.TheVariants.{Behind, Closing, Arguments, Elements}
use Rattle.prolog_reader.specs.declared.stack.Mode.TheVariants.{Part as PartMode}
use Rattle.prolog_reader.proofs.Ends.{behind-turns}
use Rattle.prolog_reader.proofs.ListElements.{whole-turns, popped-turns, popped-built}
use Rattle.prolog_reader.proofs.stack.Reader.ended.Goals as goal

pub returns-in-None : goal.returns-in-None
returns-in-None c =
    λ ops quotes.
    whole-turns c.args.text.now ops quotes c.args.self.now c.pop.new.self c.args.priority c.args.start c.requires
    (nil_from_length c.args.self.now.frames.items (omega (arith, c.args.self.now.frames.ok, c.in-None.ensures.cases.0)))
    (nil_from_length c.pop.new.self.items (omega (arith, c.pop.new.self.ok, c.in-None.ensures.cases.1)))

pub returns-in-Some-Behind : goal.returns-in-Some-Behind
returns-in-Some-Behind c =
    λ ops quotes.
    let f = Behind c.in-Some-Behind.max c.in-Some-Behind.own c.in-Some-Behind.first in
    let items : c.args.self.now.frames.items ≡ c.pop.new.self.items ++ f ∷ [] = search rules in
    popped-turns c.args.text.now ops quotes c.args.self.now (record c.args.self.now { frames = c.pop.new.self }) c.pop.new.self f c.args.priority c.args.start
    (Ok (PartMode c.in-Some-Behind.max c.in-Some-Behind.own c.in-Some-Behind.first)) items
    (behind-turns c.args.text.now ops quotes (record c.args.self.now { frames = c.pop.new.self }) c.in-Some-Behind.max c.in-Some-Behind.own c.in-Some-Behind.first
    c.args.priority c.args.start
    (record { within = c.requires.place.within; ahead = c.requires.place.ahead; numbered = c.requires.place.numbered })
    (popped-built c.args.self.now c.pop.new.self f c.args.start items c.requires.fits))

pub returns-in-Some-Closing : goal.returns-in-Some-Closing
returns-in-Some-Closing c =
    λ ops quotes.
    popped-turns c.args.text.now ops quotes c.args.self.now c.close.new.self c.pop.new.self
    (Closing c.in-Some-Closing.max c.in-Some-Closing.mark c.in-Some-Closing.first) c.args.priority c.args.start c.close.result (search rules)
    (c.close.ensures ops quotes)

pub returns-in-Some-Arguments : goal.returns-in-Some-Arguments
returns-in-Some-Arguments c =
    λ ops quotes.
    popped-turns c.args.text.now ops quotes c.args.self.now c.argument.new.self c.pop.new.self
    (Arguments c.in-Some-Arguments.max c.in-Some-Arguments.name c.in-Some-Arguments.count c.in-Some-Arguments.first) c.args.priority c.args.start
    c.argument.result (search rules) (c.argument.ensures ops quotes)

pub returns-in-Some-Elements : goal.returns-in-Some-Elements
returns-in-Some-Elements c =
    λ ops quotes.
    popped-turns c.args.text.now ops quotes c.args.self.now c.element.new.self c.pop.new.self
    (Elements c.in-Some-Elements.max c.in-Some-Elements.first) c.args.priority c.args.start c.element.result (search rules) (c.element.ensures ops quotes)
