use Rattle.std.proofs.Common.{◌+◌, ◌<◌, length, arith}
use Rattle.std.proofs.lemmas.List.Elements.{All-weaker}
use Rattle.pl_term.specs.Variables.{variables}
use Rattle.term_store.specs.Contents.{numbers_of}
use Rattle.iso_search.proofs.Grown.{whole_stays}
use Rattle.iso_search.proofs.Recoveries.{stays_built}
use Rattle.iso_search.proofs.search.Search.build.Goals as goal

pub returns-clause-whole : goal.returns-clause-whole
returns-clause-whole c =
    let e = c.args.self.now in
    let s = c.build.new.self in
    let built = c.in_ok-place.ensures in
    whole_stays e s (stays_built e.store s c.args.from c.args.term c.in_ok-place.place built.built built.adds) c.requires.whole
    (All-weaker (λ m. m < c.args.from + length (variables c.args.term)) (λ m. m < e.next_variable) (λ m lt. omega (arith, lt, c.requires.taken)) (numbers_of s) built.above)
