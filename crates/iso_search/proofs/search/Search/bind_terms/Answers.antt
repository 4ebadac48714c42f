use Rattle.std.proofs.Common.{◌<◌, subst, sym, arith}
use Rattle.std.specs.List.{All}
use Rattle.iso_search.proofs.Wholes.{whole_added}
use Rattle.iso_search.proofs.search.Search.bind_terms.Goals as goal

pub returns-clause-whole : goal.returns-clause-whole
returns-clause-whole c =
    let e = c.args.self.now in
    let s = c.unify.new.self in
    let adds = c.in_ok-same.ensures.adds in
    whole_added e s e.next_variable adds c.in_ok-same.ensures.size.budget (omega arith)
    (subst (All (λ m. m < e.next_variable)) (sym c.in_ok-same.ensures.size.numbers) c.requires.whole.above) c.requires.whole
