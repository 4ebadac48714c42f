use Rattle.std.proofs.Common.{◌≡◌, ◌<◌, ap, sym, subst, ◌∙◌, ◌∷◌}
use Rattle.std.specs.Prelude.{All}
use Rattle.gen_core.specs.Visible.{fresh}
use Rattle.gen_core.specs.ClauseIndex.{Added, clauses_of}
use Rattle.gen_core.proofs.Listed.{on_ok, free_on, adds_first}
use Rattle.gen_core.proofs.dated.Dated.add_first.Goals as goal

pub add-requires-clause-free : goal.add-requires-clause-free
add-requires-clause-free g c =
    free_on g.C.Key.Ord.cmp g.C.Kept.any g.C.Kept.key_of c.self.inside.index c.self.invariant.0 c.args.place (subst (All (λ d. d.place < c.args.place)) (sym c.self.view_is) c.requires.later)

pub returns-clause-ok : goal.returns-clause-ok
returns-clause-ok g c =
    on_ok c.add.result
    (Added c.self.inside.index.clauses c.add.new.self.clauses c.first_number-number.result (fresh c.args.place c.args.clause))
    (clauses_of c.add.new.self.clauses ≡ fresh c.args.place c.args.clause ∷ c.args.self.now)
    (λ a. adds_first g.C.Key.Ord.cmp g.C.Kept.any g.C.Kept.key_of c.self.inside.index c.self.invariant.0 c.add.new.self.clauses c.args.place c.first_number-number.result c.args.clause c.first_number-number.ensures.number c.requires.bound (subst (All (λ d. d.place < c.args.place)) (sym c.self.view_is) c.requires.later) a ∙ ap (λ ds. fresh c.args.place c.args.clause ∷ ds) c.self.view_is)
    c.add.ensures.ok
