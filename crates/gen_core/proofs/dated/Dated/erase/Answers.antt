use Rattle.std.proofs.Common.{◌≡◌, ap, ◌∙◌, map, ◌&&◌, ◌==◌}
use Rattle.std.specs.List.{list_any}
use Rattle.gen_core.specs.Visible.{is_live, erased_by}
use Rattle.gen_core.specs.ClauseIndex.{ErasesAt, clauses_of}
use Rattle.gen_core.proofs.Listed.{at_ok, if_ok, erases_at}
use Rattle.gen_core.proofs.SharedLaws.{shared_stay}
use Rattle.gen_core.proofs.dated.Dated.erase.Goals as goal

pub invariant_of-self-2 : goal.invariant_of-self-2
invariant_of-self-2 g c = (
  c.erase.ensures.sound,
  c.note.ensures.runs,
  shared_stay g.C.Key.Ord.cmp g.C.Kept.any g.C.Kept.key_of c.self.inside.index.clauses c.erase.new.self.clauses c.self.inside.shared c.self.invariant.2 c.in_ok-erased.ensures.kept,
)

pub returns-clause-was : goal.returns-clause-was
returns-clause-was g c =
    at_ok (λ b. b ≡ list_any (λ d. (d.place == c.args.clause) && is_live d) c.args.self.now) c.erase.result c.in_ok-erased.erased c.in_ok-erased.was
    (if_ok c.erase.result
    (ErasesAt c.self.inside.index.clauses c.erase.new.self.clauses c.args.clause c.args.place)
    (λ b. b ≡ list_any (λ d. (d.place == c.args.clause) && is_live d) c.args.self.now)
    (λ b e. (erases_at g.C.Key.Ord.cmp g.C.Kept.any g.C.Kept.key_of c.self.inside.index c.self.invariant.0 c.erase.new.self.clauses c.args.clause c.args.place b e).0 ∙ ap (list_any (λ d. (d.place == c.args.clause) && is_live d)) c.self.view_is)
    c.erase.ensures.ok)

pub returns-clause-ok : goal.returns-clause-ok
returns-clause-ok g c =
    at_ok (λ b. clauses_of c.erase.new.self.clauses ≡ map (erased_by c.args.clause c.args.place) c.args.self.now) c.erase.result c.in_ok-erased.erased c.in_ok-erased.was
    (if_ok c.erase.result
    (ErasesAt c.self.inside.index.clauses c.erase.new.self.clauses c.args.clause c.args.place)
    (λ b. clauses_of c.erase.new.self.clauses ≡ map (erased_by c.args.clause c.args.place) c.args.self.now)
    (λ b e. (erases_at g.C.Key.Ord.cmp g.C.Kept.any g.C.Kept.key_of c.self.inside.index c.self.invariant.0 c.erase.new.self.clauses c.args.clause c.args.place b e).1 ∙ ap (map (erased_by c.args.clause c.args.place)) c.self.view_is)
    c.erase.ensures.ok)
