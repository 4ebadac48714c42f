use Rattle.std.proofs.Common.{false, sym, ◌∙◌}
use Rattle.gen_core.proofs.Calls.{shown_is}
use Rattle.gen_core.proofs.SharedLaws.{lone_choice}
use Rattle.gen_core.proofs.clause_index.ClauseIndex.alone.Goals as goal

pub returns-then-is_visible : goal.returns-then-is_visible
returns-then-is_visible g c =
    shown_is c.in-Some.dated.now c.hit.result.place c.hit.result.clause.now c.hit.result.more false c.hit.ensures
    ∙ lone_choice g.C.Key.Ord.cmp g.C.Kept.any g.C.Kept.key_of c.args.self.now c.requires.sound c.args.g c.args.first.now c.in-Some.number c.in-Some.dated.now
    c.in-Some.ensures.lone c.in-Some.ensures.at (sym c.is_visible.ensures ∙ c.if-is_visible.true)
