use Rattle.std.proofs.Common.{List, ℕ, refl, subst}
use Rattle.pl_term.specs.Tree.{Chars}
use Rattle.engine_run.specs.Runners.{put_by}
use Rattle.engine_run.specs.Searched.{IsSearched, UnlessMemory}
use Rattle.engine_run.proofs.Sliced.{goes_again, refused_so, searched_by}
use Rattle.engine_run.proofs.runner.Runner.slice_goal.Goals as goal

pub returns-clause-searched : goal.returns-clause-searched
returns-clause-searched g c =
    let s = c.slice_with-sliced in
    let old = c.args.self.now in
    let m = g.W.A.Atoms.held c.args.atoms.now in
    let n = g.W.A.Atoms.held s.new.atoms in
    let t = g.W.World.told c.args.world.now in
    let u = g.W.World.told s.new.world in
    searched_by m n t u old _ c.args.engine s.new.engine s.result c.goes.result c.goes.ensures s.ensures.sound s.ensures.ready g.S.Script.variables refl
    (subst
    (λ (names : List (Chars × ℕ)).
    UnlessMemory s.result (IsSearched (put_by old.lines names) m t c.args.engine old.moves n u s.new.engine s.new.moves old.output.items s.new.out.items s.result))
    c.variable_names.ensures
    s.ensures.searched)

pub returns-clause-goes : goal.returns-clause-goes
returns-clause-goes g c = goes_again c.slice_with-sliced.result c.goes.result c.goes.ensures

pub returns-clause-refusals : goal.returns-clause-refusals
returns-clause-refusals g c =
    refused_so (g.W.A.Atoms.refusals c.args.atoms.now) (g.W.A.Atoms.refusals c.slice_with-sliced.new.atoms) c.slice_with-sliced.result c.goes.result c.goes.ensures
    c.slice_with-sliced.ensures.refusals
