use Rattle.std.proofs.Common.{List, sym, subst}
use Rattle.run_model.specs.Report.{with_output}
use Rattle.atom_words.specs.declared.view.Refusal.{Refusal}
use Rattle.atom_api.specs.Names.{Names}
use Rattle.engine_run.specs.Searched.{IsRefusedOnce, IsSearched, UnlessMemory, last_refusals}
use Rattle.engine_run.proofs.Answered.{ran_goal}
use Rattle.engine_run.proofs.Stopping.{refused_once, searched}
use Rattle.engine_run.proofs.slices.goal_slice.Goals as goal

pub returns-clause-refusals : goal.returns-clause-refusals
returns-clause-refusals g c =
    let xs = g.W.A.Atoms.refusals c.args.atoms.now in
    let r = c.stopped_by.result in
    subst (λ (ys : List Refusal). UnlessMemory r (IsRefusedOnce xs ys (last_refusals r))) (sym c.put_answer.ensures.refusals)
    (refused_once xs (g.W.A.Atoms.refusals c.slice-slice.new.atoms) c.slice-slice.result r c.stopped_by.ensures c.slice-slice.ensures.refusals)

pub returns-clause-searched : goal.returns-clause-searched
returns-clause-searched g c =
    let names = c.args.names.now in
    let m = g.W.A.Atoms.held c.args.atoms.now in
    let n = g.W.A.Atoms.held c.slice-slice.new.atoms in
    let t = g.W.World.told c.args.world.now in
    let u = g.W.World.told c.slice-slice.new.world in
    let e = c.args.engine.now in
    let f = c.slice-slice.new.self in
    let old = c.args.out.now.items in
    let mid = c.slice-slice.new.out.items in
    let new = c.put_answer.new.out.items in
    let s = c.slice-slice.result in
    let r = c.stopped_by.result in
    let before = c.args.moves.now in
    let after = c.slice-slice.new.moves in
    subst (λ (k : Names). UnlessMemory r (IsSearched (with_output names) m t e before k u f after old new r)) (sym c.put_answer.ensures.same)
    (searched (with_output names) c.args.inferences before after m n t u e f old mid new s r c.stopped_by.ensures c.slice-slice.ensures.sliced
    (λ k h. ran_goal names c.args.inferences k m n t u e f old mid new s h c.in_ok-put_answer.ensures.puts))
