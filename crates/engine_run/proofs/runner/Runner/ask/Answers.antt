use Rattle.std.proofs.Common.{refl, sym, ◌∙◌, append-nil, List, ℕ, IsSome, Ok, Err, subst}
use Rattle.std.specs.List.{All}
use Rattle.iso_engine.proofs.Solutions.{view_is}
use Rattle.engine_run.specs.declared.runner.Runner.{Runner}
use Rattle.engine_run.specs.declared.runner.Stage.TheVariants.{Asks, Over}
use Rattle.engine_run.specs.declared.runner.Turn.TheVariants.{Goes, Ended}
use Rattle.engine_run.specs.declared.unfinished.Unfinished.TheVariants.{NeedsAtoms, Worn}
use Rattle.engine_run.specs.Runners.{HasAsked, IsBetween, at_stage}
use Rattle.engine_run.proofs.Asking.{is_again, is_done, is_item, is_worn, item_between, needs_atoms}
use Rattle.engine_run.proofs.Refused.{refused_again, refused_last, refused_same}
use Rattle.engine_run.proofs.runner.Runner.ask.Goals as goal

-- An item was given, and its search has begun.

pub returns-in-Item-clause-asked : goal.returns-in-Item-clause-asked
returns-in-Item-clause-asked g c =
    let a = c.next-next in
    let old = c.args.self.now in
    let atoms = a.new.atoms in
    let n = g.W.A.Atoms.held atoms in
    let u = g.W.World.told a.new.world in
    let mid : Runner g.row.S.Denot = record old { script = a.new.self; text = a.new.text; moves = a.new.moves } in
    is_item g.S.Script.execution g.S.Script.part g.S.Script.plays g.S.Script.kept g.S.Script.name g.S.Script.variables g.met.S.Script.lines g.met.S.Script.reported
    (g.W.A.Atoms.held c.args.atoms.now) n (g.W.World.told c.args.world.now) u old mid c.begin.new.self _ c.args.ended c.as_ref.ensures.value a.ensures.named refl
    c.in-Item.goal c.in-Item.directive c.in_ok-begin-in-Item.ensures.begun
    (g.met.W.A.Atoms.fixed_held atoms) (view_is n u (g.met.W.A.Atoms.fixed_held atoms) (g.met.W.A.Atoms.unlike atoms) (g.met.W.A.Atoms.finite atoms))
    c.in-Item.ensures.given

pub returns-in-Item-clause-ready : goal.returns-in-Item-clause-ready
returns-in-Item-clause-ready g c =
    let a = c.next-next in
    let old = c.args.self.now in
    let atoms = a.new.atoms in
    let n = g.W.A.Atoms.held atoms in
    let u = g.W.World.told a.new.world in
    let mid : Runner g.row.S.Denot = record old { script = a.new.self; text = a.new.text; moves = a.new.moves } in
    item_between g.S.Script.execution g.S.Script.part g.S.Script.plays g.S.Script.kept g.S.Script.name g.S.Script.variables g.met.S.Script.lines g.met.S.Script.reported
    (g.W.A.Atoms.held c.args.atoms.now) n (g.W.World.told c.args.world.now) u g.S.Script.over g.S.Script.names mid c.begin.new.self
    c.in-Item.goal c.in-Item.directive c.in_ok-begin-in-Item.ensures.begun
    (view_is n u (g.met.W.A.Atoms.fixed_held atoms) (g.met.W.A.Atoms.unlike atoms) (g.met.W.A.Atoms.finite atoms))
    c.in-Item.ensures.at_hand c.in-Item.ensures.over c.in-Item.ensures.held

pub returns-in-Item-clause-refusals : goal.returns-in-Item-clause-refusals
returns-in-Item-clause-refusals g c =
    refused_same (g.W.A.Atoms.refusals c.args.atoms.now) (g.W.A.Atoms.refusals c.next-next.new.atoms)
    (c.in-Item.ensures.refusals ∙ append-nil (g.W.A.Atoms.refusals c.args.atoms.now))

-- There is no further item.

pub returns-in-Done-clause-asked : goal.returns-in-Done-clause-asked
returns-in-Done-clause-asked g c =
    let a = c.next-next in
    let m = g.W.A.Atoms.held c.args.atoms.now in
    let t = g.W.World.told c.args.world.now in
    let old = c.args.self.now in
    let n = g.W.A.Atoms.held a.new.atoms in
    let u = g.W.World.told a.new.world in
    let mid : Runner g.row.S.Denot = record old { script = a.new.self; text = a.new.text; moves = a.new.moves } in
    subst (λ (z : Runner g.row.S.Denot). HasAsked g.S.Script.execution g.S.Script.part g.S.Script.plays g.S.Script.kept g.S.Script.name g.S.Script.variables m t old c.args.ended n u z (Ok (Ended c.ends_over.result)))
    (sym c.go_to.ensures)
    (is_done g.S.Script.execution g.S.Script.part g.S.Script.plays g.S.Script.kept g.S.Script.name g.S.Script.variables g.met.S.Script.lines g.met.S.Script.reported
    m n t u old (at_stage mid Over) _ c.args.ended c.as_ref.ensures.value a.ensures.named
    c.in-Done.halted c.ends_over.result refl c.requires.asked c.ends_over.ensures.ends c.in-Done.ensures.given)

pub returns-in-Done-clause-ready : goal.returns-in-Done-clause-ready
returns-in-Done-clause-ready g c =
    let a = c.next-next in
    let n = g.W.A.Atoms.held a.new.atoms in
    let mid : Runner g.row.S.Denot = record c.args.self.now { script = a.new.self; text = a.new.text; moves = a.new.moves } in
    subst (λ (z : Runner g.row.S.Denot). IsBetween g.S.Script.part g.S.Script.over g.S.Script.names n (g.W.World.told a.new.world) z) (sym c.go_to.ensures)
    (record {
      stage = tt;
      held = subst (λ (l : List ℕ). All (λ a. IsSome (n a)) l) (append-nil (g.S.Script.names a.new.self)) c.in-Done.ensures.held;
      done_is = c.in-Done.ensures.over;
    })

pub returns-in-Done-clause-refusals : goal.returns-in-Done-clause-refusals
returns-in-Done-clause-refusals g c =
    refused_same (g.W.A.Atoms.refusals c.args.atoms.now) (g.W.A.Atoms.refusals c.next-next.new.atoms)
    (c.in-Done.ensures.refusals ∙ append-nil (g.W.A.Atoms.refusals c.args.atoms.now))

-- None was given, and the script stays where it is.

pub returns-in-NeedsAtoms-clause-asked : goal.returns-in-NeedsAtoms-clause-asked
returns-in-NeedsAtoms-clause-asked g c =
    let a = c.next-next in
    let m = g.W.A.Atoms.held c.args.atoms.now in
    let t = g.W.World.told c.args.world.now in
    let old = c.args.self.now in
    let n = g.W.A.Atoms.held a.new.atoms in
    let u = g.W.World.told a.new.world in
    let mid : Runner g.row.S.Denot = record old { script = a.new.self; text = a.new.text; moves = a.new.moves } in
    subst (λ (z : Runner g.row.S.Denot). HasAsked g.S.Script.execution g.S.Script.part g.S.Script.plays g.S.Script.kept g.S.Script.name g.S.Script.variables m t old c.args.ended n u z (Err (NeedsAtoms c.in-NeedsAtoms.pass)))
    (sym c.go_to-in-NeedsAtoms.ensures)
    (needs_atoms g.S.Script.execution g.S.Script.part g.S.Script.plays g.S.Script.kept g.S.Script.name g.S.Script.variables g.met.S.Script.lines g.met.S.Script.reported
    m n t u old (at_stage mid Asks) _ c.args.ended c.as_ref.ensures.value a.ensures.named
    refl c.in-NeedsAtoms.pass c.in-NeedsAtoms.ensures.given)

pub returns-in-NeedsAtoms-clause-ready : goal.returns-in-NeedsAtoms-clause-ready
returns-in-NeedsAtoms-clause-ready g c =
    let a = c.next-next in
    let n = g.W.A.Atoms.held a.new.atoms in
    let mid : Runner g.row.S.Denot = record c.args.self.now { script = a.new.self; text = a.new.text; moves = a.new.moves } in
    subst (λ (z : Runner g.row.S.Denot). IsBetween g.S.Script.part g.S.Script.over g.S.Script.names n (g.W.World.told a.new.world) z) (sym c.go_to-in-NeedsAtoms.ensures)
    (record {
      stage = c.in-NeedsAtoms.ensures.at_hand;
      held = subst (λ (l : List ℕ). All (λ a. IsSome (n a)) l) (append-nil (g.S.Script.names a.new.self)) c.in-NeedsAtoms.ensures.held;
      done_is = c.in-NeedsAtoms.ensures.over;
    })

pub returns-in-NeedsAtoms-clause-refusals : goal.returns-in-NeedsAtoms-clause-refusals
returns-in-NeedsAtoms-clause-refusals g c =
    refused_last (g.W.A.Atoms.refusals c.args.atoms.now) (g.W.A.Atoms.refusals c.next-next.new.atoms) _ c.in-NeedsAtoms.ensures.refusals

pub returns-in-Worn-clause-asked : goal.returns-in-Worn-clause-asked
returns-in-Worn-clause-asked g c =
    let a = c.next-next in
    let m = g.W.A.Atoms.held c.args.atoms.now in
    let t = g.W.World.told c.args.world.now in
    let old = c.args.self.now in
    let n = g.W.A.Atoms.held a.new.atoms in
    let u = g.W.World.told a.new.world in
    let mid : Runner g.row.S.Denot = record old { script = a.new.self; text = a.new.text; moves = a.new.moves } in
    subst (λ (z : Runner g.row.S.Denot). HasAsked g.S.Script.execution g.S.Script.part g.S.Script.plays g.S.Script.kept g.S.Script.name g.S.Script.variables m t old c.args.ended n u z (Err (Worn c.in-Worn.word)))
    (sym c.go_to-in-Worn.ensures)
    (is_worn g.S.Script.execution g.S.Script.part g.S.Script.plays g.S.Script.kept g.S.Script.name g.S.Script.variables g.met.S.Script.lines g.met.S.Script.reported
    m n t u old (at_stage mid Asks) _ c.args.ended c.as_ref.ensures.value a.ensures.named
    refl c.in-Worn.word c.in-Worn.ensures.given)

pub returns-in-Worn-clause-ready : goal.returns-in-Worn-clause-ready
returns-in-Worn-clause-ready g c =
    let a = c.next-next in
    let n = g.W.A.Atoms.held a.new.atoms in
    let mid : Runner g.row.S.Denot = record c.args.self.now { script = a.new.self; text = a.new.text; moves = a.new.moves } in
    subst (λ (z : Runner g.row.S.Denot). IsBetween g.S.Script.part g.S.Script.over g.S.Script.names n (g.W.World.told a.new.world) z) (sym c.go_to-in-Worn.ensures)
    (record {
      stage = c.in-Worn.ensures.at_hand;
      held = subst (λ (l : List ℕ). All (λ a. IsSome (n a)) l) (append-nil (g.S.Script.names a.new.self)) c.in-Worn.ensures.held;
      done_is = c.in-Worn.ensures.over;
    })

pub returns-in-Worn-clause-refusals : goal.returns-in-Worn-clause-refusals
returns-in-Worn-clause-refusals g c =
    refused_last (g.W.A.Atoms.refusals c.args.atoms.now) (g.W.A.Atoms.refusals c.next-next.new.atoms) _ c.in-Worn.ensures.refusals

pub returns-in-Retry-clause-asked : goal.returns-in-Retry-clause-asked
returns-in-Retry-clause-asked g c =
    let a = c.next-next in
    let m = g.W.A.Atoms.held c.args.atoms.now in
    let t = g.W.World.told c.args.world.now in
    let old = c.args.self.now in
    let n = g.W.A.Atoms.held a.new.atoms in
    let u = g.W.World.told a.new.world in
    let mid : Runner g.row.S.Denot = record old { script = a.new.self; text = a.new.text; moves = a.new.moves } in
    subst (λ (z : Runner g.row.S.Denot). HasAsked g.S.Script.execution g.S.Script.part g.S.Script.plays g.S.Script.kept g.S.Script.name g.S.Script.variables m t old c.args.ended n u z (Ok Goes))
    (sym c.go_to-in-Retry.ensures)
    (is_again g.S.Script.execution g.S.Script.part g.S.Script.plays g.S.Script.kept g.S.Script.name g.S.Script.variables g.met.S.Script.lines g.met.S.Script.reported
    m n t u old (at_stage mid Asks) _ c.args.ended c.as_ref.ensures.value a.ensures.named
    refl c.in-Retry._cause c.in-Retry.ensures.given)

pub returns-in-Retry-clause-ready : goal.returns-in-Retry-clause-ready
returns-in-Retry-clause-ready g c =
    let a = c.next-next in
    let n = g.W.A.Atoms.held a.new.atoms in
    let mid : Runner g.row.S.Denot = record c.args.self.now { script = a.new.self; text = a.new.text; moves = a.new.moves } in
    subst (λ (z : Runner g.row.S.Denot). IsBetween g.S.Script.part g.S.Script.over g.S.Script.names n (g.W.World.told a.new.world) z) (sym c.go_to-in-Retry.ensures)
    (record {
      stage = c.in-Retry.ensures.at_hand;
      held = subst (λ (l : List ℕ). All (λ a. IsSome (n a)) l) (append-nil (g.S.Script.names a.new.self)) c.in-Retry.ensures.held;
      done_is = c.in-Retry.ensures.over;
    })

pub returns-in-Retry-clause-refusals : goal.returns-in-Retry-clause-refusals
returns-in-Retry-clause-refusals g c =
    refused_again (g.W.A.Atoms.refusals c.args.atoms.now) (g.W.A.Atoms.refusals c.next-next.new.atoms) c.in-Retry._cause c.in-Retry.ensures.refusals
