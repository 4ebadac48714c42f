use Rattle.std.proofs.Common.{◌≤◌, length, sym, subst, ◌∙◌}
use Rattle.iso_engine.specs.Dispatching.{AreHeld}
use Rattle.iso_search.specs.declared.search.Search.{Search}
use Rattle.iso_search.proofs.Texts.{texts_apart}
use Rattle.world_api.proofs.Gaining.{gains_weaker}
use Rattle.iso_engine.proofs.RowSteps.{IsCosted, arguments_held, asked_given, led_leads, origin, row_made, spent_leads, unrefused}
use Rattle.iso_engine.proofs.rows.run_row.Goals as goal

pub returns-then-not-infer-clause-tried : goal.returns-then-not-infer-clause-tried
returns-then-not-infer-clause-tried g c =
    let e = c.args.search.now in
    let x = c.infer.new.self in
    spent_leads e x c.infer.ensures.kept c.args.goal.now c.args.rest (g.A.Atoms.held c.args.atoms.now) c.requires.goal c.infer.ensures.whole
    (subst (IsCosted e x c.infer.ensures.kept c.args.goal.now c.args.rest) c.if-not-infer.true c.infer.ensures.step)

pub row_of-requires-clause-held : goal.row_of-requires-clause-held
row_of-requires-clause-held g c =
    let e = c.args.search.now in
    let m = g.A.Atoms.held c.args.atoms.now in
    let r = c.args.goal.now in
    subst (λ (y : Search). AreHeld m y.store r.arguments) (sym c.infer.ensures.kept)
    (arguments_held m e.store r c.requires.goal.goal_is c.requires.held)

pub returns-in_err-row-clause-asked : goal.returns-in_err-row-clause-asked
returns-in_err-row-clause-asked g c =
    let e = c.args.search.now in
    let a = c.args.atoms.now in
    let m = g.A.Atoms.held a in
    gains_weaker _ _ (g.A.Atoms.asked a) (g.A.Atoms.asked c.row_of.new.atoms)
    (asked_given e c.infer.new.self c.infer.ensures.kept c.args.goal.now c.args.rest m (g.met.A.Atoms.fixed_held a)
    (texts_apart m (g.met.A.Atoms.unlike a) (λ k y h. (g.met.A.Atoms.finite a k y h).2)) c.requires.goal.goal_is c.requires.held)
    c.row_of.ensures.asked

pub follow_row-requires : goal.follow_row-requires
follow_row-requires g c =
    let e = c.args.search.now in
    let x = c.infer.new.self in
    let m = g.A.Atoms.held c.args.atoms.now in
    let n = g.A.Atoms.held c.row_of.new.atoms in
    let r = c.args.goal.now in
    let row = c.in_ok-row in
    let is = row.ensures.row in
    record {
      made = (
        origin e x c.infer.ensures.kept r c.args.rest m n is.means,
        row_made e x c.infer.ensures.kept r c.args.rest m n c.row_of.new.store row.row c.requires.goal.goal_is c.requires.held c.row_of.ensures.holds
            c.infer.ensures.whole
            is
            row.ensures.lines,
      );
      served = unrefused row.row (sym c.refusal.ensures ∙ c.in-None.is);
      rest = subst (λ (y : Search). c.args.rest ≤ length y.frames.items) (sym c.infer.ensures.kept) c.requires.rest;
    }

pub returns-in_err-outcome-in-None-clause-asked : goal.returns-in_err-outcome-in-None-clause-asked
returns-in_err-outcome-in-None-clause-asked g c =
    let e = c.args.search.now in
    let a = c.args.atoms.now in
    let m = g.A.Atoms.held a in
    gains_weaker _ _ (g.A.Atoms.asked a) (g.A.Atoms.asked c.row_of.new.atoms)
    (asked_given e c.infer.new.self c.infer.ensures.kept c.args.goal.now c.args.rest m (g.met.A.Atoms.fixed_held a)
    (texts_apart m (g.met.A.Atoms.unlike a) (λ k y h. (g.met.A.Atoms.finite a k y h).2)) c.requires.goal.goal_is c.requires.held)
    c.row_of.ensures.asked

pub returns-in_ok-outcome-in-None-clause-tried : goal.returns-in_ok-outcome-in-None-clause-tried
returns-in_ok-outcome-in-None-clause-tried g c =
    let e = c.args.search.now in
    let x = c.infer.new.self in
    let kept = c.infer.ensures.kept in
    let m = g.A.Atoms.held c.args.atoms.now in
    let n = g.A.Atoms.held c.row_of.new.atoms in
    let r = c.args.goal.now in
    let f = c.follow_row.new.search in
    let o = c.in_ok-outcome-in-None in
    let row = c.in_ok-row in
    let is = row.ensures.row in
    let z = origin e x kept r c.args.rest m n is.means in
    let made = row_made e x kept r c.args.rest m n c.row_of.new.store row.row c.requires.goal.goal_is c.requires.held c.row_of.ensures.holds
    c.infer.ensures.whole is row.ensures.lines in
    led_leads e x kept r c.args.rest m n f o.outcome c.requires.goal
    (subst (IsCosted e x kept r c.args.rest) c.if-not-infer.false c.infer.ensures.step) c.row_of.ensures.holds c.requires.held is.means is.row_is
    o.ensures.whole (o.ensures.after z made) (λ t view grown. o.ensures.step z t made view grown)

pub returns-in_ok-outcome-in-None-clause-asked : goal.returns-in_ok-outcome-in-None-clause-asked
returns-in_ok-outcome-in-None-clause-asked g c =
    let e = c.args.search.now in
    let a = c.args.atoms.now in
    let m = g.A.Atoms.held a in
    gains_weaker _ _ (g.A.Atoms.asked a) (g.A.Atoms.asked c.row_of.new.atoms)
    (asked_given e c.infer.new.self c.infer.ensures.kept c.args.goal.now c.args.rest m (g.met.A.Atoms.fixed_held a)
    (texts_apart m (g.met.A.Atoms.unlike a) (λ k y h. (g.met.A.Atoms.finite a k y h).2)) c.requires.goal.goal_is c.requires.held)
    c.row_of.ensures.asked

pub returns-in-Some-clause-asked : goal.returns-in-Some-clause-asked
returns-in-Some-clause-asked g c =
    let e = c.args.search.now in
    let a = c.args.atoms.now in
    let m = g.A.Atoms.held a in
    gains_weaker _ _ (g.A.Atoms.asked a) (g.A.Atoms.asked c.row_of.new.atoms)
    (asked_given e c.infer.new.self c.infer.ensures.kept c.args.goal.now c.args.rest m (g.met.A.Atoms.fixed_held a)
    (texts_apart m (g.met.A.Atoms.unlike a) (λ k y h. (g.met.A.Atoms.finite a k y h).2)) c.requires.goal.goal_is c.requires.held)
    c.row_of.ensures.asked
