use Rattle.std.proofs.Common.{subst, sym}
use Rattle.atom_api.specs.Names.{Names}
use Rattle.atom_words.specs.Seats.{seen}
use Rattle.atom_table.specs.Naming.{names}
use Rattle.world_api.specs.Texts.{text_of}
use Rattle.pl_hub.specs.Fronts.{told_of}
use Rattle.hub_tests.specs.Players.{IsPlayer}
use Rattle.hub_tests.specs.Ready.{IsReady}
use Rattle.hub_tests.proofs.OpenLists.{open_later, still_held, visit_grows}
use Rattle.hub_tests.proofs.players.Player.say.Goals as goal

pub invariant_of-self : goal.invariant_of-self
invariant_of-self g c =
    let goals = g.K.Naming.goals in
    let here = c.self.inside in
    let m : Names = names (seen c.self.inside.atoms.seat) in
    let n : Names = names (seen c.session-answer.new.atoms.seat) in
    let old = told_of goals c.self.inside.front in
    let new = told_of goals c.session-answer.new.front in
    let ready = subst (IsReady here.own) (sym c.in_ok-visit.ensures) c.in_ok-visit_of.ensures in
    let more = visit_grows here.own c.in_ok-visit.visit ready (text_of m) (text_of n) old c.args.shared.now.seen new c.session-answer.result c.session-answer.ensures.visited in
    subst (λ (x : Names). IsPlayer here.history.now g.K.Naming.history goals here.engine here.own x c.session-answer.new.front here.is_open here.key here.generation here.place) (sym c.told.ensures)
    (record {
      history = c.self.invariant.history;
      runs = c.session-answer.ensures.own;
      holds = still_held m n c.session-answer.ensures.holds here.own c.self.invariant.holds;
      listed = λ e.
          open_later m n here.atoms.lawful.stand c.session-answer.new.atoms.lawful.stand c.session-answer.ensures.holds here.own here.key here.generation here.place old new c.self.invariant.holds more
          (c.self.invariant.listed e);
    })
