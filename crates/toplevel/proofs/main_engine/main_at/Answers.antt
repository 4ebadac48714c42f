use Rattle.std.proofs.Common.{sym, ◌∙◌}
use Rattle.toplevel.proofs.MainLaws.{place_is}
use Rattle.toplevel.proofs.main_engine.main_at.Goals as goal

pub returns-in-None : goal.returns-in-None
returns-in-None c p h x f =
    c.waiting.ensures p h x c.args.part.now c.args.quotes f c.in-None.is
    (place_is p c.args.name.now h c.args.script c.args.text.items c.args.part.now c.args.quotes x f c.in_ok-hand.hand
    (λ job cs y state o q there. c.in_ok-hand.ensures job cs y state (o ∙ sym c.deref.ensures) q there))

pub returns-in-Some : goal.returns-in-Some
returns-in-Some c p h x f =
    c.ended.ensures p h x f c.in-Some.is
    (place_is p c.args.name.now h c.args.script c.args.text.items c.args.part.now c.args.quotes x f c.in_ok-hand.hand
    (λ job cs y state o q there. c.in_ok-hand.ensures job cs y state (o ∙ sym c.deref.ensures) q there))
