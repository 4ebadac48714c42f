use Rattle.std.proofs.Common.{refl, sym, ◌∙◌}
use Rattle.toplevel.proofs.FirstLaws.{first_stands, main_so}
use Rattle.toplevel.proofs.main_engine.main_of.Goals as goal

pub returns-in-First : goal.returns-in-First
returns-in-First c p board h once o =
    main_so p c.args.name.now board h c.args.opened o c.in-First.script once c.in-First.is (sym c.is_lost.ensures ∙ c.if-is_lost.false) c.if-part-ne1.false _
    (c.in_ok-main-in-First.ensures p h _ (first_stands p c.args.name.now board h c.args.opened o c.in-First.script once c.in-First.is (sym c.is_lost.ensures ∙ c.if-is_lost.false) c.if-part-ne1.false))
