use Rattle.std.proofs.Common.{Some, None, codes, sym, ap, subst, ◌∙◌}
use Rattle.pl_term.specs.Tree.{Chars}
use Rattle.atom_api.specs.FixedNames.{main_name}
use Rattle.world_api.proofs.Gaining.{gains_weaker}
use Rattle.iso_engine.specs.Leaving.{IsStayingAs}
use Rattle.iso_engine.specs.Standing.{staying}
use Rattle.iso_engine.specs.declared.engine.Stays.{Stays}
use Rattle.iso_engine.proofs.GoalNames.{main_is}
use Rattle.iso_engine.proofs.state.leaving.staying_as.Goals as goal

pub returns-in-No-clause-named : goal.returns-in-No-clause-named
returns-in-No-clause-named g c = subst (λ (x : Stays). IsStayingAs (g.A.Atoms.held c.args.atoms.now) (staying x) None) (sym c.in-No.is) tt

pub returns-in-AsMain-clause-named : goal.returns-in-AsMain-clause-named
returns-in-AsMain-clause-named g c =
    subst (λ (x : Stays). IsStayingAs (g.A.Atoms.held c.args.atoms.now) (staying x) (Some main_name)) (sym c.in-AsMain.is)
    (g.met.A.Atoms.fixed_held c.args.atoms.now main_name (codes "main") main_is)

pub returns-in_ok-name-in-AsGoal-clause-named : goal.returns-in_ok-name-in-AsGoal-clause-named
returns-in_ok-name-in-AsGoal-clause-named g c =
    subst (λ (x : Stays). IsStayingAs (g.A.Atoms.held c.interned.new.atoms) (staying x) (Some c.in_ok-name-in-AsGoal.name)) (sym c.in-AsGoal.is)
    (c.in_ok-name-in-AsGoal.ensures.is ∙ ap Some c.in_ok-alias-in-AsGoal.ensures)

pub returns-in_ok-name-in-AsGoal-clause-asks : goal.returns-in_ok-name-in-AsGoal-clause-asks
returns-in_ok-name-in-AsGoal-clause-asks g c =
    gains_weaker _ _ (g.A.Atoms.asked c.args.atoms.now) (g.A.Atoms.asked c.interned.new.atoms)
    (λ (x : Chars) is. ap staying c.in-AsGoal.is ∙ ap Some (sym (is ∙ c.in_ok-alias-in-AsGoal.ensures))) c.interned.ensures.asks

pub returns-in_err-name-in-AsGoal-clause-asks : goal.returns-in_err-name-in-AsGoal-clause-asks
returns-in_err-name-in-AsGoal-clause-asks g c =
    gains_weaker _ _ (g.A.Atoms.asked c.args.atoms.now) (g.A.Atoms.asked c.interned.new.atoms)
    (λ (x : Chars) is. ap staying c.in-AsGoal.is ∙ ap Some (sym (is ∙ c.in_ok-alias-in-AsGoal.ensures))) c.interned.ensures.asks
