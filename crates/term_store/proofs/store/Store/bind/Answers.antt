use Rattle.std.proofs.Common.{refl}
use Rattle.term_store.proofs.Answering.{slot_binds, if_ok, adds_bind}
use Rattle.term_store.proofs.store.Store.bind.Goals as goal

pub bind-requires-clause-below : goal.bind-requires-clause-below
bind-requires-clause-below c =
    (slot_binds c.args.self.now _ c.args.var c.args.to c.in-Var.slot c.deref-word.result c.self.view_is c.requires.may c.self.invariant.0.fit
    c.in-Var.ensures.inside c.in-Var.ensures.free c.in-Var.ensures.means c.deref-word.ensures.inside c.deref-word.ensures.free c.deref-word.ensures.means).below

pub bind-requires-clause-absent : goal.bind-requires-clause-absent
bind-requires-clause-absent c =
    (slot_binds c.args.self.now _ c.args.var c.args.to c.in-Var.slot c.deref-word.result c.self.view_is c.requires.may c.self.invariant.0.fit
    c.in-Var.ensures.inside c.in-Var.ensures.free c.in-Var.ensures.means c.deref-word.ensures.inside c.deref-word.ensures.free c.deref-word.ensures.means).absent

pub returns-in-Var-clause-bound : goal.returns-in-Var-clause-bound
returns-in-Var-clause-bound c =
    if_ok c.bind.result c.bind.ensures.bound
    ((slot_binds c.args.self.now _ c.args.var c.args.to c.in-Var.slot c.deref-word.result c.self.view_is c.requires.may c.self.invariant.0.fit
    c.in-Var.ensures.inside c.in-Var.ensures.free c.in-Var.ensures.means c.deref-word.ensures.inside c.deref-word.ensures.free c.deref-word.ensures.means).bound_in _)

pub returns-in-Var-clause-adds : goal.returns-in-Var-clause-adds
returns-in-Var-clause-adds c =
    adds_bind c.bind.result c.args.self.now _ _ c.in-Var.slot c.deref-word.result c.self.view_is c.bind.ensures.bound c.bind.ensures.kept refl refl
