use Rattle.std.proofs.Common.{◌∙◌, sym, subst}
use Rattle.term_store.specs.declared.shorts.Short.TheVariants.{Term}
use Rattle.term_store.specs.GroundMarks.{IsMarked}
use Rattle.term_store.proofs.Constants.{constant_short}
use Rattle.term_store.proofs.Finding.{constant_marked}
use Rattle.term_store.proofs.Shorting.{word_is}
use Rattle.term_store.proofs.made_ground.is_ground_short.Goals as goal

pub returns-in-Term : goal.returns-in-Term
returns-in-Term c e w is =
    subst (IsMarked c.args.grounds.now) (sym (word_is c.args.short (Term c.in-Term.k) w tt c.in-Term.is is)) (sym c.marked_at.ensures ∙ e)

pub returns : goal.returns
returns c e w is =
    constant_marked c.args.grounds.now w (constant_short c.args.short w c.in_default.not-Slot c.in_default-short.not-Term is)
