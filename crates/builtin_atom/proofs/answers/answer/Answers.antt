use Rattle.std.proofs.Common.{zero, [], ◌∷◌, refl, sym, subst}
use Rattle.builtin_rows.specs.declared.row.Places.TheVariants.{Two}
use Rattle.builtin_rows.specs.declared.row.Row.TheVariants.{Answer}
use Rattle.builtin_rows.specs.Rows.{IsRow}
use Rattle.builtin_atom.specs.Answering.{pair_at}
use Rattle.builtin_atom.proofs.Rows.{charged_parts, fits_is}
use Rattle.builtin_atom.proofs.answers.answer.Goals as goal

pub returns-in-None-clause-row : goal.returns-in-None-clause-row
returns-in-None-clause-row c m p ts first second next below =
    let s = c.args.store.now in
    let t = c.take_cells.new.store in
    subst (λ g. IsRow s next ts g m t (Answer (Two c.args.first c.args.second) zero))
    (sym (fits_is p ts (pair_at m s c.args.first c.args.second) next s.used s.budget 0 below c.in-None.ensures.fits))
    (charged_parts m s t next 0 c.args.first c.args.second (c.args.first ∷ (c.args.second ∷ [])) c.in-None.ensures.taken refl c.requires.first c.requires.second first second)
