use Rattle.std.proofs.Common.{◌+◌, ◌++◌, List, take, sym, ap, subst, append-nil, ◌∙◌}
use Rattle.term_store.specs.declared.words.Place.{Place}
use Rattle.atom_parts.specs.declared.tables.Placed.{Placed}
use Rattle.atom_parts.specs.Tables.{AreAt, IsPlaced, IsShort}
use Rattle.atom_parts.proofs.TableLaws.{asked_more, at_more, given_at, given_kept, none_handed}
use Rattle.atom_parts.proofs.tables.column_places.Goals as goal

pub returns-in_err-next-clause-asked : goal.returns-in_err-next-clause-asked
returns-in_err-next-clause-asked g c =
    asked_more c.args.text.now c.args.columns.now c.loop-i.i c.column_at-column.result _ _ _ c.loop-i-test.true c.column_at-column.ensures c.loop-i.invariant.asked c.column_place.ensures.asked

pub returns-in_err-push-in-At-clause-asked : goal.returns-in_err-push-in-At-clause-asked
returns-in_err-push-in-At-clause-asked g c =
    asked_more c.args.text.now c.args.columns.now c.loop-i.i c.column_at-column.result _ _ _ c.loop-i-test.true c.column_at-column.ensures c.loop-i.invariant.asked c.column_place.ensures.asked

pub returns-in-Refused-clause-asked : goal.returns-in-Refused-clause-asked
returns-in-Refused-clause-asked g c =
    asked_more c.args.text.now c.args.columns.now c.loop-i.i c.column_at-column.result _ _ _ c.loop-i-test.true c.column_at-column.ensures c.loop-i.invariant.asked c.column_place.ensures.asked

pub loop-i-preserved : goal.loop-i-preserved
loop-i-preserved g c =
    let text = c.args.text.now in
    let cs = c.args.columns.now in
    let i = c.loop-i.i in
    let m = g.A.Atoms.held c.args.atoms.now in
    let k = g.A.Atoms.held c.loop-i.atoms in
    let n = g.A.Atoms.held c.column_place.new.atoms in
    let old = g.A.Atoms.refusals c.loop-i.atoms in
    let inv = c.loop-i.invariant in
    let p = c.in-At.place in
    let x = c.column_at-column.result in
    let a = c.place_at-argument.result in
    record {
      holds = λ b t h. c.column_place.ensures.holds b t (inv.holds b t h);
      refusals =
          c.column_place.ensures.refusals
          ∙ ap (λ l. old ++ l) (none_handed c.column_place.result c.in_ok-next.next p c.in_ok-next.was c.in-At.is) ∙ append-nil old ∙ inv.refusals;
      asked = asked_more text cs i x _ _ _ c.loop-i-test.true c.column_at-column.ensures inv.asked c.column_place.ensures.asked;
      placed = λ s given.
          subst (λ (qs : List Place). AreAt n s text (take (i + 1) cs) qs) (sym c.in_ok-push-in-At.ensures.items)
          (at_more k n c.column_place.ensures.holds s text cs i x c.loop-i.places.items p c.loop-i-test.true c.column_at-column.ensures (inv.placed s given)
          (subst (λ (e : Placed). IsPlaced k n text x a e) c.in-At.is c.in_ok-next.ensures.placed s
          (given_kept m k inv.holds s text x a
          (given_at m s text cs c.args.arguments.now i x a c.loop-i-test.true c.column_at-column.ensures c.place_at-argument.ensures given))));
    }

pub column_place-requires : goal.column_place-requires
column_place-requires g c =
    subst (IsShort c.args.text.now) (c.column_at-column.ensures c.column_at-column.result)
    (c.requires.short c.loop-i.i c.column_at-column.result c.loop-i-test.true)
