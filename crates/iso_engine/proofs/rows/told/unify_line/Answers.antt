use Rattle.std.proofs.Common.{◌≡◌, [], ◌∷◌, pos, rules, sym, ap, subst, ◌∙◌, w64}
use Rattle.std.proofs.lemmas.Int.{to_z-of_z}
use Rattle.std.proofs.lemmas.List.Elements.{All-cons, All-nil}
use mir.Val.{of_z, to_z}
use Rattle.pl_term.specs.Tree.{int}
use Rattle.term_store.specs.Contents.{Holds}
use Rattle.iso_search.specs.declared.told.Line.{Line}
use Rattle.iso_search.specs.declared.told.Line.TheVariants.{Flag, Operator}
use Rattle.iso_engine.specs.ToldLines.{IsLineUnified}
use Rattle.iso_engine.proofs.ToldLaws.{flag_stands, indicator_stands, line_unified, operator_stands}
use Rattle.iso_engine.proofs.rows.told.unify_line.Goals as goal

pub unify_arguments-requires-clause-term : goal.unify_arguments-requires-clause-term
unify_arguments-requires-clause-term c = c.in_ok-indicator-in-Indicator.ensures.grows.stays.adds.places c.args.goal c.requires

pub unify_arguments-requires-in-Flag-clause-places : goal.unify_arguments-requires-in-Flag-clause-places
unify_arguments-requires-in-Flag-clause-places c =
    let s = c.args.store.now in
    All-cons (Holds s) c.atom.result (c.constant_place.result ∷ []) (c.atom.ensures s).0
    (All-cons (Holds s) c.constant_place.result [] (c.constant_place.ensures s).0 (All-nil (Holds s)))

pub unify_arguments-requires-in-Operator-clause-places : goal.unify_arguments-requires-in-Operator-clause-places
unify_arguments-requires-in-Operator-clause-places c =
    let s = c.args.store.now in
    All-cons (Holds s) c.integer.result (c.atom-in-Operator.result ∷ c.atom-in-Operator-2.result ∷ []) (c.integer.ensures s).0
    (All-cons (Holds s) c.atom-in-Operator.result (c.atom-in-Operator-2.result ∷ []) (c.atom-in-Operator.ensures s).0
    (All-cons (Holds s) c.atom-in-Operator-2.result [] (c.atom-in-Operator-2.ensures s).0 (All-nil (Holds s))))

pub returns-in_ok-same-in-Indicator : goal.returns-in_ok-same-in-Indicator
returns-in_ok-same-in-Indicator c =
    let made = c.indicator_of.new.store in
    let p = c.in_ok-indicator-in-Indicator.indicator in
    let k = c.in_ok-indicator-in-Indicator.ensures in
    let same = c.in_ok-same-in-Indicator in
    subst (λ (l : Line). IsLineUnified same.same c.args.store.now c.args.goal l c.unify_arguments.new.store) (sym c.in-Indicator.is)
    (record {
      made = made;
      places = p ∷ [];
      grows = k.grows;
      inside = All-cons (Holds made) p [] k.inside (All-nil (Holds made));
      stand = λ v view. indicator_stands v view made p c.in-Indicator.name c.in-Indicator.arity k.stands;
      unified = same.ensures.unified;
      adds = same.ensures.adds;
      size = same.ensures.size;
    })

pub returns-in_ok-same-in-Flag : goal.returns-in_ok-same-in-Flag
returns-in_ok-same-in-Flag c =
    let s = c.args.store.now in
    let u = c.unify_arguments-in-Flag.new.store in
    let same = c.in_ok-same-in-Flag in
    let ps = c.atom.result ∷ c.constant_place.result ∷ [] in
    subst (λ (l : Line). IsLineUnified same.same s c.args.goal l u) (sym c.in-Flag.is)
    (line_unified same.same s c.args.goal (Flag c.in-Flag.flag c.in-Flag.value) u ps
    (All-cons (Holds s) c.atom.result (c.constant_place.result ∷ []) (c.atom.ensures s).0
    (All-cons (Holds s) c.constant_place.result [] (c.constant_place.ensures s).0 (All-nil (Holds s))))
    (λ v view. flag_stands v s c.atom.result c.constant_place.result c.in-Flag.flag c.in-Flag.value (c.atom.ensures s).1 ((c.constant_place.ensures s).1 v))
    same.ensures.unified same.ensures.adds same.ensures.size)

pub returns-in_ok-same-in-Operator : goal.returns-in_ok-same-in-Operator
returns-in_ok-same-in-Operator c =
    let s = c.args.store.now in
    let u = c.unify_arguments-in-Operator.new.store in
    let same = c.in_ok-same-in-Operator in
    let p = c.integer.result in
    let q = c.atom-in-Operator.result in
    let r = c.atom-in-Operator-2.result in
    let x = c.in-Operator in
    let same_number : to_z w64 (of_z w64 c.from-number.result) ≡ c.from-number.result = search (rules, to_z-of_z) in
    let number : to_z w64 (of_z w64 c.from-number.result) ≡ pos x.priority = same_number ∙ c.from-number.ensures in
    subst (λ (l : Line). IsLineUnified same.same s c.args.goal l u) (sym x.is)
    (line_unified same.same s c.args.goal (Operator x.priority x.specifier x.name) u (p ∷ q ∷ r ∷ [])
    (All-cons (Holds s) p (q ∷ r ∷ []) (c.integer.ensures s).0
    (All-cons (Holds s) q (r ∷ []) (c.atom-in-Operator.ensures s).0 (All-cons (Holds s) r [] (c.atom-in-Operator-2.ensures s).0 (All-nil (Holds s)))))
    (λ v view. operator_stands v s p q r x.priority x.specifier x.name ((c.integer.ensures s).1 ∙ ap int number) (c.atom-in-Operator.ensures s).1 (c.atom-in-Operator-2.ensures s).1)
    same.ensures.unified same.ensures.adds same.ensures.size)
